-- A reading means what the grammar and the limits say.
use Rattle.std.proofs.Common.{◌≡◌, ℕ, Bool, true, false, cond, ◌||◌, List, [], ◌∷◌, ◌++◌, Option, Some, None, option_and_then, length, refl, ap, subst, ◌∙◌, inl, inr, append_assoc}
use Rattle.std.proofs.lemmas.List.{append-nil}
use Rattle.std.proofs.lemmas.List.Sums.{fold-append}
use Rattle.contract_grammar.specs.declared.token.Placed.{Placed}
use Rattle.contract_grammar.specs.Tree.{Op}
use Rattle.contract_grammar.specs.Lexer.{tokens}
use Rattle.contract_grammar.specs.Modes.{At, advance, reached, begin, at_end}
use Rattle.contract_grammar.specs.Limits.{tallied, no_tally, tally, passes, IsLimit, IsWithinLimits}
use Rattle.contract_grammar.specs.Faults.{at_token, at_the_end}
use Rattle.contract_grammar.specs.Reading.{limit_at, ends_chain, ending, going, read_from, reading, ReadingMeans}
use Rattle.contract_grammar.proofs.Runs.{one, both}
use Rattle.contract_grammar.proofs.GoesOn.{can_go_on, cannot_go_on, is_contract, no_sentence}
use Rattle.contract_grammar.proofs.Chains.{chain_end}
use Rattle.contract_grammar.proofs.ChainEnds.{finds_chain}

-- an item of a list with a last one is the last one, or one of those before
data Split (p q : List Placed) (k m : Placed) : Type 0 where
  last : q ≡ p → m ≡ k → Split p q k m
  before : (rest : List Placed) → p ≡ q ++ m ∷ rest → Split p q k m

split : (p q rest : List Placed) (k m : Placed) → p ++ k ∷ [] ≡ q ++ m ∷ rest → Split p q k m
split [] [] rest k m h = let same : m ≡ k = cc in last refl same
split [] (y ∷ []) rest k m h = absurd cc
split [] (y ∷ z ∷ q) rest k m h = absurd cc
split (x ∷ p) [] rest k m h = let same : x ≡ m = cc in before p (rw same refl)
split (x ∷ p) (y ∷ q) rest k m h =
    let tails : p ++ k ∷ [] ≡ q ++ m ∷ rest = cc in
    let heads : x ≡ y = cc in
    elim (split p q rest k m tails) [
      | last is same ↦ last (rw (heads, is) refl) same
      | before more is ↦ before more (rw (heads, is) refl)
    ]

none_yet : IsWithinLimits []
none_yet [] k rest is h = cc
none_yet (x ∷ p) k rest is h = cc

within_more : (p : List Placed) (k : Placed) → IsWithinLimits p → (IsLimit p k → ⊥) → IsWithinLimits (p ++ k ∷ [])
within_more p k within never q m rest is h = elim (split p q rest k m is) [
  | last lists same ↦ never (subst (λ v. IsLimit v k) lists (subst (λ v. IsLimit q v) same h))
  | before more parts ↦ within q m more parts h
]

reached_more : (p : List Placed) (k : Placed) (z a : At) → reached begin p ≡ one z → advance z k ≡ one a → reached begin (p ++ k ∷ []) ≡ one a
unfolding reached
reached_more p k z a h is = both begin z p (k ∷ []) h ∙ ap (option_and_then (λ y. one y)) is

tally_more : (p : List Placed) (k : Placed) → tally (p ++ k ∷ []) ≡ tallied (tally p) k
tally_more p k = fold-append tallied no_tally p (k ∷ [])

ending_means : (p : List Placed) (len : ℕ) (z : At) (o : Option (List Op)) → reached begin p ≡ one z → IsWithinLimits p → at_end z ≡ o → ReadingMeans p len (ending len o)
ending_means p len z None h within is = at_the_end refl within (can_go_on p z h) (no_sentence p z h is)
ending_means p len z (Some os) h within is = (is_contract p z os h is, within)

some_limit : (p : List Placed) (k : Placed) (a : At) (over ends : Bool) → reached begin (p ++ k ∷ []) ≡ one a → passes (tally p) k ≡ over → ends_chain a.mode ≡ ends → (over || ends) ≡ true → IsLimit p k
some_limit p k a true ends h is found e = inl is
some_limit p k a false true h is found e = inr (chain_end p k a h found)
some_limit p k a false false h is found e = absurd cc

no_limit : (p : List Placed) (k : Placed) (z a : At) → reached begin p ≡ one z → advance z k ≡ one a → (passes (tally p) k || ends_chain a.mode) ≡ false → IsLimit p k → ⊥
no_limit p k z a h is e (inl found) = let wrong : (true || ends_chain a.mode) ≡ false = rw found at e in cc
no_limit p k z a h is e (inr c) = either (passes (tally p) k) (rw (finds_chain p k z a h is c) at e)
  where
    either : (b : Bool) → (b || true) ≡ false → ⊥
    either true e = cc
    either false e = cc

abbrev Again : List Placed → Placed → List Placed → ℕ → At → Type 0
Again p k ks len a = reached begin (p ++ k ∷ []) ≡ one a → IsWithinLimits (p ++ k ∷ []) → ReadingMeans ((p ++ k ∷ []) ++ ks) len (read_from a (tally (p ++ k ∷ [])) len ks)

means_from : (ks p : List Placed) (len : ℕ) (z : At) → reached begin p ≡ one z → IsWithinLimits p → ReadingMeans (p ++ ks) len (read_from z (tally p) len ks)
unfolding read_from
means_from [] p len z h within = rw append-nil (ending_means p len z (at_end z) h within refl)
means_from (k ∷ ks) p len z h within = by_step (advance z k) refl (λ a. means_from ks (p ++ k ∷ []) len a)
  where
    by_limit : (a : At) → advance z k ≡ one a → Again p k ks len a → (b : Bool) → (passes (tally p) k || ends_chain a.mode) ≡ b → ReadingMeans (p ++ k ∷ ks) len (cond b (limit_at k.span.start) (read_from a (tallied (tally p) k) len ks))
    by_limit a is again true e =
        let come = reached_more p k z a h is in
        record {
          before = p;
          token = k;
          rest = ks;
          parts = refl;
          place = refl;
          no_limit = within;
          can_go_on = can_go_on (p ++ k ∷ []) a come;
          passed = some_limit p k a (passes (tally p) k) (ends_chain a.mode) come refl refl e;
        }
    by_limit a is again false e =
        let more = again (reached_more p k z a h is) (within_more p k within (no_limit p k z a h is e)) in
        rw (append_assoc p (k ∷ []) ks, tally_more p k) at more

    by_step : (o : Option At) → advance z k ≡ o → ((a : At) → Again p k ks len a) → ReadingMeans (p ++ k ∷ ks) len (going o k.span.start (passes (tally p) k) (λ y. read_from y (tallied (tally p) k) len ks))
    by_step None is again = at_token p k ks refl refl within (can_go_on p z h) (cannot_go_on p k z h is)
    by_step (Some a) is again = by_limit a is (again a) (passes (tally p) k || ends_chain a.mode) refl

begin_here : reached begin [] ≡ one begin
unfolding reached
begin_here = refl

-- what a text's reading means
pub reading_means : (text : List ℕ) → ReadingMeans (tokens text) (length text) (reading text)
unfolding reading
reading_means text = means_from (tokens text) [] (length text) begin begin_here none_yet
