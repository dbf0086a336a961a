-- The reader finds an operator that ends a chain exactly where the tokens have one.
use Rattle.std.proofs.Common.{◌≡◌, ℕ, Bool, true, false, leb, ◌&&◌, List, [], ◌∷◌, ◌++◌, refl, sym, ap, ◌∙◌, append_assoc}
use Rattle.std.proofs.lemmas.Bool.{leb-true}
use Rattle.std.proofs.lemmas.List.{append-nil}
use Rattle.contract_grammar.specs.declared.token.Mark.TheVariants.{WordLet, WordRequire, WordIf, Becomes}
use Rattle.contract_grammar.specs.declared.token.Operator.{Operator}
use Rattle.contract_grammar.specs.declared.token.Operator.TheVariants.{Or, And, Equal, NotEqual, Less, LessEqual, Greater, GreaterEqual, Plus, Minus, Times, Divide, Remainder}
use Rattle.contract_grammar.specs.declared.token.Token.TheVariants.{Named, Infix, Not, Open}
use Rattle.contract_grammar.specs.declared.token.Placed.{Placed}
use Rattle.contract_grammar.specs.Grammar.{tok, fixed, level, left_level}
use Rattle.contract_grammar.specs.Expressions.{Pending, want, have}
use Rattle.contract_grammar.specs.Modes.{Unclosed, Use, Mode, At, reached, begin}
use Rattle.contract_grammar.specs.Limits.{Looser, behind_open, behind_infix, behind_not, behind_becomes, behind_require, behind_if, is_chain, chain_length, IsChainEnd}
use Rattle.contract_grammar.specs.Reading.{is_chain_end, ends_chain}
use Rattle.contract_grammar.proofs.Expressions.{Fits, behind}
use Rattle.contract_grammar.proofs.Spelled.{Holds, empty, opened, signed, denied}
use Rattle.contract_grammar.proofs.Runs.{one}
use Rattle.contract_grammar.proofs.SoFar.{Uses, uses_let, uses_assign, uses_require, uses_if, Own, own_expr, so_far, at_begin}

-- in a chain the left side has the operator's level
pub chain_left : (op : Operator) → is_chain op ≡ true → left_level op ≡ level op
chain_left Or h = refl
chain_left And h = refl
chain_left Equal h = cc
chain_left NotEqual h = cc
chain_left Less h = cc
chain_left LessEqual h = cc
chain_left Greater h = cc
chain_left GreaterEqual h = cc
chain_left Plus h = refl
chain_left Minus h = refl
chain_left Times h = refl
chain_left Divide h = refl
chain_left Remainder h = refl

-- ---- what the reader finds, the tokens have

record EndsLooser (l : ℕ) (ts : List Placed) : Type 0 where
  before : List Placed
  token : Placed
  parts : ts ≡ before ++ token ∷ []
  looser : Looser l token.token

ends_of_uses : {u : Use} {own : List Placed} (l : ℕ) → Uses u own → EndsLooser l own
ends_of_uses l (uses_let {w = w} {v = v} {u = u} {x = x} {long = long}) = record { before = fixed w WordLet ∷ tok v (Named x long) ∷ []; token = fixed u Becomes; parts = refl; looser = behind_becomes }
ends_of_uses l (uses_assign {v = v} {u = u} {x = x} {long = long}) = record { before = tok v (Named x long) ∷ []; token = fixed u Becomes; parts = refl; looser = behind_becomes }
ends_of_uses l (uses_require {w = w}) = record { before = []; token = fixed w WordRequire; parts = refl; looser = behind_require }
ends_of_uses l (uses_if {w = w}) = record { before = []; token = fixed w WordIf; parts = refl; looser = behind_if }

ends_of_frames : {l : ℕ} {st : List Pending} {q own : List Placed} → Holds st q → Fits l st → EndsLooser l own → EndsLooser l (own ++ q)
ends_of_frames empty f e = rw append-nil e
ends_of_frames {own = own} (opened {p = p} w h) f e = record { before = own ++ p; token = tok w Open; parts = sym (append_assoc own p (tok w Open ∷ [])); looser = behind_open }
ends_of_frames {own = own} (signed {p = p} {xs = xs} w op h g s) (behind lt) e = record { before = own ++ (p ++ xs); token = tok w (Infix op); parts = simp append_assoc; looser = behind_infix lt }
ends_of_frames {own = own} (denied {p = p} w h g) (behind lt) e = record { before = own ++ p; token = tok w Not; parts = sym (append_assoc own p (tok w Not ∷ [])); looser = behind_not lt }

-- two lists with a last item are the same if they are the same but for it
record SameEnds (p q : List Placed) (k m : Placed) : Type 0 where
  lists : p ≡ q
  last : k ≡ m

same_ends : (p q : List Placed) (k m : Placed) → p ++ k ∷ [] ≡ q ++ m ∷ [] → SameEnds p q k m
same_ends [] [] k m h = record { lists = refl; last = cc }
same_ends [] (y ∷ []) k m h = absurd cc
same_ends [] (y ∷ z ∷ q) k m h = absurd cc
same_ends (x ∷ []) [] k m h = absurd cc
same_ends (x ∷ z ∷ p) [] k m h = absurd cc
same_ends (x ∷ p) (y ∷ q) k m h =
    let tails : p ++ k ∷ [] ≡ q ++ m ∷ [] = cc in
    let heads : x ≡ y = cc in
    let more = same_ends p q k m tails in
    record { lists = rw (heads, more.lists) refl; last = more.last }

both_true : (a b : Bool) → (a && b) ≡ true → (a ≡ true) × (b ≡ true)
both_true true b h = (refl, h)
both_true false b h = absurd cc

abbrev EndsLooserAt : List Placed → Type 0
EndsLooserAt own = (l : ℕ) → EndsLooser l own

chain_of_frames : (st : List Pending) (ts : List Placed) (p q : List Placed) (k : Placed) (own : List Placed) → Holds st ts → is_chain_end (want st) ≡ true → EndsLooserAt own → p ++ k ∷ [] ≡ q ++ (own ++ ts) → IsChainEnd p k
chain_of_frames _ _ p q k own empty h e is = absurd cc
chain_of_frames _ _ p q k own (opened w r) h e is = absurd cc
chain_of_frames _ _ p q k own (denied w r f) h e is = absurd cc
chain_of_frames _ _ p q k own (signed {st = st} {p = ts} {xs = xs} {a = a} w op r f s) h e is =
    let found = both_true (is_chain op) (leb 32 (chain_length (level op) a)) h in
    let ends = ends_of_frames r f (e (level op)) in
    let same = same_ends p (q ++ ((own ++ ts) ++ xs)) k (tok w (Infix op)) (is ∙ simp append_assoc) in
    record {
      operator = op;
      is = ap (λ (y : Placed). y.token) same.last;
      chains = found.0;
      operand = a;
      stands = record {
        before = q ++ ends.before;
        token = ends.token;
        own = xs;
        looser = ends.looser;
        parts = same.lists ∙ ap (λ y. q ++ (y ++ xs)) ends.parts ∙ simp append_assoc;
        spells = rw (chain_left op found.0) at s;
      };
      long = leb-true 32 (chain_length (level op) a) found.1;
    }

chain_of_own : {bs : List Unclosed} {m : Mode} {own : List Placed} (p q : List Placed) (k : Placed) → Own bs m own → ends_chain m ≡ true → p ++ k ∷ [] ≡ q ++ own → IsChainEnd p k
chain_of_own p q k (own_expr {s = want st} {own = own} ts u r) h is = chain_of_frames st ts p q k own r h (λ l. ends_of_uses l u) is
chain_of_own p q k (own_expr {s = have e st} ts u r) h is = absurd cc
chain_of_own p q k _ h is = absurd cc

-- where the reader finds the end of a chain, the tokens have one
pub chain_end : (p : List Placed) (k : Placed) (z : At) → reached begin (p ++ k ∷ []) ≡ one z → ends_chain z.mode ≡ true → IsChainEnd p k
chain_end p k z h is = let r = so_far begin z [] (p ++ k ∷ []) at_begin h in chain_of_own p r.before k r.owns is r.parts
