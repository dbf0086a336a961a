-- What is kept behind a NEWBLOCK that is counted.
use Rattle.std.specs.Prelude.{ℕ, ◌==◌, ◌≡◌, Bool, true, false, cond, if◌then◌else◌, List, [], ◌∷◌, ◌++◌, Option, Some, None, is_some, option_copied, refl}
use Rattle.std.specs.List.{All, find}
use Rattle.std.specs.Option.{option_map}
use Rattle.std.specs.Ordering.{nat_cmp}
use Rattle.std.proofs.Common.{Bor, inl, inr, sym, ◌∙◌, ap, subst}
use Rattle.std.proofs.lemmas.Bool.{cond-false, cond-true, eqb-true}
use Rattle.std.proofs.lemmas.List.Elements.{All-push}
use Rattle.keyed_lists.specs.Keyed.{IsPushed, items_of}
use Rattle.keyed_lists.proofs.Among.{among-map}
use Rattle.keyed_lists.proofs.Numbers.{same_number}
use Rattle.keyed_lists.proofs.Pushes.{pushed_at}
use Rattle.txn_types.specs.declared.txn.Kind.{Kind}
use Rattle.node_defs.specs.Same.{same_block}
use Rattle.evidence_marks.specs.Evidence.{orderer_order}
use Rattle.evidence_marks.specs.Marks.{MarksBehind, MarksUnless}
use Rattle.evidence_marks.proofs.Firsts.{found_is}
use Rattle.newblock_quorum.specs.declared.entry.Received.{Received}
use Rattle.newblock_quorum.specs.declared.entry.NewBlockPut.TheVariants.{Repeat, Counted}
use Rattle.newblock_quorum.specs.Entries.{HasGraph, IsBehindNewBlock, IsKeptFor, KeptNewBlocks, answer_in_inbox, blocks_of, has_sent, received_for, with_received}

-- what is kept for each number
received_more : (old : List (ℕ × List Received)) (n : ℕ) (e : Received) (new : List (ℕ × List Received)) → IsPushed nat_cmp old n e new → (m : ℕ) → received_for m new ≡ cond (n == m) (received_for n old ++ e ∷ []) (received_for m old)
received_more old n e new pushed = pushed_at nat_cmp (λ a b. a == b) same_number old n e new pushed

-- the entry of an orderer among these
abbrev pub entry_found : ℕ → List Received → Option Received
entry_found o received = find (λ e. e.orderer == o) received

-- whether an orderer has one there, by what is found of it
pub answered : (o : ℕ) (received seen : List Received) (found : Option (Bor Received)) (b : Bool) → seen ≡ received → option_copied found ≡ entry_found o seen → is_some found ≡ b → answer_in_inbox o received ≡ (if b then Repeat else Counted)
answered o received seen found b same is some =
    ap (λ c. if c then Repeat else Counted) (ap (has_sent o) (sym same) ∙ (found_is (λ e. e.orderer == o) seen ∙ (ap is_some (sym is) ∙ (copied found ∙ some))))
  where
    copied : (r : Option (Bor Received)) → is_some (option_copied r) ≡ is_some r
    copied None = refl
    copied (Some e) = refl

-- its orderer has one for its number
pub behind_repeated : (inbox new : KeptNewBlocks) (e first : Received) → entry_found e.orderer (received_for e.block.number inbox.entries) ≡ Some first → new.orderers ≡ inbox.orderers → new.quorum ≡ inbox.quorum → new.kind ≡ inbox.kind → new.entries ≡ inbox.entries
    → MarksUnless orderer_order (same_block first.block e.block) inbox.marks (record { orderer = e.orderer; n = e.block.number }) new.marks → IsBehindNewBlock inbox e.orderer e.block e.graph new
behind_repeated inbox new e first found orderers quorum kind kept marks = record {
  keeps = record { orderers = orderers; quorum = quorum; kind = kind; blocks = inl (ap (λ es. blocks_of es) kept) };
  marks = subst (λ k. MarksBehind same_block orderer_order inbox.marks (record { orderer = e.orderer; n = e.block.number }) k e.block new.marks) (sym (ap (option_map (λ (x : Received). x.block)) found)) marks;
  entries = λ m. ap (received_for m) kept ∙ one m (e.block.number == m) refl;
}
  where
    sent : has_sent e.orderer (received_for e.block.number inbox.entries) ≡ true
    sent = found_is (λ x. x.orderer == e.orderer) (received_for e.block.number inbox.entries) ∙ ap is_some found

    one : (m : ℕ) (b : Bool) → (e.block.number == m) ≡ b → received_for m inbox.entries ≡ cond b (with_received e (received_for m inbox.entries)) (received_for m inbox.entries)
    one m false h = refl
    one m true h = sym (cond-true (has_sent e.orderer (received_for m inbox.entries)) (received_for m inbox.entries) (received_for m inbox.entries ++ e ∷ []) (ap (λ k. has_sent e.orderer (received_for k inbox.entries)) (sym (eqb-true e.block.number m h)) ∙ sent))

-- its orderer had none for its number
pub behind_counted : (inbox new : KeptNewBlocks) (e : Received) → entry_found e.orderer (received_for e.block.number inbox.entries) ≡ None → new.marks ≡ inbox.marks → new.orderers ≡ inbox.orderers → new.quorum ≡ inbox.quorum → new.kind ≡ inbox.kind → IsPushed nat_cmp inbox.entries e.block.number e new.entries → IsBehindNewBlock inbox e.orderer e.block e.graph new
behind_counted inbox new e absent marks orderers quorum kind pushed = record {
  marks = subst (λ k. MarksBehind same_block orderer_order inbox.marks (record { orderer = e.orderer; n = e.block.number }) k e.block new.marks) (sym (ap (option_map (λ (x : Received). x.block)) absent)) marks;
  keeps = record { orderers = orderers; quorum = quorum; kind = kind; blocks = inr (among-map (λ (x : Received). x.block) (items_of inbox.entries) e (items_of new.entries) pushed.among) };
  entries = λ m. received_more inbox.entries n e new.entries pushed m ∙ one m (n == m) refl;
}
  where
    n : ℕ
    n = e.block.number

    unsent : has_sent e.orderer (received_for n inbox.entries) ≡ false
    unsent = found_is (λ x. x.orderer == e.orderer) (received_for n inbox.entries) ∙ ap is_some absent

    one : (m : ℕ) (b : Bool) → (n == m) ≡ b → cond b (received_for n inbox.entries ++ e ∷ []) (received_for m inbox.entries) ≡ cond b (with_received e (received_for m inbox.entries)) (received_for m inbox.entries)
    one m false h = refl
    one m true h =
        let there = ap (λ k. received_for k inbox.entries) (eqb-true n m h) in
        ap (λ es. es ++ e ∷ []) there
        ∙ sym (cond-false (has_sent e.orderer (received_for m inbox.entries)) (received_for m inbox.entries) (received_for m inbox.entries ++ e ∷ []) (ap (has_sent e.orderer) (sym there) ∙ unsent))

-- all that is kept for a number has it, and its graph
pub all_kept : (kind : Kind) (old : List (ℕ × List Received)) (e : Received) (new : List (ℕ × List Received)) → ((n : ℕ) → All (IsKeptFor kind n) (received_for n old)) → HasGraph kind e → IsPushed nat_cmp old e.block.number e new → (m : ℕ) → All (IsKeptFor kind m) (received_for m new)
all_kept kind old e new all graph pushed m = subst (All (IsKeptFor kind m)) (sym (received_more old n e new pushed m)) (one (n == m) refl)
  where
    n : ℕ
    n = e.block.number

    one : (b : Bool) → (n == m) ≡ b → All (IsKeptFor kind m) (cond b (received_for n old ++ e ∷ []) (received_for m old))
    one false h = all m
    one true h = subst (λ k. All (IsKeptFor kind k) (received_for n old ++ e ∷ [])) (eqb-true n m h) (All-push (IsKeptFor kind n) (received_for n old) e (all n) (record { number = refl; graph = graph }))
