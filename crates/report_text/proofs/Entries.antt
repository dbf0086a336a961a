-- The entries of a ledger, one after another.
use Rattle.std.proofs.Common.{◌≡◌, ◌⊎◌, inl, inr, ◌<◌, ◌≤◌, ℕ, suc, ◌+◌, List, [], ◌∷◌, ◌++◌, length, map, get_or, drop, drop-cons, add-one, Some, None, slice_get, refl, sym, ap, ◌∙◌, subst, arith}
use Rattle.std.specs.List.{All, flat_map}
use Rattle.std.specs.Prelude.{option_map}
use Rattle.std.proofs.lemmas.List.{length-map}
use Rattle.std.proofs.lemmas.Option.{slice_get-map, slice_get_cases, get_or_from_slice_get}
use Rattle.txn_types.specs.declared.block.Block.{Block}
use Rattle.txn_types.specs.declared.txn.Txn.{Txn}
use Rattle.txn_types.specs.declared.txn.Outcome.{Outcome}
use Rattle.oxii_defs.specs.Table.{Table}
use Rattle.oxii_defs.specs.Lawful.{IsLawfulBlock}
use Rattle.oxii_defs.specs.Lines as lines
use Rattle.oxii_defs.specs.Lines.{entry_lines}
use Rattle.hash_ledger.specs.declared.entry.Entry.{Entry}
use Rattle.hash_ledger.specs.Ledgers.{AllFit, entry_of, entries_of, IsLawfulEntry}

fit_count : (txns : List Txn) (outcomes : List Outcome) → AllFit txns outcomes → length outcomes ≡ length txns
fit_count [] [] h = refl
fit_count [] (o ∷ outcomes) h = absurd h
fit_count (t ∷ txns) [] h = absurd h
fit_count (t ∷ txns) (o ∷ outcomes) h = ap suc (fit_count txns outcomes h.1)

-- an entry by its block and its outcomes
abbrev made : Block → List Outcome → lines.Entry
made b outcomes = record { block = b; outcomes = outcomes }

same_block : (e : Entry) (b : Block) → option_map (λ x. x.block) (Some e) ≡ Some b → e.block ≡ b
same_block e b h = cc

same_outcomes : (e : Entry) (outcomes : List Outcome) → option_map (λ x. x.outcomes) (Some e) ≡ Some outcomes → e.outcomes ≡ outcomes
same_outcomes e outcomes h = cc

module _ (entries : List Entry) (i : ℕ) (b : Block) (os : List Outcome) (lt : i < length entries)
    (has_block : slice_get (map (λ e. e.block) entries) i ≡ Some b) (has_outcomes : slice_get (map (λ e. e.outcomes) entries) i ≡ Some os) where
  -- the entry with this block and these outcomes
  record IsThere : Type 0 where
    entry : Entry
    there : slice_get entries i ≡ Some entry
    at : get_or entries i entry ≡ entry
    block : entry.block ≡ b
    outcomes : entry.outcomes ≡ os

  is_there : IsThere
  is_there = by_place (slice_get_cases entries i).1
    where
      by_place : ((x : Entry) × (i < length entries) × (slice_get entries i ≡ Some x) × (get_or entries i x ≡ x)) ⊎ ((length entries ≤ i) × (slice_get entries i ≡ None)) → IsThere
      by_place (inl here) = record {
        entry = here.0;
        there = here.2;
        at = here.3;
        block = same_block here.0 b (sym (slice_get-map (λ e. e.block) entries i ∙ ap (option_map (λ x. x.block)) here.2) ∙ has_block);
        outcomes = same_outcomes here.0 os (sym (slice_get-map (λ e. e.outcomes) entries i ∙ ap (option_map (λ x. x.outcomes)) here.2) ∙ has_outcomes);
      }
      by_place (inr past) = absurd (omega (arith, lt, past.0))

  lawful_there : (table : Table) → All (IsLawfulEntry table) entries → IsLawfulEntry table is_there.entry
  lawful_there table all = subst (IsLawfulEntry table) is_there.at (all i is_there.entry lt)

  pub lawful_block : (table : Table) → All (IsLawfulEntry table) entries → IsLawfulBlock table b
  lawful_block table all = subst (IsLawfulBlock table) is_there.block (lawful_there table all).0

  pub whole_block : (table : Table) → All (IsLawfulEntry table) entries → length os ≡ length b.txns
  whole_block table all =
      ap length (sym is_there.outcomes) ∙ fit_count is_there.entry.block.txns is_there.entry.outcomes (lawful_there table all).1 ∙ ap (λ x. length x.txns) is_there.block

  entry_there : slice_get (entries_of entries) i ≡ Some (made b os)
  entry_there =
      slice_get-map entry_of entries i ∙ ap (option_map entry_of) is_there.there
      ∙ ap (λ x. Some (made x is_there.entry.outcomes)) is_there.block ∙ ap (λ x. Some (made b x)) is_there.outcomes

  pub entries_next : (table : Table) → flat_map (entry_lines table) (drop i (entries_of entries)) ≡ entry_lines table (made b os) ++ flat_map (entry_lines table) (drop (i + 1) (entries_of entries))
  entries_next table =
      let in_range : i < length (entries_of entries) = subst (λ n. i < n) (sym (length-map entries entry_of)) lt in
      let is = get_or_from_slice_get (entries_of entries) i (made b os) (made b os) entry_there in
      rw (drop-cons (entries_of entries) i (made b os) in_range, add-one, is) refl
