-- The roles of items say what their pieces do.
use Rattle.std.proofs.Common.{◌≡◌, ℕ, zero, suc, ◌==◌, ◌+◌, ◌++◌, Bool, true, false, cond, List, [], ◌∷◌, length, map, get_or, Option, Some, None, refl, sym, ap, ◌∙◌, arith, length-append}
use Rattle.std.specs.Prelude.{slice_get}
use Rattle.std.specs.List.{AllByRecursion, flat_map}
use Rattle.std.proofs.lemmas.Bool.{eqb-true}
use Rattle.txn_types.specs.declared.stream.Piece.{Piece}
use Rattle.txn_types.specs.declared.stream.Piece.TheVariants as piece
use Rattle.node_defs.specs.World.{MayBeNamed}
use Rattle.node_defs.specs.Sayings.{txns_named, txns_of_piece}
use Rattle.doc_schedule.specs.Tables.{role_of}
use Rattle.doc_schedule.specs.Blocks.{may_stand, is_config_role, first_role, count_of}

-- ---- one item

pub may_stand_means : (count : ℕ) (pieces : List (Option Piece)) (i : ℕ) → may_stand (count == 1) (slice_get (map role_of pieces) i) ≡ true → MayBeNamed count (get_or pieces i None)
may_stand_means count [] i e = absurd cc
may_stand_means count (None ∷ pieces) zero e = absurd cc
may_stand_means count (Some (piece.Call t) ∷ pieces) zero e = tt
may_stand_means count (Some (piece.Config c) ∷ pieces) zero e = eqb-true count 1 e
may_stand_means count (p ∷ pieces) (suc i) e = may_stand_means count pieces i e

pub may_stand_reads : (count : ℕ) (pieces : List (Option Piece)) (i : ℕ) → MayBeNamed count (get_or pieces i None) → may_stand (count == 1) (slice_get (map role_of pieces) i) ≡ true
may_stand_reads count [] i h = absurd h
may_stand_reads count (None ∷ pieces) zero h = absurd h
may_stand_reads count (Some (piece.Call t) ∷ pieces) zero h = refl
may_stand_reads count (Some (piece.Config c) ∷ pieces) zero h = rw h refl
may_stand_reads count (p ∷ pieces) (suc i) h = may_stand_reads count pieces i h

-- ---- how many transactions the items carry

abbrev is_config_piece : Option Piece → Bool
is_config_piece (Some (piece.Config c)) = true
is_config_piece _ = false

role_is : (pieces : List (Option Piece)) (i : ℕ) → is_config_role (slice_get (map role_of pieces) i) ≡ is_config_piece (get_or pieces i None)
role_is [] i = refl
role_is (None ∷ pieces) zero = refl
role_is (Some (piece.Call t) ∷ pieces) zero = refl
role_is (Some (piece.Config c) ∷ pieces) zero = refl
role_is (p ∷ pieces) (suc i) = role_is pieces i

module _ (pieces : List (Option Piece)) where
  abbrev pub AreNamedAmong : ℕ → List ℕ → Type 0
  AreNamedAmong count items = AllByRecursion (λ i. MayBeNamed count (get_or pieces i None)) items

  one_call : (count n : ℕ) (p : Option Piece) → (count ≡ 1 → ⊥) → MayBeNamed count p → length (txns_of_piece p) + n ≡ suc n
  one_call count n None many h = absurd h
  one_call count n (Some (piece.Call t)) many h = omega arith
  one_call count n (Some (piece.Config c)) many h = absurd (many h)

  no_config : (count : ℕ) (p : Option Piece) → (count ≡ 1 → ⊥) → MayBeNamed count p → is_config_piece p ≡ false
  no_config count None many h = absurd h
  no_config count (Some (piece.Call t)) many h = refl
  no_config count (Some (piece.Config c)) many h = absurd (many h)

  all_calls : (count : ℕ) (items : List ℕ) → (count ≡ 1 → ⊥) → AreNamedAmong count items → length (txns_named pieces items) ≡ length items
  all_calls count [] many h = refl
  all_calls count (i ∷ rest) many h =
      let p = get_or pieces i None in
      length-append (txns_of_piece p) (flat_map (λ j. txns_of_piece (get_or pieces j None)) rest)
      ∙ ap (λ n. length (txns_of_piece p) + n) (all_calls count rest many h.1)
      ∙ one_call count (length rest) p many h.0

  one_item : (p : Option Piece) → MayBeNamed 1 p → cond (is_config_piece p) 0 1 ≡ length (txns_of_piece p ++ [])
  one_item None h = absurd h
  one_item (Some (piece.Call t)) h = refl
  one_item (Some (piece.Config c)) h = refl

  -- a configuration stands alone and is no transaction, and any other items are as many transactions
  pub count_is : (items : List ℕ) → AreNamedAmong (length items) items → count_of (map role_of pieces) items ≡ length (txns_named pieces items)
  unfolding count_of
  count_is [] h = refl
  count_is (i ∷ []) h = ap (λ b. cond b 0 1) (role_is pieces i) ∙ one_item (get_or pieces i None) h.0
  count_is (i ∷ j ∷ rest) h =
      let count = length (i ∷ j ∷ rest) in
      let many : count ≡ 1 → ⊥ = λ e. omega arith in
      ap (λ b. cond b 0 count) (role_is pieces i ∙ no_config count (get_or pieces i None) many h.0) ∙ sym (all_calls count (i ∷ j ∷ rest) many h)
