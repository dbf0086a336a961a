-- The items that a false block names are calls, or one configuration: they make a lawful body.
use Rattle.std.specs.Prelude.{ℕ, zero, suc, ◌⊎◌, ◌≡◌, ◌++◌, List, [], ◌∷◌, length, get_or, Option, Some, None, IfSome, refl}
use Rattle.std.specs.List.{AllByRecursion}
use Rattle.std.specs.Option.{option_or}
use Rattle.std.proofs.Common.{ap, inl, inr, arith}
use Rattle.std.proofs.lemmas.List.Elements.{All-from_recursion, recursion_from_All}
use Rattle.txn_types.specs.declared.block.Config.{Config}
use Rattle.txn_types.specs.declared.stream.Piece.{Piece}
use Rattle.txn_types.specs.declared.stream.Piece.TheVariants as piece
use Rattle.txn_types.specs.declared.txn.Txn.{Txn}
use Rattle.oxii_defs.specs.Lawful.{IsLawfulBody, IsLawfulConfig, IsLawfulTxn}
use Rattle.oxii_defs.specs.Table.{Table}
use Rattle.node_defs.specs.LawfulItems.{AreLawfulPieces, IsLawfulPiece}
use Rattle.node_defs.specs.World.{MayBeNamed, Setting}
use Rattle.node_defs.specs.Sayings.{config_of_piece, config_named, txns_named, txns_of_piece}
use Rattle.node_defs.specs.LawfulEvents.{AreNamed}

-- each of these items is a call: they have no configuration, and one transaction each
pub record AreCalls (s : Setting) (items : List ℕ) : Type 0 where
  pub no_config : config_named s.pieces items ≡ None
  pub one_each : length (txns_named s.pieces items) ≡ length items

-- they have a configuration, and no transaction
pub record IsOneConfig (s : Setting) (items : List ℕ) : Type 0 where
  pub config : Config
  pub is : config_named s.pieces items ≡ Some config
  pub no_txns : txns_named s.pieces items ≡ []

module _ (s : Setting) where
  one_call : (count : ℕ) (i : ℕ) (rest : List ℕ) (p : Option Piece) → (count ≡ 1 → ⊥) → MayBeNamed count p → AreCalls s rest →
      (option_or (config_of_piece p) (config_named s.pieces rest) ≡ None) × (length (txns_of_piece p ++ txns_named s.pieces rest) ≡ suc (length rest))
  one_call count i rest None many h more = absurd h
  one_call count i rest (Some (piece.Call t)) many h more = (more.no_config, ap (λ n. suc n) more.one_each)
  one_call count i rest (Some (piece.Config c)) many h more = absurd (many h)

  -- where so many may stand that none of them is a configuration
  calls : (count : ℕ) (items : List ℕ) → (count ≡ 1 → ⊥) → AllByRecursion (λ i. MayBeNamed count (get_or s.pieces i None)) items → AreCalls s items
  calls count [] many all = record { no_config = refl; one_each = refl }
  calls count (i ∷ rest) many all =
      let h = one_call count i rest (get_or s.pieces i None) many all.0 (calls count rest many all.1) in record { no_config = h.0; one_each = h.1 }

  one_item : (i : ℕ) (p : Option Piece) → get_or s.pieces i None ≡ p → MayBeNamed 1 p → AreCalls s (i ∷ []) ⊎ IsOneConfig s (i ∷ [])
  one_item i None e h = absurd h
  one_item i (Some (piece.Call t)) e h =
      inl (record { no_config = ap (λ p. option_or (config_of_piece p) None) e; one_each = ap (λ p. length (txns_of_piece p ++ [])) e })
  one_item i (Some (piece.Config c)) e h =
      inr (record { config = c; is = ap (λ p. option_or (config_of_piece p) None) e; no_txns = ap (λ p. txns_of_piece p ++ []) e })

  -- what a false block may name are calls, or one configuration
  pub calls_or_config : (items : List ℕ) → AreNamed s items → AreCalls s items ⊎ IsOneConfig s items
  calls_or_config [] named = let h = named.some in absurd (omega arith)
  calls_or_config (i ∷ []) named = one_item i (get_or s.pieces i None) refl (recursion_from_All (λ i. MayBeNamed 1 (get_or s.pieces i None)) (i ∷ []) named.each).0
  calls_or_config (i ∷ j ∷ rest) named =
      let count = length (i ∷ j ∷ rest) in
      inl (calls count (i ∷ j ∷ rest) (λ e. omega arith) (recursion_from_All (λ i. MayBeNamed count (get_or s.pieces i None)) (i ∷ j ∷ rest) named.each))

-- LAWFUL BODIES

-- what stands at a place of lawful pieces is lawful
lawful_at : (table : Table) (pieces : List (Option Piece)) (i : ℕ) → AllByRecursion (λ p. IfSome p (IsLawfulPiece table)) pieces → IfSome (get_or pieces i None) (IsLawfulPiece table)
lawful_at table [] i all = tt
lawful_at table (p ∷ pieces) zero all = all.0
lawful_at table (p ∷ pieces) (suc i) all = lawful_at table pieces i all.1

module _ (table : Table) (s : Setting) (lawful : AllByRecursion (λ p. IfSome p (IsLawfulPiece table)) s.pieces) where
  one_txn : (p : Option Piece) (more : List Txn) → IfSome p (IsLawfulPiece table) → AllByRecursion (IsLawfulTxn table) more → AllByRecursion (IsLawfulTxn table) (txns_of_piece p ++ more)
  one_txn None more h all = all
  one_txn (Some (piece.Call t)) more h all = (h, all)
  one_txn (Some (piece.Config c)) more h all = all

  txns_lawful : (items : List ℕ) → AllByRecursion (IsLawfulTxn table) (txns_named s.pieces items)
  txns_lawful [] = tt
  txns_lawful (i ∷ rest) = one_txn (get_or s.pieces i None) (txns_named s.pieces rest) (lawful_at table s.pieces i lawful) (txns_lawful rest)

  one_config : (p : Option Piece) (more : Option Config) → IfSome p (IsLawfulPiece table) → IfSome more (IsLawfulConfig table) → IfSome (option_or (config_of_piece p) more) (IsLawfulConfig table)
  one_config None more h k = k
  one_config (Some (piece.Call t)) more h k = k
  one_config (Some (piece.Config c)) more h k = h

  config_lawful : (items : List ℕ) → IfSome (config_named s.pieces items) (IsLawfulConfig table)
  config_lawful [] = tt
  config_lawful (i ∷ rest) = one_config (get_or s.pieces i None) (config_named s.pieces rest) (lawful_at table s.pieces i lawful) (config_lawful rest)

  body_lawful : (items : List ℕ) → AreNamed s items → AreCalls s items ⊎ IsOneConfig s items → IsLawfulBody table (txns_named s.pieces items) (config_named s.pieces items)
  body_lawful items named (inl h) =
      let e = h.one_each in
      let some = named.some in
      let few = named.few in
      rw h.no_config ((omega arith, omega arith), All-from_recursion (IsLawfulTxn table) (txns_named s.pieces items) (txns_lawful items))
  body_lawful items named (inr h) = rw h.is (h.no_txns, rw h.is at (config_lawful items))

-- where the pieces of the stream are lawful, what a false block may name makes a lawful body
pub named_items_are_lawful : (table : Table) (s : Setting) (items : List ℕ) → AreLawfulPieces table s.pieces → AreNamed s items → IsLawfulBody table (txns_named s.pieces items) (config_named s.pieces items)
named_items_are_lawful table s items lawful named =
    body_lawful table s (recursion_from_All (λ p. IfSome p (IsLawfulPiece table)) s.pieces lawful) items named (calls_or_config s items named)
