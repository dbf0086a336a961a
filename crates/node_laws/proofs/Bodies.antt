-- What an admitted item carries is lawful, and a list of a cutting is a lawful body.
use Rattle.std.specs.Prelude.{◌≤◌, List, [], ◌∷◌, ◌++◌, length, map, Option, Some, None, Result, Ok, Err, ◌≡◌, refl, IfSome, IfOk}
use Rattle.std.specs.List.{All, AllByRecursion, flat_map}
use Rattle.std.proofs.Common.{sym, arith, subst}
use Rattle.std.proofs.lemmas.List.Elements.{All-from_recursion, recursion_from_All}
use Rattle.txn_types.specs.declared.block.Body.{Body}
use Rattle.txn_types.specs.declared.block.Config.{Config}
use Rattle.txn_types.specs.declared.stream.CutLimits.{CutLimits}
use Rattle.txn_types.specs.declared.stream.Item.{Item}
use Rattle.txn_types.specs.declared.stream.Item.TheVariants as item
use Rattle.txn_types.specs.declared.stream.Piece.{Piece}
use Rattle.txn_types.specs.declared.stream.Piece.TheVariants as piece
use Rattle.txn_types.specs.declared.stream.Reject.{Reject}
use Rattle.txn_types.specs.declared.txn.Txn.{Txn}
use Rattle.oxii_defs.specs.Lawful.{IsLawfulBody, IsLawfulTxn}
use Rattle.oxii_defs.specs.Table.{Table}
use Rattle.node_defs.specs.Admission.{admit, piece_of, piece_of_answer, pieces_of}
use Rattle.node_defs.specs.LawfulItems.{IsLawfulItem, IsLawfulPiece, AreLawfulLimits}
use Rattle.node_defs.specs.Cutting.{AdmittedItem, IsAlone, IsPart, admitted, admitted_with, carried_body, config_in, mark_comes, txns_in, txns_in_piece}
use Rattle.node_defs.proofs.Admitted.{admit_lawful}
use Rattle.node_laws.proofs.Cuttings.{no_config}
use Rattle.node_laws.specs.LawfulBodies.{LawfulBodies, LawfulPieces}

-- ADMITTED ITEMS

abbrev AllLawful : Table → List AdmittedItem → Type 0
AllLawful table xs = AllByRecursion (λ x. IsLawfulPiece table x.piece) xs

answer_lawful : (table : Table) (r : Result Txn Reject) → IfOk r (IsLawfulTxn table) → IfSome (piece_of_answer r) (IsLawfulPiece table)
answer_lawful table (Ok t) h = h
answer_lawful table (Err why) h = tt

piece_lawful : (table : Table) (x : Item) → IsLawfulItem table x → IfSome (piece_of table x) (IsLawfulPiece table)
piece_lawful table (item.Ask q) h = answer_lawful table (admit table q) (admit_lawful table q h)
piece_lawful table item.Mark h = tt
piece_lawful table (item.Config c) h = h

all_lawful : (table : Table) (items : List Item) → AllByRecursion (IsLawfulItem table) items → AllLawful table (admitted table items)
all_lawful table [] a = tt
all_lawful table (x ∷ rest) a = one (piece_of table x) (piece_lawful table x a.0) (all_lawful table rest a.1)
  where
    one : (p : Option Piece) → IfSome p (IsLawfulPiece table) → AllLawful table (admitted table rest) → AllLawful table (admitted_with p (mark_comes table rest) (admitted table rest))
    one None h more = more
    one (Some p) h more = (h, more)

-- what the items carry
pieces_lawful : (table : Table) (items : List Item) → AllByRecursion (IsLawfulItem table) items → AllByRecursion (λ p. IfSome p (IsLawfulPiece table)) (pieces_of table items)
pieces_lawful table [] a = tt
pieces_lawful table (x ∷ rest) a = (piece_lawful table x a.0, pieces_lawful table rest a.1)

pub lawful_pieces : LawfulPieces
lawful_pieces table items items_lawful =
    All-from_recursion (λ p. IfSome p (IsLawfulPiece table)) (pieces_of table items) (pieces_lawful table items (recursion_from_All (IsLawfulItem table) items items_lawful))

-- BODIES

module _ (table : Table) (limits : CutLimits) (fair : AreLawfulLimits limits) where
  txns_lawful : (xs : List AdmittedItem) → AllLawful table xs → AllByRecursion (IsLawfulTxn table) (txns_in xs)
  txns_lawful [] a = tt
  txns_lawful (x ∷ rest) a = one x.piece a.0 (txns_lawful rest a.1)
    where
      one : (p : Piece) → IsLawfulPiece table p → AllByRecursion (IsLawfulTxn table) (txns_in rest) → AllByRecursion (IsLawfulTxn table) (txns_in_piece p ++ txns_in rest)
      one (piece.Call t) h more = (h, more)
      one (piece.Config c) h more = more

  body_lawful : (xs : List AdmittedItem) → IsPart table limits xs → AllLawful table xs → IsLawfulBody table (txns_in xs) (config_in xs)
  body_lawful [] part a = let h = part.filled in absurd (omega arith)
  body_lawful (x ∷ rest) part a = one x.piece refl a.0
    where
      alone : (c : Config) → x.piece ≡ piece.Config c → (xs : List AdmittedItem) → IsAlone (x ∷ xs) → txns_in xs ≡ []
      alone c e [] h = refl
      alone c e (y ∷ more) h = absurd (no_config x h.0 (c, e))

      one : (p : Piece) → x.piece ≡ p → IsLawfulPiece table p → IsLawfulBody table (txns_in_piece p ++ txns_in rest) (elim p [ piece.Call t ↦ None | piece.Config c ↦ Some c ])
      one (piece.Call t) e h =
          let few : length (txns_in_piece (piece.Call t) ++ txns_in rest) ≤ limits.txns = subst (λ p. length (txns_in_piece p ++ txns_in rest) ≤ limits.txns) e part.few in
          let most = fair.txns.1 in
          ((omega arith, omega arith), All-from_recursion (IsLawfulTxn table) (t ∷ txns_in rest) (h, txns_lawful rest a.1))
      one (piece.Config c) e h = (alone c e rest part.alone, h)

  split_lawful : (xs ys : List AdmittedItem) → AllLawful table (xs ++ ys) → AllLawful table xs × AllLawful table ys
  split_lawful [] ys a = (tt, a)
  split_lawful (x ∷ xs) ys a = let h = split_lawful xs ys a.1 in ((a.0, h.0), h.1)

  bodies_lawful : (lists : List (List AdmittedItem)) → AllByRecursion (IsPart table limits) lists → AllLawful table (flat_map (λ l. l) lists) → AllByRecursion (λ (b : Body). IsLawfulBody table b.txns b.config) (map carried_body lists)
  bodies_lawful [] parts a = tt
  bodies_lawful (xs ∷ rest) parts a =
      let h = split_lawful xs (flat_map (λ l. l) rest) a in
      (body_lawful xs parts.0 h.0, bodies_lawful rest parts.1 h.1)

pub lawful_bodies : LawfulBodies
lawful_bodies table limits items bodies fair items_lawful (lists, cut, e) =
    let P : Body → Type 0 = λ b. IsLawfulBody table b.txns b.config in
    let a = all_lawful table items (recursion_from_All (IsLawfulItem table) items items_lawful) in
    subst (All P) (sym e) (All-from_recursion P (map carried_body lists) (bodies_lawful table limits fair lists cut.parts (subst (AllLawful table) (sym cut.whole) a)))
