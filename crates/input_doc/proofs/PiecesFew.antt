-- As few items are admitted as a stream has requests and configurations.
use Rattle.std.proofs.Common.{◌≡◌, ℕ, ◌+◌, ◌≤◌, List, [], ◌∷◌, length, Option, Some, None, Result, Ok, Err, cond, arith}
use Rattle.std.specs.Prelude.{is_some}
use Rattle.std.specs.List.{sum_by, count_by}
use Rattle.std.proofs.lemmas.List.Sums.{sum_by-cons}
use Rattle.txn_types.specs.declared.txn.Txn.{Txn}
use Rattle.txn_types.specs.declared.stream.Piece.{Piece}
use Rattle.txn_types.specs.declared.stream.Reject.{Reject}
use Rattle.txn_types.specs.declared.stream.Item.{Item}
use Rattle.txn_types.specs.declared.stream.Item.TheVariants as item
use Rattle.oxii_defs.specs.Table.{Table}
use Rattle.node_defs.specs.Admission.{admit, piece_of, piece_of_answer, pieces_of}
use Rattle.node_defs.specs.Sayings.{txns_of_piece, config_of_piece}
use Rattle.doc_stream.specs.StreamMeaning.{is_request, is_config}

module _ (table : Table) where
  -- what is at most that of an item, at each item, is at most that of all items
  pieces_sum : (f : Option Piece → ℕ) (g : Item → ℕ) → ((x : Item) → f (piece_of table x) ≤ g x) → (items : List Item) → sum_by f (pieces_of table items) ≤ sum_by g items
  pieces_sum f g each [] = omega arith
  pieces_sum f g each (x ∷ items) =
      let here = each x in
      let rest = pieces_sum f g each items in
      omega (arith, here, rest, sum_by-cons f (piece_of table x) (pieces_of table items), sum_by-cons g x items)

  txns_of_answer : (answer : Result Txn Reject) → length (txns_of_piece (piece_of_answer answer)) ≤ 1
  txns_of_answer (Ok t) = omega arith
  txns_of_answer (Err why) = omega arith

  txns_of_item : (x : Item) → length (txns_of_piece (piece_of table x)) ≤ cond (is_request x) 1 0
  txns_of_item (item.Ask q) = txns_of_answer (admit table q)
  txns_of_item item.Mark = omega arith
  txns_of_item (item.Config c) = omega arith

  config_of_answer : (answer : Result Txn Reject) → cond (is_some (config_of_piece (piece_of_answer answer))) 1 0 ≤ 0
  config_of_answer (Ok t) = omega arith
  config_of_answer (Err why) = omega arith

  config_of_item : (x : Item) → cond (is_some (config_of_piece (piece_of table x))) 1 0 ≤ cond (is_config x) 1 0
  config_of_item (item.Ask q) = config_of_answer (admit table q)
  config_of_item item.Mark = omega arith
  config_of_item (item.Config c) = omega arith

  pub few_txns : (items : List Item) → count_by is_request items ≤ 4096 → sum_by (λ p. length (txns_of_piece p)) (pieces_of table items) ≤ 4096
  few_txns items h =
      let least = pieces_sum (λ p. length (txns_of_piece p)) (λ x. cond (is_request x) 1 0) txns_of_item items in
      omega (arith, least, h)

  pub few_configs : (items : List Item) → count_by is_config items ≤ 256 → count_by (λ p. is_some (config_of_piece p)) (pieces_of table items) ≤ 256
  few_configs items h =
      let least = pieces_sum (λ p. cond (is_some (config_of_piece p)) 1 0) (λ x. cond (is_config x) 1 0) config_of_item items in
      omega (arith, least, h)
