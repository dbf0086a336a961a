-- One item more of a stream.
use Rattle.std.proofs.Common.{◌≡◌, ℕ, ◌+◌, List, ◌∷◌, ◌++◌, [], Option, sym, ap, ◌∙◌, append_assoc, add-one}
use Rattle.txn_types.specs.declared.stream.Item.{Item}
use Rattle.txn_types.specs.declared.stream.Piece.{Piece}
use Rattle.txn_types.specs.declared.stream.Rejected.{Rejected}
use Rattle.oxii_defs.specs.Table.{Table}
use Rattle.node_defs.specs.Admission.{piece_of, pieces_of, reject_of}
use Rattle.node_defs.specs.Cutting.{rejected_from}

pub rejected_more : (table : Table) (i : ℕ) (x : Item) (items left : List Item) (before after whole : List Rejected) → items ≡ x ∷ left → after ≡ before ++ reject_of table i x →
    before ++ rejected_from table i items ≡ whole → after ++ rejected_from table (i + 1) left ≡ whole
rejected_more table i x items left before after whole e f h =
    ap (λ l. l ++ rejected_from table (i + 1) left) f
    ∙ append_assoc before (reject_of table i x) (rejected_from table (i + 1) left)
    ∙ ap (λ k. before ++ (reject_of table i x ++ rejected_from table k left)) (add-one i)
    ∙ ap (λ l. before ++ rejected_from table i l) (sym e) ∙ h

pub pieces_more : (table : Table) (x : Item) (items left : List Item) (before after whole : List (Option Piece)) → items ≡ x ∷ left → after ≡ before ++ piece_of table x ∷ [] →
    before ++ pieces_of table items ≡ whole → after ++ pieces_of table left ≡ whole
pieces_more table x items left before after whole e f h =
    ap (λ l. l ++ pieces_of table left) f ∙ append_assoc before (piece_of table x ∷ []) (pieces_of table left)
    ∙ ap (λ l. before ++ pieces_of table l) (sym e) ∙ h
