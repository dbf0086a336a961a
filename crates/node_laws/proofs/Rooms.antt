-- A block has room for each admitted transaction: its sets and arguments are few, so its bytes are.
use Rattle.std.specs.Prelude.{ℕ, suc, ◌==◌, ◌≤◌, Bool, true, false, ◌&&◌, not, cond, List, [], ◌∷◌, length, Option, Some, None, Result, Ok, Err, ◌≡◌, refl, nat_le}
use Rattle.std.specs.List.{All, AllByRecursion, list_any}
use Rattle.std.proofs.Common.{arith}
use Rattle.std.proofs.lemmas.Bool.{eqb-true, leb-true}
use Rattle.std.proofs.lemmas.List.Elements.{All-head, All-tail}
use Rattle.txn_types.specs.declared.stream.CutLimits.{CutLimits}
use Rattle.txn_types.specs.declared.stream.Item.{Item}
use Rattle.txn_types.specs.declared.stream.Item.TheVariants as item
use Rattle.txn_types.specs.declared.stream.Piece.{Piece}
use Rattle.txn_types.specs.declared.stream.Piece.TheVariants as piece
use Rattle.txn_types.specs.declared.stream.Reject.{Reject}
use Rattle.txn_types.specs.declared.stream.Reject.TheVariants.{ClientNotAllowed, ArgCount, ArgKind, SetTooLarge}
use Rattle.txn_types.specs.declared.stream.Request.{Request}
use Rattle.txn_types.specs.declared.txn.Txn.{Txn}
use Rattle.oxii_defs.specs.BlockBytes.{txn_bytes}
use Rattle.oxii_defs.specs.Lawful.{IsLawfulApp, IsLawfulTable}
use Rattle.oxii_defs.specs.Laws.{IsHeld}
use Rattle.oxii_defs.specs.Syntax.{Name, Op}
use Rattle.oxii_defs.specs.Table.{App, Table}
use Rattle.oxii_defs.specs.WellFormed.{IsWellFormed}
use Rattle.oxii_defs.proofs.Lengths.{txns_are_short}
use Rattle.node_defs.specs.Admission.{admit, are_kinds, first_named, piece_of, piece_of_answer, same_name, with_app, with_args, with_op, with_sets}
use Rattle.node_defs.specs.Cutting.{admitted, admitted_with, mark_comes, txns_in}
use Rattle.node_defs.specs.LawfulItems.{AreLawfulLimits}

-- AN ADMITTED REQUEST

-- P holds of what is found, where something is
abbrev IfFound : {A : Type 0} → (A → Type 0) → Option (ℕ × A) → Type 0
IfFound P None = Unit {0}
IfFound P (Some x) = P x.1

-- what holds of all holds of what is found among them
found : {A : Type 0} (P : A → Type 0) (name_of : A → Name) (name : Name) (i : ℕ) (xs : List A) → All P xs → IfFound P (first_named name_of name i xs)
found P name_of name i [] all = tt
found P name_of name i (x ∷ rest) all = one (same_name (name_of x) name) (All-head P x rest all) (found P name_of name (suc i) rest (All-tail P x rest all))
  where
    one : (b : Bool) → P x → IfFound P (first_named name_of name (suc i) rest) → IfFound P (cond b (Some (i, x)) (first_named name_of name (suc i) rest))
    one true h more = h
    one false h more = more

-- the transaction is held, where there is one
abbrev IfHeld : Result Txn Reject → Type 0
IfHeld (Ok t) = IsHeld t
IfHeld (Err why) = Unit {0}

sets_held : (t : Txn) → length t.args ≤ 16 → IfHeld (with_sets t)
sets_held t few = one (nat_le (length t.reads) 16) refl (nat_le (length t.writes) 16) refl
  where
    one : (a : Bool) → nat_le (length t.reads) 16 ≡ a → (b : Bool) → nat_le (length t.writes) 16 ≡ b → IfHeld (cond (a && b) (Ok t) (Err SetTooLarge))
    one true p true q = record { args = few; reads = leb-true (length t.reads) 16 p; writes = leb-true (length t.writes) 16 q }
    one true p false q = tt
    one false p b q = tt

args_held : (op : Op) (t : Txn) → IsWellFormed op → IfHeld (with_args op t)
args_held op t well = one (length t.args == length op.params) refl (are_kinds op.params t.args)
  where
    one : (a : Bool) → (length t.args == length op.params) ≡ a → (b : Bool) → IfHeld (cond (not a) (Err ArgCount) (cond b (with_sets t) (Err ArgKind)))
    one true p true = let same = eqb-true (length t.args) (length op.params) p in sets_held t (omega (arith, same, well.count))
    one true p false = tt
    one false p b = tt

op_held : (q : Request) (app : ℕ) (o : Option (ℕ × Op)) → IfFound IsWellFormed o → IfHeld (with_op q app o)
op_held q app None h = tt
op_held q app (Some op) h = args_held op.1 (record { app = app; op = op.0; args = q.args; reads = q.reads; writes = q.writes }) h

app_held : (table : Table) (q : Request) (o : Option (ℕ × App)) → IfFound (IsLawfulApp table) o → IfHeld (with_app q o)
app_held table q None h = tt
app_held table q (Some app) h = one (list_any (same_name q.client) app.1.clients)
  where
    op : Option (ℕ × Op)
    op = first_named (λ op. op.name) q.op 0 app.1.ops

    one : (b : Bool) → IfHeld (cond b (with_op q app.0 op) (Err ClientNotAllowed))
    one true = op_held q app.0 op (found IsWellFormed (λ op. op.name) q.op 0 app.1.ops h.well_formed)
    one false = tt

admit_held : (table : Table) → IsLawfulTable table → (q : Request) → IfHeld (admit table q)
admit_held table lawful q = app_held table q (first_named (λ app. app.name) q.app 0 table.apps) (found (IsLawfulApp table) (λ app. app.name) q.app 0 table.apps lawful.lawful_apps)

-- ALL ADMITTED REQUESTS

module _ (table : Table) (limits : CutLimits) (lawful : IsLawfulTable table) (fair : AreLawfulLimits limits) where
  abbrev Fits : Txn → Type 0
  Fits t = length (txn_bytes table t) ≤ limits.bytes

  fits : (t : Txn) → IsHeld t → Fits t
  fits t held = let short = txns_are_short table t lawful held in omega (arith, short, fair.bytes_from)

  abbrev PieceFits : Option Piece → Type 0
  PieceFits (Some (piece.Call t)) = Fits t
  PieceFits (Some (piece.Config c)) = Unit {0}
  PieceFits None = Unit {0}

  answer_fits : (r : Result Txn Reject) → IfHeld r → PieceFits (piece_of_answer r)
  answer_fits (Ok t) h = fits t h
  answer_fits (Err why) h = tt

  piece_fits : (x : Item) → PieceFits (piece_of table x)
  piece_fits (item.Ask q) = answer_fits (admit table q) (admit_held table lawful q)
  piece_fits item.Mark = tt
  piece_fits (item.Config c) = tt

  pub all_fit : (items : List Item) → AllByRecursion Fits (txns_in (admitted table items))
  all_fit [] = tt
  all_fit (x ∷ rest) = one (piece_of table x) (piece_fits x) (all_fit rest)
    where
      one : (p : Option Piece) → PieceFits p → AllByRecursion Fits (txns_in (admitted table rest)) → AllByRecursion Fits (txns_in (admitted_with p (mark_comes table rest) (admitted table rest)))
      one None h more = more
      one (Some (piece.Call t)) h more = (h, more)
      one (Some (piece.Config c)) h more = more
