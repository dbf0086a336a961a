-- Admission: which requests are admitted, as which transactions, and why the others are rejected.
use Rattle.std.specs.Prelude.{ℕ, suc, ◌==◌, Bool, true, false, ◌&&◌, not, if◌then◌else◌, List, [], ◌∷◌, length, Option, Some, None, Result, Ok, Err, nat_le}
use Rattle.std.specs.List.{list_any}
use Rattle.txn_types.specs.declared.txn.Arg.{Arg}
use Rattle.txn_types.specs.declared.txn.Arg.TheVariants as arg
use Rattle.txn_types.specs.declared.txn.Txn.{Txn}
use Rattle.txn_types.specs.declared.stream.Request.{Request}
use Rattle.txn_types.specs.declared.stream.Reject.{Reject}
use Rattle.txn_types.specs.declared.stream.Reject.TheVariants.{UnknownApp, ClientNotAllowed, UnknownOp, ArgCount, ArgKind, SetTooLarge}
use Rattle.txn_types.specs.declared.stream.Rejected.{Rejected}
use Rattle.txn_types.specs.declared.stream.Piece.{Piece}
use Rattle.txn_types.specs.declared.stream.Piece.TheVariants as piece
use Rattle.txn_types.specs.declared.stream.Item.{Item}
use Rattle.txn_types.specs.declared.stream.Item.TheVariants as item
use Rattle.oxii_defs.specs.Syntax.{Name, ParamKind, RecKind, NumKind, Formal, Op}
use Rattle.oxii_defs.specs.Table.{App, Table}
use Rattle.node_defs.specs.Same.{same_list, same_number}

-- names are equal by their bytes
abbrev pub same_name : Name → Name → Bool
same_name = same_list same_number

-- the first that has this name, with its position, counted from i
abbrev pub first_named : {A : Type 0} → (A → Name) → Name → ℕ → List A → Option (ℕ × A)
first_named name_of name i [] = None
first_named name_of name i (x ∷ rest) = if same_name (name_of x) name then Some (i, x) else first_named name_of name (suc i) rest

-- an argument has the kind of a parameter
abbrev pub is_kind : ParamKind → Arg → Bool
is_kind RecKind (arg.Rec r) = true
is_kind NumKind (arg.Num n) = true
is_kind _ _ = false

-- the arguments have the kinds of the parameters
abbrev pub are_kinds : List Formal → List Arg → Bool
are_kinds [] [] = true
are_kinds (p ∷ params) (a ∷ args) = is_kind p.kind a && are_kinds params args
are_kinds _ _ = false

-- THE TESTS OF A REQUEST, IN ORDER

-- no set has more than 16 records
abbrev pub with_sets : Txn → Result Txn Reject
with_sets t = if nat_le (length t.reads) 16 && nat_le (length t.writes) 16 then Ok t else Err SetTooLarge

-- as many arguments as parameters, of their kinds
abbrev pub with_args : Op → Txn → Result Txn Reject
with_args op t =
    if not (length t.args == length op.params) then Err ArgCount
    else if are_kinds op.params t.args then with_sets t else Err ArgKind

-- the application has the operation
abbrev pub with_op : Request → ℕ → Option (ℕ × Op) → Result Txn Reject
with_op q app None = Err UnknownOp
with_op q app (Some op) = with_args op.1 (record { app = app; op = op.0; args = q.args; reads = q.reads; writes = q.writes })

-- the application exists, and the client is in its list
abbrev pub with_app : Request → Option (ℕ × App) → Result Txn Reject
with_app q None = Err UnknownApp
with_app q (Some app) =
    if list_any (same_name q.client) app.1.clients then with_op q app.0 (first_named (λ op. op.name) q.op 0 app.1.ops)
    else Err ClientNotAllowed

-- the transaction of a request, or the first test that rejects it
abbrev pub admit : Table → Request → Result Txn Reject
admit table q = with_app q (first_named (λ app. app.name) q.app 0 table.apps)

-- THE STREAM

-- what an admitted request carries
abbrev pub piece_of_answer : Result Txn Reject → Option Piece
piece_of_answer (Ok t) = Some (piece.Call t)
piece_of_answer (Err why) = None

-- what an item carries, where it is admitted
abbrev pub piece_of : Table → Item → Option Piece
piece_of table (item.Ask q) = piece_of_answer (admit table q)
piece_of table item.Mark = None
piece_of table (item.Config c) = Some (piece.Config c)

-- for each item what it carries
abbrev pub pieces_of : Table → List Item → List (Option Piece)
pieces_of table [] = []
pieces_of table (x ∷ rest) = piece_of table x ∷ pieces_of table rest

-- the reject of a request that is not admitted, by the position of its item
abbrev pub reject_of_answer : ℕ → Result Txn Reject → List Rejected
reject_of_answer i (Ok t) = []
reject_of_answer i (Err why) = record { item = i; why = why } ∷ []

-- that of an item, where it is a request
abbrev pub reject_of : Table → ℕ → Item → List Rejected
reject_of table i (item.Ask q) = reject_of_answer i (admit table q)
reject_of table i _ = []
