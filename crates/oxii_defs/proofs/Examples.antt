-- Worked rows of single calls, each computed from the definitions.
use Rattle.std.proofs.Common.{◌≡◌, ℕ, List, [], ◌∷◌, Some, None, refl}
use Rattle.std.specs.FinMap as map
use Rattle.std.specs.FinMap.{gets}
use Rattle.oxii_defs.specs.Syntax.{Add, Sub, Div, Ge, Gt, Num, Param, Rec, Calc, Cmp, Stmts, SetRec, Require, If, Done, Then}
use Rattle.oxii_defs.specs.State.{State}
use Rattle.oxii_defs.specs.Running.{value_of, truth_of, after}
use Rattle.oxii_defs.specs.Outcomes.{run, outcome}
use Rattle.oxii_defs.specs.Dependency.{graph_of}
use Rattle.oxii_defs.specs.BlockBytes.{txn_bytes, body_bytes}
use Rattle.oxii_defs.specs.Lines.{outcome_text}
use Rattle.oxii_defs.specs.Transfers.{bank_table, transfer_txn}
use Rattle.std.specs.Prelude.{codes}
use Rattle.txn_types.specs.declared.txn.Arg.{Arg}
use Rattle.txn_types.specs.declared.txn.Arg.TheVariants as arg
use Rattle.txn_types.specs.declared.txn.Reason.TheVariants as reason
use Rattle.txn_types.specs.declared.txn.Txn.{Txn}
use Rattle.txn_types.specs.declared.txn.Outcome.TheVariants.{Commit, Abort}
use Rattle.txn_types.specs.declared.txn.Kind.TheVariants.{Full, Raw}
use Rattle.txn_types.specs.Values.{max_value}

-- the stock contract
abbrev set : Stmts
set = Then (SetRec 0 (Param 1)) Done

abbrev pay : Stmts
pay =
    Then (Require (Cmp Ge (Rec 0) (Param 2)))
    (Then (SetRec 0 (Calc Sub (Rec 0) (Param 2)))
    (Then (SetRec 1 (Calc Add (Rec 1) (Param 2))) Done))

abbrev copy : Stmts
copy = Then (SetRec 1 (Rec 0)) Done

abbrev maybe : Stmts
maybe = Then (If (Cmp Gt (Param 1) (Num 5)) (Then (SetRec 0 (Param 1)) Done) Done) Done

abbrev inc : Stmts
inc = Then (SetRec 0 (Calc Add (Rec 0) (Num 1))) Done

abbrev dec : Stmts
dec = Then (SetRec 0 (Calc Sub (Rec 0) (Num 1))) Done

abbrev div : Stmts
div = Then (SetRec 0 (Calc Div (Rec 0) (Param 1))) Done

abbrev txn : List Arg → List ℕ → List ℕ → Txn
txn args reads writes = record { app = 0; op = 0; args = args; reads = reads; writes = writes }

-- the record a alone has a value
abbrev only_a : ℕ → State
only_a v = map.insert map.empty 0 v

abbrev a : Arg
a = arg.Rec 0

abbrev b : Arg
b = arg.Rec 1

pub transfer : outcome pay (txn (a ∷ b ∷ arg.Num 4 ∷ []) (0 ∷ 1 ∷ []) (0 ∷ 1 ∷ [])) (only_a 10) ≡ Commit (Some 6 ∷ Some 4 ∷ [])
unfolding run after value_of truth_of
transfer = simp gets

pub pay_self : outcome pay (txn (a ∷ a ∷ arg.Num 5 ∷ []) (0 ∷ []) (0 ∷ [])) (only_a 7) ≡ Commit (Some 7 ∷ [])
unfolding run after value_of truth_of
pay_self = simp gets

pub pay_too_much : outcome pay (txn (a ∷ a ∷ arg.Num 8 ∷ []) (0 ∷ []) (0 ∷ [])) (only_a 7) ≡ Abort reason.Require
unfolding run after value_of truth_of
pay_too_much = simp gets

pub maybe_not : outcome maybe (txn (a ∷ arg.Num 2 ∷ []) [] (0 ∷ [])) (only_a 3) ≡ Commit (None ∷ [])
unfolding run after value_of truth_of
maybe_not = simp gets

pub overflows : outcome inc (txn (a ∷ []) (0 ∷ []) (0 ∷ [])) (only_a max_value) ≡ Abort reason.Overflow
unfolding run after value_of truth_of
overflows = simp gets

pub underflows : outcome dec (txn (b ∷ []) (1 ∷ []) (1 ∷ [])) (only_a 3) ≡ Abort reason.Underflow
unfolding run after value_of truth_of
underflows = simp gets

pub divides_by_zero : outcome div (txn (b ∷ arg.Num 0 ∷ []) (1 ∷ []) (1 ∷ [])) (only_a 3) ≡ Abort reason.ZeroDivisor
unfolding run after value_of truth_of
divides_by_zero = simp gets

pub reads_undeclared : outcome copy (txn (a ∷ b ∷ []) [] (1 ∷ [])) (only_a 3) ≡ Abort reason.Undeclared
unfolding run after value_of truth_of
reads_undeclared = simp gets

pub writes_undeclared : outcome set (txn (b ∷ arg.Num 1 ∷ []) [] []) (only_a 3) ≡ Abort reason.Undeclared
unfolding run after value_of truth_of
writes_undeclared = refl

-- GRAPHS

abbrev one_to_two : Txn
one_to_two = txn (a ∷ b ∷ []) (0 ∷ []) (1 ∷ [])

abbrev two_to_one : Txn
two_to_one = txn (b ∷ a ∷ []) (1 ∷ []) (0 ∷ [])

pub graph_full : graph_of Full (one_to_two ∷ two_to_one ∷ one_to_two ∷ []) ≡ [] ∷ (0 ∷ []) ∷ (0 ∷ 1 ∷ []) ∷ []
graph_full = refl

-- a write after a write is no pair of kind raw
pub graph_raw : graph_of Raw (one_to_two ∷ one_to_two ∷ two_to_one ∷ []) ≡ [] ∷ [] ∷ (0 ∷ 1 ∷ []) ∷ []
graph_raw = refl

-- BYTES AND LINES

pub transfer_bytes : txn_bytes (bank_table Full) (transfer_txn 4)
    ≡ 4 ∷ 98 ∷ 97 ∷ 110 ∷ 107 ∷ 8 ∷ 116 ∷ 114 ∷ 97 ∷ 110 ∷ 115 ∷ 102 ∷ 101 ∷ 114 ∷ 3 ∷ 1 ∷ 1 ∷ 97 ∷ 1 ∷ 1 ∷ 98 ∷ 2 ∷ 0 ∷ 0 ∷ 0 ∷ 0 ∷ 0 ∷ 0 ∷ 0 ∷ 4 ∷ 2 ∷ 1 ∷ 97 ∷ 1 ∷ 98 ∷ 2 ∷ 1 ∷ 97 ∷ 1 ∷ 98 ∷ []
transfer_bytes = refl

pub config_bytes : body_bytes (record (bank_table Full) { peers = codes "p1" ∷ codes "p2" ∷ [] }) [] (Some (record { app = 0; agents = 1 ∷ []; tau = 1 }))
    ≡ 0 ∷ 0 ∷ 0 ∷ 0 ∷ 4 ∷ 98 ∷ 97 ∷ 110 ∷ 107 ∷ 1 ∷ 2 ∷ 112 ∷ 50 ∷ 1 ∷ []
config_bytes = refl

pub abort_text : outcome_text (bank_table Full) (transfer_txn 4) (Abort reason.ZeroDivisor) ≡ codes "abort zero_divisor"
abort_text = refl
