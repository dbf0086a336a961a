-- What a call is given, and what it works on.
use Rattle.std.specs.Prelude.{ℕ, List, [], ◌++◌, ◌∷◌, Option, Some, None, slice_get, slice_set, take, if◌then◌else◌}
use Rattle.std.specs.Ordering.{nat_cmp}
use Rattle.std.specs.FinMap as map
use Rattle.oxii_defs.specs.State.{State, value_in, contains}
use Rattle.txn_types.specs.declared.txn.Arg.{Arg}
use Rattle.txn_types.specs.declared.txn.Arg.TheVariants as arg
use Rattle.txn_types.specs.declared.txn.Txn.{Txn}

-- what a call is given: its arguments, and the value of each record of the read set, and of no other
pub record Call : Type 0 where
  pub args : List Arg
  pub reads : ℕ → Option ℕ

-- what a call works on: the records that it may write, the visible locals, and the values that it wrote
pub record Frame : Type 0 where
  pub writes : List ℕ
  pub locals : List ℕ
  pub written : map.FinMap nat_cmp ℕ

abbrev pub record_arg : Option Arg → ℕ
record_arg (Some (arg.Rec r)) = r
record_arg (Some (arg.Num n)) = 0
record_arg None = 0

abbrev pub number_arg : Option Arg → ℕ
number_arg (Some (arg.Rec r)) = 0
number_arg (Some (arg.Num n)) = n
number_arg None = 0

-- the record that a parameter stands for
abbrev pub record_at : Call → ℕ → ℕ
record_at c i = record_arg (slice_get c.args i)

-- the number that a parameter stands for
abbrev pub number_at : Call → ℕ → ℕ
number_at c i = number_arg (slice_get c.args i)

abbrev pub with_locals : Frame → List ℕ → Frame
with_locals f locals = record { writes = f.writes; locals = locals; written = f.written }

-- one more local
abbrev pub with_local : Frame → ℕ → Frame
with_local f v = with_locals f (f.locals ++ v ∷ [])

-- another value of a local
abbrev pub with_local_at : Frame → ℕ → ℕ → Frame
with_local_at f i v = with_locals f (slice_set f.locals i v)

-- the value of a record, written
abbrev pub with_written : Frame → ℕ → ℕ → Frame
with_written f r v = record { writes = f.writes; locals = f.locals; written = map.insert f.written r v }

-- at the end of a block that began with n locals the others are gone
abbrev pub leave : ℕ → Frame → Frame
leave n f = with_locals f (take n f.locals)

-- what a call with this read set may read of a state
abbrev pub seen : List ℕ → State → ℕ → Option ℕ
seen reads s r = if contains reads r then Some (value_in s r) else None

abbrev pub call_in : State → Txn → Call
call_in s t = record { args = t.args; reads = seen t.reads s }

abbrev pub fresh : List ℕ → Frame
fresh writes = record { writes = writes; locals = []; written = map.empty }
