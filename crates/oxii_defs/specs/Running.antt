-- The same as a program: what each form gives, or the reason for which it stops.
use Rattle.std.specs.Prelude.{ℕ, zero, suc, ◌+◌, ◌-◌, ◌*◌, ◌/◌, ◌%◌, Bool, true, false, not, Option, Some, None, Result, Ok, Err, slice_index, length, nat_le, ◌==◌, if◌then◌else◌}
use Rattle.std.specs.FinMap as map
use Rattle.oxii_defs.specs.Syntax.{Operator, Add, Sub, Mul, Div, Rem, Expr, Num, Param, Local, Rec, Calc, Cond, Cmp, And, Or, Not, Stmt, Let, SetLocal, SetRec, Require, If, Repeat, Stmts, Done, Then}
use Rattle.oxii_defs.specs.State.{contains}
use Rattle.oxii_defs.specs.Calls.{Call, Frame, record_at, number_at, with_local, with_local_at, with_written, leave}
use Rattle.oxii_defs.specs.Meaning.{compared}
use Rattle.txn_types.specs.declared.txn.Reason.{Reason}
use Rattle.txn_types.specs.declared.txn.Reason.TheVariants as reason
use Rattle.txn_types.specs.Values.{max_value}

abbrev pub Answer : Type 0 → Type 0
Answer A = Result A Reason

-- goes on with a value, or stops with its reason
abbrev pub and_then : {A B : Type 0} → Answer A → (A → Answer B) → Answer B
and_then (Ok x) go = go x
and_then (Err r) go = Err r

-- both operands, unless one of them stops: the left one first
abbrev pub both : {A : Type 0} → (ℕ → ℕ → Answer A) → Answer ℕ → Answer ℕ → Answer A
both op (Err r) right = Err r
both op (Ok x) (Err r) = Err r
both op (Ok x) (Ok y) = op x y

abbrev pub bounded : ℕ → Answer ℕ
bounded n = if nat_le n max_value then Ok n else Err reason.Overflow

abbrev pub calc : Operator → ℕ → ℕ → Answer ℕ
calc Add x y = bounded (x + y)
calc Sub x y = if nat_le y x then Ok (x - y) else Err reason.Underflow
calc Mul x y = bounded (x * y)
calc Div x y = if y == 0 then Err reason.ZeroDivisor else Ok (x / y)
calc Rem x y = if y == 0 then Err reason.ZeroDivisor else Ok (x % y)

abbrev pub declared : Option ℕ → Answer ℕ
declared (Some v) = Ok v
declared None = Err reason.Undeclared

abbrev pub read : Call → ℕ → Option ℕ → Answer ℕ
read c r (Some v) = Ok v
read c r None = declared (c.reads r)

unfoldable pub value_of : Call → Frame → Expr → Answer ℕ
value_of c f (Num n) = Ok n
value_of c f (Param i) = Ok (number_at c i)
value_of c f (Local i) = Ok (slice_index f.locals i)
value_of c f (Rec i) = read c (record_at c i) (map.get f.written (record_at c i))
value_of c f (Calc op a b) = both (calc op) (value_of c f a) (value_of c f b)

abbrev pub conjunction : Answer Bool → Answer Bool → Answer Bool
conjunction (Err r) right = Err r
conjunction (Ok false) right = Ok false
conjunction (Ok true) right = right

abbrev pub disjunction : Answer Bool → Answer Bool → Answer Bool
disjunction (Err r) right = Err r
disjunction (Ok true) right = Ok true
disjunction (Ok false) right = right

abbrev pub negation : Answer Bool → Answer Bool
negation (Err r) = Err r
negation (Ok x) = Ok (not x)

unfoldable pub truth_of : Call → Frame → Cond → Answer Bool
truth_of c f (Cmp op a b) = both (λ x y. Ok (compared op x y)) (value_of c f a) (value_of c f b)
truth_of c f (And p q) = conjunction (truth_of c f p) (truth_of c f q)
truth_of c f (Or p q) = disjunction (truth_of c f p) (truth_of c f q)
truth_of c f (Not p) = negation (truth_of c f p)

abbrev pub scoped : (Frame → Answer Frame) → Frame → Answer Frame
scoped body f = and_then (body f) (λ g. Ok (leave (length f.locals) g))

abbrev pub turns : ℕ → (Frame → Answer Frame) → Frame → Answer Frame
turns zero body f = Ok f
turns (suc n) body f = and_then (body f) (turns n body)

abbrev pub write : ℕ → ℕ → Frame → Answer Frame
write r v f = if contains f.writes r then Ok (with_written f r v) else Err reason.Undeclared

unfoldable mutual
  pub after : Call → Stmt → Frame → Answer Frame
  after c (Let slot name e) f = and_then (value_of c f e) (λ v. Ok (with_local f v))
  after c (SetLocal i e) f = and_then (value_of c f e) (λ v. Ok (with_local_at f i v))
  after c (SetRec i e) f = and_then (value_of c f e) (λ v. write (record_at c i) v f)
  after c (Require p) f = and_then (truth_of c f p) (λ x. if x then Ok f else Err reason.Require)
  after c (If p first second) f = and_then (truth_of c f p) (λ x. if x then scoped (after_all c first) f else scoped (after_all c second) f)
  after c (Repeat n body) f = turns n (scoped (after_all c body)) f

  pub after_all : Call → Stmts → Frame → Answer Frame
  after_all c Done f = Ok f
  after_all c (Then s rest) f = and_then (after c s f) (after_all c rest)
