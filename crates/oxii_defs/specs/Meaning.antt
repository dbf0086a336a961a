-- The operation's meaning, as relations by cases on the syntax: what each form gives, and for which reason it stops.
use Rattle.std.specs.Prelude.{map as each, ◌≡◌, ◌≤◌, ◌<◌, ◌⊎◌, ℕ, zero, suc, ◌+◌, ◌*◌, ◌/◌, ◌%◌, Bool, true, false, not, nat_lt, nat_le, ◌==◌, Some, None, slice_index, length}
use Rattle.std.specs.FinMap as map
use Rattle.std.specs.Ordering.{nat_cmp}
use Rattle.oxii_defs.specs.Syntax.{Operator, Add, Sub, Mul, Div, Rem, Comparison, Eq, Ne, Lt, Le, Gt, Ge, Expr, Num, Param, Local, Rec, Calc, Cond, Cmp, And, Or, Not, Stmt, Let, SetLocal, SetRec, Require, If, Repeat, Stmts, Done, Then}
use Rattle.oxii_defs.specs.State.{State, contains}
use Rattle.oxii_defs.specs.Table.{Table, body_in}
use Rattle.oxii_defs.specs.Calls.{Call, Frame, record_at, number_at, with_local, with_local_at, with_written, leave, call_in, fresh}
use Rattle.txn_types.specs.declared.txn.Reason.{Reason}
use Rattle.txn_types.specs.declared.txn.Reason.TheVariants as reason
use Rattle.txn_types.specs.declared.txn.Txn.{Txn}
use Rattle.txn_types.specs.declared.txn.Outcome.{Outcome}
use Rattle.txn_types.specs.declared.txn.Outcome.TheVariants as outcome
use Rattle.txn_types.specs.Values.{max_value}

-- OPERATORS, on two numbers

-- the operator gives v
abbrev pub Makes : Operator → ℕ → ℕ → ℕ → Type 0
Makes Add x y v = (v ≡ x + y) × (v ≤ max_value)
Makes Sub x y v = x ≡ y + v
Makes Mul x y v = (v ≡ x * y) × (v ≤ max_value)
Makes Div x y v = (0 < y) × (v ≡ x / y)
Makes Rem x y v = (0 < y) × (v ≡ x % y)

-- the operator stops for the reason r
abbrev pub Refuses : Operator → ℕ → ℕ → Reason → Type 0
Refuses Add x y r = (max_value < x + y) × (r ≡ reason.Overflow)
Refuses Sub x y r = (x < y) × (r ≡ reason.Underflow)
Refuses Mul x y r = (max_value < x * y) × (r ≡ reason.Overflow)
Refuses Div x y r = (y ≡ 0) × (r ≡ reason.ZeroDivisor)
Refuses Rem x y r = (y ≡ 0) × (r ≡ reason.ZeroDivisor)

abbrev pub compared : Comparison → ℕ → ℕ → Bool
compared Eq x y = x == y
compared Ne x y = not (x == y)
compared Lt x y = nat_lt x y
compared Le x y = nat_le x y
compared Gt x y = nat_lt y x
compared Ge x y = nat_le y x

-- EXPRESSIONS, from left to right

-- a record has the value last written in this call, or else the state's if it is in the read set
abbrev pub Reads : Call → Frame → ℕ → ℕ → Type 0
Reads c f r v = (map.get f.written r ≡ Some v) ⊎ ((map.get f.written r ≡ None) × (c.reads r ≡ Some v))

-- the expression has the value v
abbrev pub HasValue : Call → Frame → Expr → ℕ → Type 0
HasValue c f (Num n) v = v ≡ n
HasValue c f (Param i) v = v ≡ number_at c i
HasValue c f (Local i) v = v ≡ slice_index f.locals i
HasValue c f (Rec i) v = Reads c f (record_at c i) v
HasValue c f (Calc op a b) v = (x : ℕ) × (y : ℕ) × HasValue c f a x × HasValue c f b y × Makes op x y v

-- the expression stops for the reason r: in its left operand, in its right one, or at the operator
abbrev pub Stops : Call → Frame → Expr → Reason → Type 0
Stops c f (Num n) r = ⊥
Stops c f (Param i) r = ⊥
Stops c f (Local i) r = ⊥
Stops c f (Rec i) r = (map.get f.written (record_at c i) ≡ None) × (c.reads (record_at c i) ≡ None) × (r ≡ reason.Undeclared)
Stops c f (Calc op a b) r =
    Stops c f a r
    ⊎ ((x : ℕ) × HasValue c f a x × Stops c f b r)
    ⊎ ((x : ℕ) × (y : ℕ) × HasValue c f a x × HasValue c f b y × Refuses op x y r)

-- CONDITIONS

-- the condition has the truth value v; the right side counts only where the left one does not decide
abbrev pub HasTruth : Call → Frame → Cond → Bool → Type 0
HasTruth c f (Cmp op a b) v = (x : ℕ) × (y : ℕ) × HasValue c f a x × HasValue c f b y × (v ≡ compared op x y)
HasTruth c f (And p q) v = (HasTruth c f p false × (v ≡ false)) ⊎ (HasTruth c f p true × HasTruth c f q v)
HasTruth c f (Or p q) v = (HasTruth c f p true × (v ≡ true)) ⊎ (HasTruth c f p false × HasTruth c f q v)
HasTruth c f (Not p) v = (u : Bool) × HasTruth c f p u × (v ≡ not u)

abbrev pub TestStops : Call → Frame → Cond → Reason → Type 0
TestStops c f (Cmp op a b) r = Stops c f a r ⊎ ((x : ℕ) × HasValue c f a x × Stops c f b r)
TestStops c f (And p q) r = TestStops c f p r ⊎ (HasTruth c f p true × TestStops c f q r)
TestStops c f (Or p q) r = TestStops c f p r ⊎ (HasTruth c f p false × TestStops c f q r)
TestStops c f (Not p) r = TestStops c f p r

-- STATEMENTS

-- a block leads from f to g: its body does, and the locals that it made are gone
abbrev pub Scoped : (Frame → Frame → Type 0) → Frame → Frame → Type 0
Scoped Body f g = (m : Frame) × Body f m × (g ≡ leave (length f.locals) m)

-- n turns of a block
abbrev pub Turns : ℕ → (Frame → Frame → Type 0) → Frame → Frame → Type 0
Turns zero Body f g = g ≡ f
Turns (suc n) Body f g = (m : Frame) × Body f m × Turns n Body m g

-- one of n turns stops
abbrev pub TurnsStop : ℕ → (Frame → Frame → Type 0) → (Frame → Reason → Type 0) → Frame → Reason → Type 0
TurnsStop zero Body Stop f r = ⊥
TurnsStop (suc n) Body Stop f r = Stop f r ⊎ ((m : Frame) × Body f m × TurnsStop n Body Stop m r)

-- the statement leads from f to g
abbrev mutual
  pub Leads : Call → Stmt → Frame → Frame → Type 0
  Leads c (Let slot name e) f g = (v : ℕ) × HasValue c f e v × (g ≡ with_local f v)
  Leads c (SetLocal i e) f g = (v : ℕ) × HasValue c f e v × (g ≡ with_local_at f i v)
  Leads c (SetRec i e) f g = (v : ℕ) × HasValue c f e v × (contains f.writes (record_at c i) ≡ true) × (g ≡ with_written f (record_at c i) v)
  Leads c (Require p) f g = HasTruth c f p true × (g ≡ f)
  Leads c (If p first second) f g =
      (HasTruth c f p true × Scoped (LeadsAll c first) f g) ⊎ (HasTruth c f p false × Scoped (LeadsAll c second) f g)
  Leads c (Repeat n body) f g = Turns n (Scoped (LeadsAll c body)) f g

  pub LeadsAll : Call → Stmts → Frame → Frame → Type 0
  LeadsAll c Done f g = g ≡ f
  LeadsAll c (Then s rest) f g = (m : Frame) × Leads c s f m × LeadsAll c rest m g

-- the statement stops at f for the reason r
abbrev mutual
  pub Fails : Call → Stmt → Frame → Reason → Type 0
  Fails c (Let slot name e) f r = Stops c f e r
  Fails c (SetLocal i e) f r = Stops c f e r
  Fails c (SetRec i e) f r =
      Stops c f e r ⊎ ((v : ℕ) × HasValue c f e v × (contains f.writes (record_at c i) ≡ false) × (r ≡ reason.Undeclared))
  Fails c (Require p) f r = TestStops c f p r ⊎ (HasTruth c f p false × (r ≡ reason.Require))
  Fails c (If p first second) f r =
      TestStops c f p r ⊎ (HasTruth c f p true × FailsAll c first f r) ⊎ (HasTruth c f p false × FailsAll c second f r)
  Fails c (Repeat n body) f r = TurnsStop n (Scoped (LeadsAll c body)) (FailsAll c body) f r

  pub FailsAll : Call → Stmts → Frame → Reason → Type 0
  FailsAll c Done f r = ⊥
  FailsAll c (Then s rest) f r = Fails c s f r ⊎ ((m : Frame) × Leads c s f m × FailsAll c rest m r)

-- THE CALL

-- the body runs to its end with the written values w
abbrev pub Ends : Stmts → Txn → State → map.FinMap nat_cmp ℕ → Type 0
Ends body t s w = (f : Frame) × LeadsAll (call_in s t) body (fresh t.writes) f × (f.written ≡ w)

-- the body stops for the reason r
abbrev pub Aborts : Stmts → Txn → State → Reason → Type 0
Aborts body t s r = FailsAll (call_in s t) body (fresh t.writes) r

-- the call comes to this outcome: a commit of the values that the body wrote, where it ends, or an abort, where it stops
abbrev pub HasOutcome : Stmts → Txn → State → Outcome → Type 0
HasOutcome body t s (outcome.Commit entries) = (w : map.FinMap nat_cmp ℕ) × Ends body t s w × (entries ≡ each (map.get w) t.writes)
HasOutcome body t s (outcome.Abort r) = Aborts body t s r

-- these outcomes are what the operations of a table mean, of each transaction in each state
abbrev pub AreMeant : Table → (State → Txn → Outcome) → Type 0
AreMeant table outcomes = (s : State) (t : Txn) → HasOutcome (body_in table t) t s (outcomes s t)
