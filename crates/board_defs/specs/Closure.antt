-- What a plan's run comes to, and when a plan can be run.
use Rattle.std.specs.Prelude.{◌≡◌, ◌≤◌, ℕ, zero, suc, Bool, true, false, ◌&&◌, if◌then◌else◌, List, [], ◌∷◌, ◌++◌, length, get_or, take, Option, Some, None}
use Rattle.std.specs.List.{All}
use Rattle.txn_types.specs.Fitting.{Fits}
use Rattle.txn_types.specs.declared.txn.Kind.{Kind}
use Rattle.txn_types.specs.declared.txn.Outcome.{Outcome}
use Rattle.txn_types.specs.declared.txn.Txn.{Txn}
use Rattle.oxii_defs.specs.State.{State, IsState}
use Rattle.oxii_defs.specs.Table.{Table}
use Rattle.oxii_defs.specs.Lawful.{IsLawfulTxn, IsLawfulTable}
use Rattle.oxii_defs.specs.Outcomes.{outcome_in}
use Rattle.known_defs.specs.Known.{txn_at, after_known, knows_all}
use Rattle.board_defs.specs.Trace.{Span, IsLawfulTrace}

-- what is to be run of a block: the state before it, for each position what is known of it, and whether it is to be run
pub record Plan : Type 0 where
  pub table : Table
  pub txns : List Txn
  pub base : State
  pub known : List (Option Outcome)
  pub own : List Bool

-- the outcome that the plan knows of t
abbrev pub known_at : Plan → ℕ → Option Outcome
known_at plan t = get_or plan.known t None

-- t is to be run
abbrev pub is_own : Plan → ℕ → Bool
is_own plan t = get_or plan.own t false

-- whether t can run, where this is what the positions before it come to: each predecessor is known or runs
abbrev pub can_run : Plan → ℕ → List (Option Outcome) → Bool
can_run plan t earlier = is_own plan t && knows_all plan.table.kind (txn_at plan.txns t) plan.txns earlier

-- its outcome in the base with the outcomes of the positions before it that are known or run
abbrev pub run_of : Plan → ℕ → List (Option Outcome) → Outcome
run_of plan t earlier = outcome_in plan.table (after_known plan.base plan.txns earlier) (txn_at plan.txns t)

-- what a position comes to: its known outcome, or else that of its run
abbrev pub comes_to : Plan → ℕ → Option Outcome → List (Option Outcome) → Option Outcome
comes_to plan t (Some o) earlier = Some o
comes_to plan t None earlier = if can_run plan t earlier then Some (run_of plan t earlier) else None

-- what each of the first t positions comes to
abbrev pub closure_upto : Plan → ℕ → List (Option Outcome)
closure_upto plan zero = []
closure_upto plan (suc t) = closure_upto plan t ++ comes_to plan t (known_at plan t) (closure_upto plan t) ∷ []

-- the closure of a plan: for each position its outcome, where it is known or runs
abbrev pub closure : Plan → List (Option Outcome)
closure plan = closure_upto plan (length plan.txns)

-- WHAT A RUN GIVES

-- nothing where an outcome is known, else what the position comes to
abbrev pub unless_known : Option Outcome → Option Outcome → Option Outcome
unless_known (Some o) come = None
unless_known None come = come

-- the outcome that a run of the plan gives t: that of the closure, and nothing where t is known
abbrev pub run_outcome : Plan → ℕ → Option Outcome
run_outcome plan t = unless_known (known_at plan t) (get_or (closure plan) t None)

-- that of each of the first n positions
abbrev pub run_outcomes_upto : Plan → ℕ → List (Option Outcome)
run_outcomes_upto plan zero = []
run_outcomes_upto plan (suc t) = run_outcomes_upto plan t ++ run_outcome plan t ∷ []

-- for each position of the block the outcome that a run gives it
abbrev pub run_outcomes : Plan → List (Option Outcome)
run_outcomes plan = run_outcomes_upto plan (length plan.txns)

-- one position more, where it has an outcome
abbrev pub with_position : List ℕ → ℕ → Option Outcome → List ℕ
with_position positions t None = positions
with_position positions t (Some o) = positions ++ t ∷ []

-- which of the first n positions a run gives an outcome
abbrev pub ran_upto : Plan → ℕ → List ℕ
ran_upto plan zero = []
ran_upto plan (suc t) = with_position (ran_upto plan t) t (run_outcome plan t)

-- the positions that a run gives an outcome, in order
abbrev pub ran_positions : Plan → List ℕ
ran_positions plan = ran_upto plan (length plan.txns)

-- the plan's run is done: these are its outcomes, and these the spans of the positions that ran
pub record IsClosed (plan : Plan) (workers : ℕ) (outcomes : List (Option Outcome)) (spans : List Span) : Type 0 where
  pub outcomes_are : outcomes ≡ run_outcomes plan
  pub trace : IsLawfulTrace plan.table.kind plan.txns workers (ran_positions plan) spans

-- WHEN A PLAN CAN BE RUN

-- what a known position depends on is known
abbrev pub IsKnownClosed : Kind → List Txn → List (Option Outcome) → Type 0
IsKnownClosed kind txns known = (t : ℕ) (o : Outcome) → get_or known t None ≡ Some o → knows_all kind (txn_at txns t) txns (take t known) ≡ true

-- A plan that can be run. The table, the transactions and the state before them are lawful; each position has an entry in either list;
-- what a known position depends on is known, known outcomes fit, and no position that is to be run is known.
pub record IsLawfulPlan (plan : Plan) : Type 0 where
  pub table : IsLawfulTable plan.table
  pub few : length plan.txns ≤ 256
  pub txns : All (IsLawfulTxn plan.table) plan.txns
  pub base : IsState plan.base
  pub known_long : length plan.known ≡ length plan.txns
  pub own_long : length plan.own ≡ length plan.txns
  pub known_closed : IsKnownClosed plan.table.kind plan.txns plan.known
  pub known_fits : (t : ℕ) (o : Outcome) → known_at plan t ≡ Some o → Fits (txn_at plan.txns t) o
  pub own_unknown : (t : ℕ) → is_own plan t ≡ true → known_at plan t ≡ None
