-- What the core of a board knows of a plan.
use Rattle.std.specs.Prelude.{ℕ, zero, suc, Bool, true, false, not, ◌==◌, nat_lt, ◌&&◌, ◌||◌, ◌+◌, ◌≤◌, List, ◌∷◌, length, get_or, Option, Some, None, is_some, if◌then◌else◌}
use Rattle.txn_types.specs.declared.txn.Reason.{Reason}
use Rattle.txn_types.specs.declared.txn.Reason.TheVariants.{Require, Overflow, Underflow, ZeroDivisor, Undeclared}
use Rattle.txn_types.specs.declared.txn.Outcome.{Outcome}
use Rattle.txn_types.specs.declared.txn.Outcome.TheVariants.{Abort, Commit}
use Rattle.txn_types.specs.declared.txn.Txn.{Txn}
use Rattle.txn_types.specs.Rising.{IsRising}
use Rattle.oxii_defs.specs.State.{State, value_in, contains}
use Rattle.oxii_defs.specs.Effects.{apply}
use Rattle.oxii_defs.specs.Dependency.{depends}
use Rattle.known_defs.specs.Known.{txn_at, after_known}
use Rattle.board_defs.specs.Closure.{Plan, known_at, is_own, run_of, closure, closure_upto}
use Rattle.board_core.specs.Script.{Script}
use Rattle.board_work.specs.declared.layout.Layout.{Layout}
use Rattle.board_work.specs.declared.layout.Layout.TheVariants.{Values, Versions}
use Rattle.board_core.specs.Traces.{one_if}

-- the records that a position reads, and writes
abbrev pub reads_at : Plan → ℕ → List ℕ
reads_at plan t = (txn_at plan.txns t).reads

abbrev pub writes_at : Plan → ℕ → List ℕ
writes_at plan t = (txn_at plan.txns t).writes

-- what a position comes to, known or run
abbrev pub outcome_at : Plan → ℕ → Option Outcome
outcome_at plan t = get_or (closure plan) t None

-- the state in which a position runs
abbrev pub state_before : Plan → ℕ → State
state_before plan t = after_known plan.base plan.txns (closure_upto plan t)

-- what its operation means there
abbrev pub meant_at : Plan → ℕ → Outcome
meant_at plan t = run_of plan t (closure_upto plan t)

-- a later position depends on an earlier one
abbrev pub is_edge : Plan → ℕ → ℕ → Bool
is_edge plan s t = nat_lt s t && depends plan.table.kind (txn_at plan.txns s) (txn_at plan.txns t)

-- the lists of each transaction are those of their types
pub record AreHeld (plan : Plan) : Type 0 where
  pub reads : (t : ℕ) → length (reads_at plan t) ≤ 16
  pub writes : (t : ℕ) → length (writes_at plan t) ≤ 16
  pub rising : (t : ℕ) → IsRising (writes_at plan t)

-- a state with what is known of one position
abbrev pub apply_known : State → Txn → Option Outcome → State
apply_known s t None = s
apply_known s t (Some o) = apply s t o

-- WHAT AN OUTCOME GIVES

-- the second, where there is no first
abbrev pub later : Option ℕ → Option ℕ → Option ℕ
later (Some x) c = Some x
later None c = c

-- what entries give a record: the last one at its positions
abbrev pub given : List ℕ → List (Option ℕ) → ℕ → Option ℕ
given (w ∷ ws) (c ∷ cells) r = later (given ws cells r) (if r == w then c else None)
given _ _ r = None

-- what an outcome gives a record, where it gives something
abbrev pub gives : Option Outcome → List ℕ → ℕ → Option ℕ
gives (Some (Commit cells)) ws r = given ws cells r
gives _ ws r = None

-- WORDS

abbrev pub reason_word : Reason → ℕ
reason_word Require = 2
reason_word Overflow = 3
reason_word Underflow = 4
reason_word ZeroDivisor = 5
reason_word Undeclared = 6

abbrev pub cell_word : Option ℕ → ℕ
cell_word (Some x) = x + 2
cell_word None = 1

-- the outcome word, and a result word for each record written; 0 where there is no outcome
abbrev pub word_of : Option Outcome → ℕ → ℕ
word_of None k = 0
word_of (Some (Abort r)) zero = reason_word r
word_of (Some (Abort r)) (suc k) = 1
word_of (Some (Commit cells)) zero = 1
word_of (Some (Commit cells)) (suc k) = cell_word (get_or cells k None)

-- THE SCRIPT

-- an own position waits for one that isn't known
abbrev pub waits : Plan → ℕ → ℕ → Bool
waits plan s t = is_own plan t && (not (is_some (known_at plan s)) && is_edge plan s t)

-- it reads or writes the record
abbrev pub uses_at : Plan → ℕ → ℕ → Bool
uses_at plan t r = contains (reads_at plan t) r || contains (writes_at plan t) r

-- what the core of a board knows of a plan, where the words keep the value of each record
abbrev pub script : Plan → Script
script plan = record {
  size = length plan.txns;
  edge = λ s t. one_if (waits plan s t);
  own = is_own plan;
  runs = λ t. is_own plan t && is_some (outcome_at plan t);
  records = length plan.table.records;
  parts = λ t. 1 + length (writes_at plan t);
  meant = λ t k. word_of (outcome_at plan t) k;
  fixed = λ t k. false;
  uses = uses_at plan;
  base = value_in plan.base;
  effect = λ t r. gives (outcome_at plan t) (writes_at plan t) r;
  early = λ t r. one_if (is_some (known_at plan t) && is_some (gives (outcome_at plan t) (writes_at plan t) r));
}

-- whether the words keep the value of each record
abbrev pub has_values : Layout → Bool
has_values Values = true
has_values Versions = false

-- a version word of a known position
abbrev pub is_early_version : Plan → ℕ → ℕ → Bool
is_early_version plan t k = is_some (known_at plan t) && (nat_lt 0 k && nat_lt k (1 + length (writes_at plan t)))

-- what the core knows of a plan: where the words keep versions, each is a word that its writer publishes, and there are no value words
abbrev pub script_of : Layout → Plan → Script
script_of layout plan = record (script plan) {
  fixed = λ t k. not (has_values layout) && is_early_version plan t k;
  records = if has_values layout then length plan.table.records else 0;
  uses = λ t r. has_values layout && uses_at plan t r;
  effect = λ t r. if has_values layout then gives (outcome_at plan t) (writes_at plan t) r else None;
  early = λ t r. if has_values layout then one_if (is_some (known_at plan t) && is_some (gives (outcome_at plan t) (writes_at plan t) r)) else 0;
}
