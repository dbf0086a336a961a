-- The runs of positions, by position.
use Rattle.std.specs.Prelude.{◌≡◌, ◌+◌, ℕ, List, slice_index_or, slice_set, Option, Some, None}
use Rattle.board_core.specs.Counts.{Run}
use Rattle.board_work.specs.declared.plan.Span.{Span}

-- a span as a run
abbrev pub run_of : Option Span → Option Run
run_of (Some s) = Some (s.t, s.worker, s.begin, s.finish)
run_of None = None

-- the run at a position
abbrev pub run_at : List (Option Span) → ℕ → Option Run
run_at runs t = run_of (slice_index_or runs t None)

-- one span more in front, where there is a run
abbrev pub Fills : Option Span → ℕ → ℕ → List Span → List Span → Type 0
Fills (Some s) n m before after = (m ≡ n + 1) × (after ≡ slice_set before n s)
Fills None n m before after = (m ≡ n) × (after ≡ before)
