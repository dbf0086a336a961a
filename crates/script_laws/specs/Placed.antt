-- Runs by position, as the spans of a trace.
use Rattle.std.specs.Prelude.{ℕ, zero, suc, List, [], ◌∷◌, ◌++◌, Option, Some, None}
use Rattle.board_defs.specs.Trace.{Span}
use Rattle.board_core.specs.Counts.{Run}

-- a run as a span
abbrev pub span_of_run : Run → Span
span_of_run r = record { position = r.0; worker = r.1; begin = r.2; finish = r.3 }

-- one span more, where there is a run
abbrev pub with_run : List Span → Option Run → List Span
with_run spans None = spans
with_run spans (Some r) = spans ++ span_of_run r ∷ []

-- the spans of the first n positions, in order
abbrev pub placed : (ℕ → Option Run) → ℕ → List Span
placed run_at zero = []
placed run_at (suc t) = with_run (placed run_at t) (run_at t)
