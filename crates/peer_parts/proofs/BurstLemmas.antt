-- What a board's burst gives, by as many workers as were hired.
use Rattle.std.specs.Prelude.{ℕ, ◌<◌, List, Option, map}
use Rattle.std.specs.List.{All}
use Rattle.std.proofs.lemmas.List.Elements.{All-map}
use Rattle.txn_types.specs.declared.txn.Outcome.{Outcome}
use Rattle.board_defs.specs.Closure.{Plan, ran_positions, IsClosed}
use Rattle.board_work.specs.declared.plan.Span.{Span}
use Rattle.board_work.specs.Spans.{span_of}
use Rattle.trace_laws.proofs.Workers.{fewer_workers}

-- a plan that is closed for many workers is closed for those that its spans name
pub closed_by : (plan : Plan) (many workers : ℕ) (outcomes : List (Option Outcome)) (spans : List Span) → IsClosed plan many outcomes (map span_of spans) → All (λ s. s.worker < workers) spans → IsClosed plan workers outcomes (map span_of spans)
closed_by plan many workers outcomes spans h below = record {
  outcomes_are = h.outcomes_are;
  trace = fewer_workers plan.table.kind plan.txns many workers (ran_positions plan) (map span_of spans) h.trace (All-map (λ s. s.worker < workers) span_of spans below);
}
