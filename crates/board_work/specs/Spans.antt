-- What the spans of the code stand for.
use Rattle.board_defs.specs.Trace as trace
use Rattle.board_work.specs.declared.plan.Span.{Span}

-- the span of the definitions
abbrev pub span_of : Span → trace.Span
span_of s = record { position = s.t; worker = s.worker; begin = s.begin; finish = s.finish }
