-- What each turn of the loops of `place_of` keeps.
use Rattle.std.proofs.Common.{◌≡◌, ◌++◌, map, take, drop}
use Rattle.board_defs.specs.Rounds.{put_span}
use Rattle.board_work.specs.declared.plan.Span.{Span}
use Rattle.board_work.specs.Spans.{span_of}
use Rattle.peer_parts.proofs.joining.place_of.Given as goal

abbrev pub invariant-loop-i : goal.invariant-loop-i
invariant-loop-i l = (s : Span) → s.t ≡ l.t → put_span (span_of s) (map span_of l.spans) ≡ map span_of (take l.i l.spans) ++ put_span (span_of s) (map span_of (drop l.i l.spans))
