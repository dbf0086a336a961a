-- What each turn of the loops of `put_each` keeps.
use Rattle.std.proofs.Common.{◌≡◌, map, length}
use Rattle.board_defs.specs.Rounds.{raised_span}
use Rattle.board_work.specs.Spans.{span_of}
use Rattle.peer_parts.specs.Joining.{IsShort, put_spans}
use Rattle.peer_parts.proofs.joining.put_each.Given as goal

abbrev pub invariant-loop-span : goal.invariant-loop-span
invariant-loop-span l = record {
  short : IsShort l.spans;
  puts : put_spans (map (raised_span l.by) (map span_of l.spans)) (map span_of l.all) ≡ put_spans (map (raised_span l.by) (map span_of l.fn.spans)) (map span_of l.fn.all);
}

abbrev pub decreases-loop-span : goal.decreases-loop-span
decreases-loop-span l = length l.spans
