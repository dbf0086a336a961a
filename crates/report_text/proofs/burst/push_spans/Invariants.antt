-- What each turn of the loops of `push_spans` keeps.
use Rattle.std.proofs.Common.{◌≡◌, ◌++◌, map, take}
use Rattle.std.specs.List.{flat_map}
use Rattle.board_work.specs.Spans.{span_of}
use Rattle.report_text.specs.BurstText.{span_line}
use Rattle.report_text.proofs.burst.push_spans.Given as goal

abbrev pub invariant-loop-span : goal.invariant-loop-span
invariant-loop-span l = l.text ≡ l.initial.text ++ flat_map span_line (map span_of (take l.span-index l.spans))
