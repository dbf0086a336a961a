-- What each turn of the loops of `gather` keeps.
use Rattle.std.proofs.Common.{◌≡◌, ◌≤◌, length, map, take}
use Rattle.board_work.specs.Spans.{span_of}
use Rattle.script_laws.specs.Placed.{placed}
use Rattle.board_words.specs.Runs.{run_at}
use Rattle.board_words.proofs.closing.gather.Given as goal

abbrev pub invariant-loop-t : goal.invariant-loop-t
invariant-loop-t l = (length l.trace ≡ length l.fn.trace) × (l.count ≤ l.t) × (map span_of (take l.count l.trace) ≡ placed (run_at l.runs) l.t)
