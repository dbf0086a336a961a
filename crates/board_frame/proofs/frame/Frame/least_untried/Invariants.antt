-- What each turn of the loops of `Frame::least_untried` keeps.
use Rattle.std.proofs.Common.{◌<◌, ℕ}
use Rattle.board_core.specs.Counts.{times}
use Rattle.board_frame.proofs.frame.Frame.least_untried.Given as goal

abbrev pub invariant-loop-t : goal.invariant-loop-t
invariant-loop-t l = (x : ℕ) → x < l.t → 0 < times x l.pass.view.duties → 0 < times x l.pass.view.tried
