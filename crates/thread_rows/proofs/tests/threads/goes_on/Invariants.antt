-- What each turn of the loops of `goes_on` keeps.
use Rattle.std.proofs.Common.{◌≡◌}
use Rattle.board_work.specs.PassStates.{IsOf, IsFree}
use Rattle.thread_rows.proofs.tests.threads.goes_on.Given as goal

abbrev pub invariant-loop-t : goal.invariant-loop-t
invariant-loop-t g l =
    let now = g.W.Work.state l.pass in
    let old = g.W.Work.state l.fn.pass in
    (IsOf (g.W.Work.home l.work) now × IsFree now) × (now.numbers ≡ old.numbers) × (now.passes ≡ old.passes)
