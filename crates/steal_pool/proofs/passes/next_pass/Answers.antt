-- What the check of `next_pass` leaves to show.
use Rattle.std.proofs.Common.{◌<◌}
use Rattle.board_core.specs.Counts.{times}
use Rattle.steal_pool.proofs.PassLemmas.{popped}
use Rattle.steal_pool.proofs.passes.next_pass.Goals as goal

pub returns-clause-numbers : goal.returns-clause-numbers
returns-clause-numbers g c = popped (λ n o. 0 < times n (g.W.Work.state o).numbers) c.pop.result c.args.passes.now.items c.pop.new.self.items c.pop.ensures.items
