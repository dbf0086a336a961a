-- What the check of `run_hired` leaves to show.
use Rattle.std.proofs.Common.{arith}
use Rattle.steal_pool.proofs.PassLemmas.{taken_in, workers_below}
use Rattle.steal_pool.proofs.RunOutcomes.{all_fit}
use Rattle.steal_pool.proofs.pool.run_hired.Goals as goal

pub close-requires-clause-complete : goal.close-requires-clause-complete
close-requires-clause-complete g c = λ k l.
    let split = c.in_ok-rest.ensures in
    let taken = taken_in g.W.Work.state (g.W.Work.home c.args.work) (g.W.Work.state c.split_all.new.first) (g.W.Work.state c.run_all-last.result) c.in_ok-rest.rest.items c.args.workers split c.run_all-last.ensures.numbers k in
    taken.1 (omega (arith, l, split.passes, c.run_all-last.ensures.passes))

pub returns-clause-workers : goal.returns-clause-workers
returns-clause-workers g c =
    let taken = taken_in g.W.Work.state (g.W.Work.home c.args.work) (g.W.Work.state c.split_all.new.first) (g.W.Work.state c.run_all-last.result) c.in_ok-rest.rest.items c.args.workers c.in_ok-rest.ensures c.run_all-last.ensures.numbers in
    workers_below (g.W.Work.state c.run_all-last.result) c.args.workers c.close.result.trace taken c.close.ensures.trace.workers

pub returns-clause-fit : goal.returns-clause-fit
returns-clause-fit g c = all_fit (g.W.Work.home c.args.work).plan c.close.result.outcomes c.requires.task.lawful c.close.ensures.outcomes
