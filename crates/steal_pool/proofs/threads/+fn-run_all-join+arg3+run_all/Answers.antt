-- What the check of the closures of `run_all` leaves to show.
use Rattle.steal_pool.proofs.PassLemmas.{joined_tried, joined_numbers}
use Rattle.steal_pool.proofs.threads.+fn-run_all-join+arg3+run_all.Goals as goal

pub returns-clause-tried : goal.returns-clause-tried
returns-clause-tried g t c =
    joined_tried (g.W.Work.state c.join-keep.result.0) (g.W.Work.state c.join-keep.result.1) (g.W.Work.state c.join.result) c.join.ensures c.join-keep.ensures.first.3 c.join-keep.ensures.second.1

pub returns-clause-numbers : goal.returns-clause-numbers
returns-clause-numbers g t c = λ n.
    joined_numbers (g.W.Work.state c.args.first) (g.W.Work.state c.in-Some.next) (g.W.Work.state c.join.result) (g.W.Work.state c.join-keep.result.0) (g.W.Work.state c.join-keep.result.1) _ n
    c.join.ensures c.join-keep.ensures.first.1 (c.join-keep.ensures.second.2 n) _ (c.in-Some.ensures.numbers n)
