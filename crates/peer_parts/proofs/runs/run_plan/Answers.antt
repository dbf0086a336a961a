-- What the check of `run_plan` leaves to show.
use Rattle.board_work.specs.Plans.{plan_of}
use Rattle.peer_parts.proofs.BurstLemmas.{closed_by}
use Rattle.peer_parts.proofs.runs.run_plan.Goals as goal

pub returns-clause-closed : goal.returns-clause-closed
returns-clause-closed g c = closed_by (plan_of c.args.plan.now) 16 c.args.workers c.in_ok-ran.ran.outcomes c.in_ok-ran.ran.trace c.in_ok-ran.ensures.closed c.in_ok-ran.ensures.workers
