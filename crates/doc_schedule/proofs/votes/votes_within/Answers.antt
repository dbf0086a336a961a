-- What the check of `votes_within` leaves to show.
use Rattle.std.proofs.Common.{◌≤◌, ◌+◌, arith}
use Rattle.doc_schedule.specs.Votes.{next_vote}
use Rattle.doc_schedule.specs.ScheduleMeaning.{SaysVote}
use Rattle.doc_schedule.proofs.EndsMeant.{each_count}
use Rattle.doc_schedule.proofs.VotesMeant.{vote_step}
use Rattle.doc_schedule.proofs.votes.votes_within.Goals as goal

pub returns-clause-bound : goal.returns-clause-bound
returns-clause-bound c = each_count next_vote SaysVote vote_step (λ n. c.args.total + n ≤ 16384) c.args.list.now c.new.result c.each.result c.new.ensures c.each.ensures
    (let a = c.if-total-gt16384.false in let b = c.if-list-total.false in omega (arith, a, b))
