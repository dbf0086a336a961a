-- What the check of `entries` leaves to show.
use Rattle.std.proofs.Common.{◌≡◌, length, refl}
use Rattle.doc_schedule.specs.Votes.{next_out}
use Rattle.doc_schedule.specs.ScheduleMeaning.{SaysWritten}
use Rattle.doc_schedule.proofs.EndsMeant.{each_count}
use Rattle.doc_schedule.proofs.VotesMeant.{out_step}
use Rattle.doc_schedule.proofs.votes.entries.Goals as goal

pub returns-clause-count : goal.returns-clause-count
returns-clause-count c = each_count next_out SaysWritten out_step (λ n. n ≡ length c.args.list.now) c.args.list.now c.new.result c.each.result c.new.ensures c.each.ensures refl
