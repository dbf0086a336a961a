-- What the check of `votes_at` leaves to show.
use Rattle.std.specs.Prelude.{codes}
use Rattle.doc_forms.specs.declared.fault.Step.TheVariants.{Key}
use Rattle.doc_forms.proofs.Steps.{gives_up}
use Rattle.doc_schedule.specs.Votes.{votes_at}
use Rattle.doc_schedule.proofs.votes.votes_at.Goals as goal

pub returns-clause-check : goal.returns-clause-check
unfolding votes_at
returns-clause-check c = rw (← c.member.ensures) (gives_up (λ x. x) (Key (codes "votes")) c.votes.result c.at.result _ c.votes.ensures.check c.at.ensures)
