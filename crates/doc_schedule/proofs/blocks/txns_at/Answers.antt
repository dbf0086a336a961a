-- What the check of `txns_at` leaves to show.
use Rattle.std.specs.Prelude.{codes}
use Rattle.doc_forms.specs.declared.fault.Step.TheVariants.{Key}
use Rattle.doc_forms.proofs.Steps.{gives_up}
use Rattle.doc_schedule.specs.Blocks.{txns_at}
use Rattle.doc_schedule.proofs.blocks.txns_at.Goals as goal

pub returns-clause-check : goal.returns-clause-check
unfolding txns_at
returns-clause-check c = rw (← c.member.ensures) (gives_up (λ x. x) (Key (codes "txns")) c.txns.result c.at.result _ c.txns.ensures.check c.at.ensures)
