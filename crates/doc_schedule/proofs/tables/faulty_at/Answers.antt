-- What the check of `faulty_at` leaves to show.
use Rattle.std.specs.Prelude.{codes}
use Rattle.doc_forms.specs.declared.fault.Step.TheVariants.{Key}
use Rattle.doc_forms.proofs.Steps.{gives_up}
use Rattle.doc_schedule.specs.Tables.{faulty_at}
use Rattle.doc_schedule.proofs.tables.faulty_at.Goals as goal

pub returns : goal.returns
unfolding faulty_at
returns c = rw (← c.member.ensures) (gives_up (λ x. x) (Key (codes "from")) c.reference.result c.at.result _ c.reference.ensures c.at.ensures)
