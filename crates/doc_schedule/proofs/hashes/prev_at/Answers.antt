-- What the check of `prev_at` leaves to show.
use Rattle.std.specs.Prelude.{codes}
use Rattle.doc_forms.specs.declared.fault.Step.TheVariants.{Key}
use Rattle.doc_forms.proofs.Steps.{gives_up}
use Rattle.doc_schedule.specs.Hashes.{prev_at}
use Rattle.doc_schedule.proofs.hashes.prev_at.Goals as goal

pub returns : goal.returns
unfolding prev_at
returns c = rw (← c.member.ensures) (gives_up (λ x. x) (Key (codes "prev")) c.prev.result c.at.result _ c.prev.ensures c.at.ensures)
