-- What the check of `name_at` leaves to show.
use Rattle.doc_forms.specs.declared.fault.Step.TheVariants.{Key}
use Rattle.doc_forms.specs.Forms.{name_at}
use Rattle.doc_forms.proofs.Steps.{gives_up}
use Rattle.doc_forms.proofs.turns.name_at.Goals as goal

pub returns : goal.returns
unfolding name_at
returns c = rw (← c.member.ensures) (gives_up (λ n. n) (Key c.args.key.now) c.name.result c.at.result _ c.name.ensures c.at.ensures)
