-- What the check of `number_at` leaves to show.
use Rattle.doc_forms.specs.declared.fault.Step.TheVariants.{Key}
use Rattle.doc_forms.specs.Forms.{number_at}
use Rattle.doc_forms.proofs.Steps.{gives_up}
use Rattle.doc_forms.proofs.turns.number_at.Goals as goal

pub returns : goal.returns
unfolding number_at
returns c = rw (← c.member.ensures) (gives_up (λ n. n) (Key c.args.key.now) c.number_in.result c.at.result _ c.number_in.ensures c.at.ensures)
