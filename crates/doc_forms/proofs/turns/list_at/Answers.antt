-- What the check of `list_at` leaves to show.
use Rattle.doc_forms.specs.declared.fault.Step.TheVariants.{Key}
use Rattle.doc_forms.specs.Forms.{list_at}
use Rattle.doc_forms.proofs.Steps.{gives_up}
use Rattle.doc_forms.proofs.turns.list_at.Goals as goal

pub returns : goal.returns
unfolding list_at
returns g c = rw (← c.member.ensures) (gives_up (λ n. n) (Key c.args.key.now) c.items.result c.at.result _ c.items.ensures c.at.ensures)
