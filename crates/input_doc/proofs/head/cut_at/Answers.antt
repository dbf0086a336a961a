-- What the check of `cut_at` leaves to show.
use Rattle.doc_forms.specs.declared.fault.Step.TheVariants.{Key}
use Rattle.doc_forms.proofs.Steps.{gives_up}
use Rattle.input_doc.specs.Head.{cut_at}
use Rattle.input_doc.proofs.head.cut_at.Goals as goal

pub returns : goal.returns
unfolding cut_at
returns c = rw (← c.member.ensures) (gives_up (λ x. x) (Key c.args.key.now) c.cut.result c.at.result _ c.cut.ensures c.at.ensures)
