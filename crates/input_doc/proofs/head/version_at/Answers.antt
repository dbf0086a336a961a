-- What the check of `version_at` leaves to show.
use Rattle.doc_forms.specs.declared.fault.Step.TheVariants.{Key}
use Rattle.doc_forms.proofs.Steps.{gives_up}
use Rattle.input_doc.specs.Head.{version_at}
use Rattle.input_doc.proofs.head.version_at.Goals as goal

pub returns : goal.returns
unfolding version_at
returns c = rw (← c.member.ensures) (gives_up (λ x. x) (Key c.args.key.now) c.version.result c.at.result _ c.version.ensures c.at.ensures)
