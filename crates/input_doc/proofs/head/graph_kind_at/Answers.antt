-- What the check of `graph_kind_at` leaves to show.
use Rattle.doc_forms.specs.declared.fault.Step.TheVariants.{Key}
use Rattle.doc_forms.proofs.Steps.{gives_up}
use Rattle.input_doc.specs.Head.{graph_kind_at}
use Rattle.input_doc.proofs.head.graph_kind_at.Goals as goal

pub returns : goal.returns
unfolding graph_kind_at
returns c = rw (← c.member.ensures) (gives_up (λ x. x) (Key c.args.key.now) c.kind.result c.at.result _ c.kind.ensures c.at.ensures)
