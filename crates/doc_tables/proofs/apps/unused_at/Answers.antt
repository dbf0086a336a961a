-- What the check of `unused_at` leaves to show.
use Rattle.doc_forms.specs.declared.fault.Step.TheVariants.{Key}
use Rattle.doc_forms.proofs.Steps.{gives_up}
use Rattle.doc_tables.specs.Apps.{unused_at}
use Rattle.doc_tables.proofs.apps.unused_at.Goals as goal

pub returns : goal.returns
unfolding unused_at
returns c = rw (← c.member.ensures) (gives_up (λ text. text) (Key c.args.key.now) c.unused.result c.at.result _ c.unused.ensures c.at.ensures)
