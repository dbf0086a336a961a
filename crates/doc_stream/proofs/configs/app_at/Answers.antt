-- What the check of `app_at` leaves to show.
use Rattle.std.specs.Prelude.{codes}
use Rattle.doc_forms.specs.declared.fault.Step.TheVariants.{Key}
use Rattle.doc_forms.proofs.Steps.{gives_up}
use Rattle.doc_stream.specs.Configs.{app_at}
use Rattle.doc_stream.proofs.configs.app_at.Goals as goal

pub returns : goal.returns
unfolding app_at
returns c = rw (← c.member.ensures) (gives_up (λ app. app) (Key (codes "config")) c.reference.result c.at.result _ c.reference.ensures c.at.ensures)
