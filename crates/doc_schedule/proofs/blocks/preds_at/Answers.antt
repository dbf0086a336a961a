-- What the check of `preds_at` leaves to show.
use Rattle.std.specs.Prelude.{codes}
use Rattle.doc_forms.specs.declared.fault.Step.TheVariants.{Key}
use Rattle.doc_forms.proofs.Steps.{gives_up}
use Rattle.doc_schedule.specs.Blocks.{preds_at}
use Rattle.doc_schedule.proofs.blocks.preds_at.Goals as goal

pub returns : goal.returns
unfolding preds_at
returns c = rw (← c.member.ensures, ← c.count_of-count.ensures.count) (gives_up (λ x. x) (Key (codes "preds")) c.preds.result c.at.result _ c.preds.ensures c.at.ensures)
