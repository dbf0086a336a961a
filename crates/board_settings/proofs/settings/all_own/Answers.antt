-- What the check of `all_own` leaves to show.
use Rattle.std.proofs.Common.{◌∙◌, ◌++◌, ◌∷◌, [], ap, true}
use Rattle.std.proofs.lemmas.List.{replicate_more}
use Rattle.board_settings.proofs.settings.all_own.Goals as goal

pub loop-preserved : goal.loop-preserved
loop-preserved c = c.in_ok-push.ensures.ok ∙ (ap (λ xs. xs ++ true ∷ []) c.loop.invariant ∙ replicate_more c.loop.counter true)
