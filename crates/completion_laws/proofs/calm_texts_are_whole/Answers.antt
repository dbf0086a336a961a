-- What the check of `calm_texts_are_whole` leaves to show.
use Rattle.completion_laws.proofs.WholeTexts.{calm_whole_texts}
use Rattle.completion_laws.proofs.calm_texts_are_whole.Goals as goal

pub returns : goal.returns
returns c = calm_whole_texts
