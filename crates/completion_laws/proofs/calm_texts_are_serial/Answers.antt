-- What the check of `calm_texts_are_serial` leaves to show.
use Rattle.completion_laws.proofs.WholeTexts.{calm_texts}
use Rattle.completion_laws.proofs.calm_texts_are_serial.Goals as goal

pub returns : goal.returns
returns c = calm_texts
