-- What the check of `tame_texts_are_serial` leaves to show.
use Rattle.text_laws.proofs.SerialTexts.{tame_texts}
use Rattle.text_laws.proofs.tame_texts_are_serial.Goals as goal

pub returns : goal.returns
returns c = tame_texts
