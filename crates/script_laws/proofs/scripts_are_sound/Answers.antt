-- What the check of `scripts_are_sound` leaves to show.
use Rattle.script_laws.proofs.Sound.{sound_for}
use Rattle.script_laws.proofs.scripts_are_sound.Goals as goal

pub returns : goal.returns
returns c = sound_for
