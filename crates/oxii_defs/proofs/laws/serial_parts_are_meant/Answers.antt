-- What the check of `serial_parts_are_meant` leaves to show.
use Rattle.oxii_defs.proofs.Serially.{serial_parts}
use Rattle.oxii_defs.proofs.laws.serial_parts_are_meant.Goals as goal

pub returns : goal.returns
returns c = serial_parts
