-- What the check of `serial_part` leaves to show.
use Rattle.node_laws.proofs.SerialPart.{serial_part_law}
use Rattle.node_laws.proofs.serial_part.Goals as goal

pub returns : goal.returns
returns c = serial_part_law
