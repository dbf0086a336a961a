-- What the check of `serial_runs_are_meant` leaves to show.
use Rattle.oxii_defs.proofs.Serially.{serial_runs}
use Rattle.oxii_defs.proofs.laws.serial_runs_are_meant.Goals as goal

pub returns : goal.returns
returns c = serial_runs
