-- What the check of `traces_are_lawful` leaves to show.
use Rattle.script_laws.proofs.Traced.{traces_law}
use Rattle.script_laws.proofs.traces_are_lawful.Goals as goal

pub returns : goal.returns
returns c = traces_law
