-- What the check of `graphs_are_meant` leaves to show.
use Rattle.oxii_defs.proofs.Graphs.{graphs_meant}
use Rattle.oxii_defs.proofs.laws.graphs_are_meant.Goals as goal

pub returns : goal.returns
returns c = graphs_meant
