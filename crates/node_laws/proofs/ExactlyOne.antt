-- Of one list of items there is exactly one cutting.
use Rattle.node_defs.specs.Cutting.{admitted}
use Rattle.node_laws.specs.OneCutting.{ExactlyOneCutting}
use Rattle.node_laws.proofs.Cuttings.{one_cutting}
use Rattle.node_laws.proofs.Greedy.{cut_all}
use Rattle.node_laws.proofs.Rooms.{all_fit}

pub exactly_one_cutting : ExactlyOneCutting
exactly_one_cutting table limits items lawful fair =
    let cut = cut_all table limits (admitted table items) fair.txns.0 (all_fit table limits lawful fair items) in
    record { lists = cut.0; is = cut.1; only = λ other h. one_cutting table limits (admitted table items) other cut.0 h cut.1 }
