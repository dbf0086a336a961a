-- The lines of a peer are those of the serial run of its completed blocks, where few enough nodes say something of their own.
use Rattle.node_defs.specs.Programs.{setting_of}
use Rattle.node_laws.proofs.AgreeWorld.{peer_with_chain, premises, world_sound}
use Rattle.node_laws.proofs.Few.{few_all}
use Rattle.node_laws.proofs.SerialPart.{part_with_chain}
use Rattle.completion_laws.specs.CalmLaws.{CalmSerialPart}
use Rattle.completion_laws.specs.Calm.{has_said}
use Rattle.completion_laws.proofs.Law.{said_all}

pub calm_serial_part : CalmSerialPart
calm_serial_part table genesis items bodies faulty events w p calm said world =
    let s = setting_of table genesis items bodies faulty in
    let liar = has_said events in
    let h = premises table genesis items bodies faulty liar (few_all s liar calm.orderers calm.agents) in
    let sound = world_sound s liar h events w (said_all events events (λ x q. q)) world in
    part_with_chain table genesis items bodies faulty w p (peer_with_chain s liar h w sound p)
