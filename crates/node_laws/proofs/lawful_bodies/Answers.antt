-- What the check of `lawful_bodies` leaves to show.
use Rattle.node_laws.proofs.Bodies.{lawful_bodies as lawful_bodies_law}
use Rattle.node_laws.proofs.lawful_bodies.Goals as goal

pub returns : goal.returns
returns c = lawful_bodies_law
