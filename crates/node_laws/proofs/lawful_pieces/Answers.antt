-- What the check of `lawful_pieces` leaves to show.
use Rattle.node_laws.proofs.Bodies.{lawful_pieces as lawful_pieces_law}
use Rattle.node_laws.proofs.lawful_pieces.Goals as goal

pub returns : goal.returns
returns c = lawful_pieces_law
