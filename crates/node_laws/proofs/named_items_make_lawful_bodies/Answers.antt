-- What the check of `named_items_make_lawful_bodies` leaves to show.
use Rattle.node_defs.proofs.NamedItems.{named_items_are_lawful}
use Rattle.node_laws.proofs.named_items_make_lawful_bodies.Goals as goal

pub returns : goal.returns
returns c = named_items_are_lawful
