-- What the check of `one_text` leaves to show.
use Rattle.node_laws.proofs.Texts.{one_text as one_text_law}
use Rattle.node_laws.proofs.one_text.Goals as goal

pub returns : goal.returns
returns c = one_text_law
