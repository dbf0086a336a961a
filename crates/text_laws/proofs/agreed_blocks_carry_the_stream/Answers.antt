-- What the check of `agreed_blocks_carry_the_stream` leaves to show.
use Rattle.text_laws.proofs.Counts.{carry_the_stream}
use Rattle.text_laws.proofs.agreed_blocks_carry_the_stream.Goals as goal

pub returns : goal.returns
returns c = carry_the_stream
