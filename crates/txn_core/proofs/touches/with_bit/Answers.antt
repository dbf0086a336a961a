-- What the check of `with_bit` leaves to show.
use Rattle.std.specs.Int.{w64}
use Rattle.std.proofs.lemmas.Nat.Bits.{bit_at_set_same}
use Rattle.txn_core.proofs.TouchLemmas.{bit_or_left}
use Rattle.txn_core.proofs.touches.with_bit.Goals as goal

pub returns-clause-kept : goal.returns-clause-kept
returns-clause-kept c = bit_or_left c.args.word _

pub returns-clause-set : goal.returns-clause-set
returns-clause-set c = bit_at_set_same w64 c.args.word c.args.bit c.requires
