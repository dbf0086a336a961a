-- What the check of `first_bit` leaves to show.
use Rattle.std.proofs.Common.{arith}
use Rattle.txn_core.proofs.TouchLemmas.{none_left, first_within, none_before}
use Rattle.txn_core.proofs.earlier.first_bit.Goals as goal

pub returns-then-rest-eq0-clause-passed : goal.returns-then-rest-eq0-clause-passed
returns-then-rest-eq0-clause-passed c = λ b from lt. none_left c.args.word c.args.from (omega (arith, c.if-rest-eq0.true)) b from

pub returns-clause-room : goal.returns-clause-room
returns-clause-room c = first_within c.args.word c.args.from (omega arith) (omega (arith, c.if-rest-eq0.false))

pub returns-clause-passed : goal.returns-clause-passed
returns-clause-passed c = none_before c.args.word c.args.from (omega arith) (omega (arith, c.if-rest-eq0.false))
