-- What the check of `value` leaves to show.
use Rattle.std.proofs.Common.{◌≡◌, ◌+◌, ◌*◌, ◌-◌, ◌∙◌, min, get_or, arith}
use Rattle.txn_types.specs.Values.{max_value}
use Rattle.contract_grammar.proofs.Lexing.{number_turn}
use Rattle.contract_grammar.proofs.lexer.value.Goals as goal

pub loop-digit-preserved : goal.loop-digit-preserved
loop-digit-preserved c =
    let is : c.min-value.result ≡ min (10 * c.loop-digit.value + (get_or c.args.digits.now c.loop-digit.digit-index 0 - 48)) (max_value + 1) = omega arith in
    record {
      small = omega arith;
      same = rw is (number_turn c.args.digits.now c.loop-digit.digit-index c.loop-digit.value c.loop-digit-test.true ∙ c.loop-digit.invariant.same);
    }
