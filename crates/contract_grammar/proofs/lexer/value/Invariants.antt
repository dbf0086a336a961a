-- What each turn of the loops of `value` keeps.
use Rattle.std.proofs.Common.{◌≡◌, ◌≤◌, drop, min, ◌+◌}
use Rattle.txn_types.specs.Values.{max_value}
use Rattle.contract_grammar.specs.Lexer.{decimal}
use Rattle.contract_grammar.proofs.lexer.value.Given as goal

-- what is left leads on to the whole number
abbrev pub invariant-loop-digit : goal.invariant-loop-digit
invariant-loop-digit l = record {
  small : l.value ≤ max_value + 1;
  same : min (decimal l.value (drop l.digit-index l.digits)) (max_value + 1) ≡ min (decimal 0 l.digits) (max_value + 1);
}
