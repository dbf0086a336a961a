-- What each turn of the loops of `fold` keeps.
use Rattle.std.proofs.Common.{◌≡◌, vec_len}
use Rattle.contract_grammar.specs.Held.{tree}
use Rattle.contract_grammar.specs.Expressions.{folded}
use Rattle.contract_reader.specs.Views.{stack}
use Rattle.contract_reader.proofs.expression.fold.Given as goal

-- what is open takes the operand as it takes the first one
abbrev pub invariant-loop-last : goal.invariant-loop-last
invariant-loop-last l = folded l.least (tree l.operand) (stack l.pending.items) ≡ folded l.least (tree l.fn.operand) (stack l.fn.pending.items)

abbrev pub decreases-loop-last : goal.decreases-loop-last
decreases-loop-last l = vec_len l.pending
