-- What each turn of the loops of `shrink` keeps.
use Rattle.std.proofs.Common.{◌≡◌, ◌≤◌, length, take}
use Rattle.contract_text.proofs.statements.shrink.Given as goal

-- the front stays
abbrev pub invariant-loop-names : goal.invariant-loop-names
invariant-loop-names l = record {
  enough : l.count ≤ length l.names;
  front : take l.count l.names ≡ take l.count l.initial.names;
}

abbrev pub decreases-loop-names : goal.decreases-loop-names
decreases-loop-names l = length l.names
