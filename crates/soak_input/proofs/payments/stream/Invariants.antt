-- What each turn of the loops of `stream` keeps.
use Rattle.std.proofs.Common.{◌≡◌, ◌-◌, ◌++◌}
use Rattle.soak_input.specs.Generator.{stream_behind}
use Rattle.soak_input.proofs.payments.stream.Given as goal

-- what is there and the payments to come are all
abbrev pub invariant-loop : goal.invariant-loop
invariant-loop l = stream_behind l.seed l.txns ≡ l.items ++ stream_behind l.draws (l.txns - l.counter)
