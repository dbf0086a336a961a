-- What each turn of the loops of `all_own` keeps.
use Rattle.std.proofs.Common.{◌≡◌, replicate, true}
use Rattle.board_settings.proofs.settings.all_own.Given as goal

abbrev pub invariant-loop : goal.invariant-loop
invariant-loop l = l.own ≡ replicate l.counter true
