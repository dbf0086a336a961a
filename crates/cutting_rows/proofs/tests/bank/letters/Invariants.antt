-- What each turn of the loops of `letters` keeps.
use Rattle.std.proofs.Common.{◌≡◌, [], ◌∷◌, map}
use Rattle.std.specs.List.{range_with_len}
use Rattle.cutting_rows.proofs.tests.bank.letters.Given as goal

abbrev pub invariant-loop-i : goal.invariant-loop-i
invariant-loop-i l = l.names ≡ map (λ k. k ∷ []) (range_with_len 97 l.i)
