-- What each turn of the loops of `numbered_names` keeps.
use Rattle.std.proofs.Common.{◌≡◌, [], ◌∷◌, map}
use Rattle.std.specs.List.{range_with_len}
use Rattle.soak_input.specs.Generator.{numbered}
use Rattle.soak_input.proofs.names.numbered_names.Given as goal

abbrev pub invariant-loop-i : goal.invariant-loop-i
invariant-loop-i l = l.names ≡ map (numbered (l.letter ∷ [])) (range_with_len 1 l.i)
