-- The state of a list of values.
use Rattle.std.specs.Prelude.{ℕ, suc, List, [], ◌∷◌}
use Rattle.std.specs.FinMap as map
use Rattle.oxii_defs.specs.State.{State, put}

-- the state with these values of the records from r on
abbrev pub state_from : ℕ → List ℕ → State
state_from r [] = map.empty
state_from r (v ∷ rest) = put (state_from (suc r) rest) r v

-- the state in which each record has the value at its number, and those past the end 0
abbrev pub state_of : List ℕ → State
state_of values = state_from 0 values
