-- The values of records, and the greatest numbers that more than one crate names.
use Rattle.std.specs.Prelude.{ℕ, ◌≤◌, List}
use Rattle.std.specs.List.{All}

-- 2 ^ 62 - 1
abbrev pub max_value : ℕ
max_value = 4611686018427387903

abbrev pub IsValue : ℕ → Type 0
IsValue x = x ≤ max_value

abbrev pub AreValues : List ℕ → Type 0
AreValues = All IsValue

-- the largest number of a block: 4,096 transactions and 256 configurations, each alone, and one after
abbrev pub max_number : ℕ
max_number = 4353

-- the most messages that faulty nodes say
abbrev pub max_false : ℕ
max_false = 1024

-- the largest product of repeat counts that are inside one another
abbrev pub max_turns : ℕ
max_turns = 1024
