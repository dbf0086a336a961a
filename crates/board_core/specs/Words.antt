-- The words of a board: those of a position are at odd positions, those of a record at even ones.
use Rattle.std.specs.Prelude.{ℕ, ◌+◌, ◌*◌, List, slice_index}

-- the clock: how many stamps were drawn
abbrev pub clock : List ℕ → ℕ
clock ws = slice_index ws 0

-- where the words of a position are: its need, its turn, its outcome word and its result words
abbrev pub need_at : ℕ → ℕ
need_at t = 38 * t + 1

abbrev pub turn_at : ℕ → ℕ
turn_at t = 38 * t + 3

abbrev pub part_at : ℕ → ℕ → ℕ
part_at t k = 38 * t + 5 + 2 * k

-- where the value word of a record is
abbrev pub value_place : ℕ → ℕ
value_place r = 2 * r + 2

-- how many of the positions that t waits for are not yet finished and counted
abbrev pub need : List ℕ → ℕ → ℕ
need ws t = slice_index ws (need_at t)

-- 1 where t is taken, else 0
abbrev pub turn : List ℕ → ℕ → ℕ
turn ws t = slice_index ws (turn_at t)

-- the outcome word of t, and after it a result word for each record that it writes; 0 where it isn't published
abbrev pub part : List ℕ → ℕ → ℕ → ℕ
part ws t k = slice_index ws (part_at t k)

-- the value of the record after the writers so far
abbrev pub value : List ℕ → ℕ → ℕ
value ws r = slice_index ws (value_place r)
