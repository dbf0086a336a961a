-- What a name is.
use Rattle.std.specs.Prelude.{ℕ, ◌≡◌, ◌≤◌, ◌⊎◌, List, [], ◌∷◌, length}
use Rattle.std.specs.List.{All}

-- a to z
abbrev pub IsLower : ℕ → Type 0
IsLower byte = (97 ≤ byte) × (byte ≤ 122)

-- 0 to 9
abbrev pub IsDigit : ℕ → Type 0
IsDigit byte = (48 ≤ byte) × (byte ≤ 57)

-- a lower-case letter, a digit or `_`
abbrev pub IsNameByte : ℕ → Type 0
IsNameByte byte = IsLower byte ⊎ (IsDigit byte ⊎ (byte ≡ 95))

-- the first byte is a lower-case letter
abbrev pub BeginsLower : List ℕ → Type 0
BeginsLower [] = ⊥
BeginsLower (first ∷ rest) = IsLower first

-- at most 32 bytes, of which the first is a letter
abbrev pub IsName : List ℕ → Type 0
IsName bytes = (length bytes ≤ 32) × BeginsLower bytes × All IsNameByte bytes
