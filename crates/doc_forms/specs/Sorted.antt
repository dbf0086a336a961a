-- Names in byte order, and the gaps between them.
use Rattle.std.specs.Prelude.{◌≡◌, ℕ, suc, ◌<◌, ◌≤◌, List, [], ◌∷◌, length, if◌then◌else◌, slice_index_or}
use Rattle.std.specs.Ordering.{nat_cmp, is_lt}
use Rattle.std.specs.declared.cmp.Ordering.{Ordering}
use Rattle.std.specs.declared.cmp.Ordering.TheVariants.{Less, Greater}
use Rattle.std.specs.Cmp.Lexicographic.{slice_cmp}

abbrev pub order : List ℕ → List ℕ → Ordering
order a b = slice_cmp nat_cmp a b

-- each name is below those after it
abbrev pub IsInOrder : List (List ℕ) → Type 0
IsInOrder names = (i j : ℕ) → i < j → j < length names → order (slice_index_or names i []) (slice_index_or names j []) ≡ Less

-- the count of names below the text that are before the first one that isn't
unfoldable pub gap_of : List (List ℕ) → List ℕ → ℕ
gap_of [] text = 0
gap_of (name ∷ names) text = if is_lt (order name text) then suc (gap_of names text) else 0

-- the text would go at this position: smaller names before it, and greater names from it on
pub record IsGap (names : List (List ℕ)) (t : List ℕ) (i : ℕ) : Type 0 where
  pub in_range : i ≤ length names
  pub smaller : (j : ℕ) → j < i → order (slice_index_or names j []) t ≡ Less
  pub greater : (j : ℕ) → i ≤ j → j < length names → order (slice_index_or names j []) t ≡ Greater
