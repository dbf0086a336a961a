-- The rule of a deque of hints.
use Rattle.std.specs.Prelude.{◌≡◌, ℕ, Bool, true, false, List, Contains, get_or}
use mathlib.Core.Option.{some}
use lib.ListN.{get_elem?}
use Rattle.steal_pool.specs.declared.hints.HintView.{HintView}

-- the view that carries these flags
abbrev pub view_of : List Bool → HintView
view_of own = record { own = own }

-- t is to be run
abbrev pub IsOwn : List Bool → ℕ → Type 0
IsOwn own t = get_or own t false ≡ true

-- all of them are to be run
abbrev pub AllOwn : List Bool → List ℕ → Type 0
AllOwn own xs = (x : ℕ) → Contains xs x → IsOwn own x

-- each hint is a position to be run, and all views carry the same flags
abbrev pub AreHints : List Bool → List ℕ → List HintView → Type 0
AreHints own hints views = AllOwn own hints × ((port : ℕ) (v : HintView) → get_elem? views port ≡ some v → v.own ≡ own)
