-- What the rule says of the versions of a plan.
use Rattle.std.specs.Prelude.{◌≡◌, ℕ, true, ◌+◌, ◌<◌, ◌⊎◌, length, is_some}
use mathlib.Core.Option.{some}
use lib.ListN.{get_elem?}
use Rattle.atomic_table.specs.Table.{State}
use Rattle.oxii_defs.specs.State.{contains}
use Rattle.board_defs.specs.Closure.{Plan, is_own, known_at}
use Rattle.board_core.specs.declared.view.View.{View}
use Rattle.board_core.specs.Counts.{total, times, times_pair, times_first}
use Rattle.board_core.specs.Words.{part}
use Rattle.board_work.specs.Scripts.{reads_at, writes_at, outcome_at, word_of}

-- some pass has finished t
abbrev pub IsFinished : State ℕ View → ℕ → Type 0
IsFinished s t = 0 < total (λ u. times_first t u.finishes) s.views

-- some pass has taken t
abbrev pub IsTaken : State ℕ View → ℕ → Type 0
IsTaken s t = 0 < total (λ u. times t u.taken) s.views

pub record KeepsVersions (plan : Plan) (s : State ℕ View) : Type 0 where
  -- a published outcome word has the closure's value, and one that isn't published is 0
  pub outcome : (t : ℕ) → is_own plan t ≡ true → ((total (λ u. times_pair t 0 u.published) s.views ≡ 0) × (part s.words t 0 ≡ 0)) ⊎ ((0 < total (λ u. times_pair t 0 u.published) s.views) × (part s.words t 0 ≡ word_of (outcome_at plan t) 0))
  -- a version word of an own position is 0, or says the closure's value or "not written"
  pub version : (t j : ℕ) → is_own plan t ≡ true → j < length (writes_at plan t) → (part s.words t (j + 1) ≡ 0) ⊎ (part s.words t (j + 1) ≡ word_of (outcome_at plan t) (j + 1))
  -- a finished position has its outcome published and all its version words set
  pub finished : (t k : ℕ) → IsFinished s t → k < 1 + length (writes_at plan t) → part s.words t k ≡ word_of (outcome_at plan t) k
  -- only a taken position has published words, in the view that holds it as taken
  pub taken_alone : (i : ℕ) (v : View) → get_elem? s.views i ≡ some v → (t : ℕ) → 0 < times_first t v.published → 0 < times t v.taken
  -- the version words of a known writer say the values of its known outcome or "not written"
  pub known : (t j : ℕ) → is_some (known_at plan t) ≡ true → j < length (writes_at plan t) → part s.words t (j + 1) ≡ word_of (known_at plan t) (j + 1)
  -- each earlier writer of what a taken position reads is known or finished
  pub earlier_done : (s' t r : ℕ) → IsTaken s t → s' < t → contains (writes_at plan s') r ≡ true → contains (reads_at plan t) r ≡ true → (is_some (known_at plan s') ≡ true) ⊎ IsFinished s s'
