-- Each kind of step: what it makes of the acting pass, and what it says.
use Rattle.std.specs.Prelude.{◌≡◌, ◌==◌, ℕ, zero, suc, ◌&&◌, ◌+◌, ◌<◌, ◌≤◌, List, [], ◌∷◌, ◌++◌, min}
use Rattle.atomic_table.specs.Table.{Me, Step}
use Rattle.board_core.specs.declared.view.View.{View}
use Rattle.board_core.specs.Counts.{times, times_pair, times_first, below, noted}
use Rattle.board_core.specs.Script.{Script, Runs}

-- how many positions t waits for
abbrev pub planned : Script → ℕ → ℕ
planned p t = below p.size (λ s. p.edge s t)

-- the own positions below a number that wait for none
abbrev pub ready_below : ℕ → Script → List ℕ
ready_below zero p = []
ready_below (suc m) p = noted (p.own m && (planned p m == 0)) m (ready_below m p)

-- a pass that has taken in its own number alone
abbrev pub fresh : ℕ → ℕ → List ℕ → View
fresh k passes duties = record { number = k; numbers = k ∷ []; passes = passes; loads = 0; last = (0, 0); ready = []; tried = []; taken = []; duties = duties; begins = []; finishes = []; spans = []; counted = []; published = []; written = [] }

-- pass 0 at the start: what waits for none is its duty
abbrev pub first_view : Script → View
first_view p = fresh 0 1 (ready_below p.size p)

-- THE PASS AFTER A STEP THAT FOUND `word`

abbrev pub loaded : ℕ → ℕ → View → View
loaded t word v = record v { loads = v.loads + 1; last = (t, word); ready = noted (word == 0) t v.ready }

abbrev pub swapped : ℕ → ℕ → View → View
swapped t word v = record v { tried = t ∷ v.tried; taken = noted (word == 0) t v.taken }

abbrev pub begun : ℕ → ℕ → View → View
begun t word v = record v { begins = (t, word) ∷ v.begins }

-- t had begun at `begin`
abbrev pub finished : ℕ → ℕ → ℕ → View → View
finished t begin word v = record v { finishes = (t, word) ∷ v.finishes; spans = (t, v.number, begin, word) ∷ v.spans }

abbrev pub counted_down : ℕ → ℕ → ℕ → View → View
counted_down s t word v = record v { counted = (s, t) ∷ v.counted; duties = noted (word == 1) t v.duties }

abbrev pub publishing : ℕ → ℕ → View → View
publishing t k v = record v { published = (t, k) ∷ v.published }

abbrev pub writing : ℕ → ℕ → View → View
writing t r v = record v { written = (t, r) ∷ v.written }

-- a split raises the count of passes, and the new pass has that count for its number
abbrev pub splitting : View → View
splitting v = record v { passes = v.passes + 1 }

-- the pass of a split, which makes no pass
abbrev pub newcomer : ℕ → View
newcomer k = fresh k 16 []

abbrev pub joined : View → View → View
joined v u = record v {
  numbers = v.numbers ++ u.numbers;
  passes = min v.passes u.passes;
  ready = v.ready ++ u.ready;
  tried = v.tried ++ u.tried;
  taken = v.taken ++ u.taken;
  duties = v.duties ++ u.duties;
  begins = v.begins ++ u.begins;
  finishes = v.finishes ++ u.finishes;
  spans = v.spans ++ u.spans;
  counted = v.counted ++ u.counted;
  published = v.published ++ u.published;
  written = v.written ++ u.written;
}

-- WHAT A STEP TELLS: THE NUMBER FOUND, AND THE PASS AFTER

abbrev pub Tells : (ℕ → View → View) → Step ℕ → Me ℕ View → ℕ → Me ℕ View → Type 0
Tells f st m found m' = m' ≡ (f found m.0, m.1)

-- a load of a need: that of a duty is 0
abbrev pub Loads : ℕ → Step ℕ → Me ℕ View → ℕ → Me ℕ View → Type 0
Loads t st m found m' = (m' ≡ (loaded t found m.0, m.1)) × (0 < times t m.0.duties → found ≡ 0)

-- a swap of a turn that finds 0: this pass has neither begun nor finished t
abbrev pub Swaps : ℕ → Step ℕ → Me ℕ View → ℕ → Me ℕ View → Type 0
Swaps t st m found m' = (m' ≡ (swapped t found m.0, m.1)) × (found ≡ 0 → (times_first t m.0.begins ≡ 0) × (times_first t m.0.finishes ≡ 0))

-- a begin: the stamp is small, and t runs
abbrev pub Begins : Script → ℕ → Step ℕ → Me ℕ View → ℕ → Me ℕ View → Type 0
Begins p t st m found m' = (m' ≡ (begun t found m.0, m.1)) × (found ≤ 512) × Runs p t

-- a finish: the stamp is small, and this pass has counted no edge from t
abbrev pub Finishes : ℕ → ℕ → Step ℕ → Me ℕ View → ℕ → Me ℕ View → Type 0
Finishes t begin st m found m' = (m' ≡ (finished t begin found m.0, m.1)) × (found ≤ 512) × ((u : ℕ) → times_pair t u m.0.counted ≡ 0)

-- a load of a value or of a part: it is x
abbrev pub LoadsValue : ℕ → Step ℕ → Me ℕ View → ℕ → Me ℕ View → Type 0
LoadsValue x st m found m' = (m' ≡ m) × (found ≡ x)

-- a swap that finds 0: what is set was not set before
abbrev pub Sets : (View → View) → Step ℕ → Me ℕ View → ℕ → Me ℕ View → Type 0
Sets f st m found m' = (m' ≡ (f m.0, m.1)) × (found ≡ 0)

-- a swap, whatever was found
abbrev pub Puts : (View → View) → Step ℕ → Me ℕ View → ℕ → Me ℕ View → Type 0
Puts f st m found m' = m' ≡ (f m.0, m.1)
