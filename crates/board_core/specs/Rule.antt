-- The rule of a board: what holds of the words and of what all passes know, between any two steps.
-- It is cut into themes, each over words and totals of its own, so that a step that leaves a theme alone keeps it as it is.
use Rattle.std.specs.Prelude.{◌≡◌, ℕ, true, ◌+◌, ◌*◌, ◌<◌, ◌≤◌, ◌⊎◌, List, [], length}
use mathlib.Core.Option.{some}
use lib.ListN.{get_elem?}
use Rattle.atomic_table.specs.Table.{State}
use Rattle.board_core.specs.declared.view.View.{View}
use Rattle.board_core.specs.Counts.{times, times_pair, times_first, total, below, once_below}
use Rattle.board_core.specs.Script.{Script, IsOwn, Gives, IsSound, IsAfter}
use Rattle.board_core.specs.Sums.{CounterSums, counters_of, StampSums, stamp_sums, NumberSums, number_sums, CellSums, cell_sums}
use Rattle.board_core.specs.Words.{clock, need, turn, part, value}

-- what a join leaves of the other pass
abbrev pub spent : View
spent = record { number = 0; numbers = []; passes = 16; loads = 0; last = (0, 0); ready = []; tried = []; taken = []; duties = []; begins = []; finishes = []; spans = []; counted = []; published = []; written = [] }

-- the pass has taken in its own number; the spent one has none
abbrev pub IsLive : View → Type 0
IsLive v = 0 < times v.number v.numbers

-- WHAT HOLDS OF ALL PASSES TOGETHER

pub record Counters (p : Script) (need turn : ℕ → ℕ) (m : CounterSums) : Type 0 where
  -- TakenOnce: no two passes hold the same position as taken, its turn says whether one does, and what was tried has turn 1
  pub taken_once : (t : ℕ) → IsOwn p t → (m.taken t ≡ turn t) × (turn t ≤ 1)
  pub tried_is_taken : (t : ℕ) → 0 < m.tried t → turn t ≡ 1
  -- NeedsBalance: the need and the counted edges make the planned need; no edge is counted twice, and a counted one is of the graph
  pub needs_balance : (t : ℕ) → IsOwn p t → need t + below (p.size) (λ s. m.counted s t) ≡ below (p.size) (λ s. p.edge s t)
  pub counted_once : (s t : ℕ) → m.counted s t ≤ p.edge s t
  -- ReadyHasNoNeed: what is noted ready, taken or a duty has need 0
  pub ready_has_no_need : (t : ℕ) → 0 < m.ready t + m.taken t + m.duties t → IsOwn p t × (need t ≡ 0)
  -- ReadyIsDuty: each own position with need 0 is a duty of some pass
  pub ready_is_duty : (t : ℕ) → IsOwn p t → need t ≡ 0 → 0 < m.duties t

pub record Stamps (size clock : ℕ) (counted : ℕ → ℕ → ℕ) (m : StampSums) : Type 0 where
  -- StampsInOrder: each number below the clock is a stamp, once, and no other is; the clock counts the stamps;
  -- where an edge is counted and its end has begun, its start had finished before
  pub stamps_once : (x : ℕ) → m.stamps x ≡ once_below clock x
  pub clock_counts : clock ≡ below size m.begun + below size m.finished
  pub stamps_in_order : (s t b f : ℕ) → 0 < counted s t → 0 < m.begins t b → 0 < m.finishes s f → f < b

pub record Numbers (m : NumberSums) : Type 0 where
  -- PassesNumbered: no number is taken in by two passes, and one pass at most makes passes
  pub numbers_once : (k : ℕ) → m.numbers k ≤ 1
  pub one_maker : m.makers ≤ 1

pub record Cells (p : Script) (part : ℕ → ℕ → ℕ) (value : ℕ → ℕ) (m : CellSums) : Type 0 where
  -- PublishedAsMeant: a word that is published is as meant, and any other is 0
  pub published_as_meant : (t k : ℕ) → IsOwn p t → k < p.parts t → ((m.published t k ≡ 0) × (part t k ≡ 0)) ⊎ ((0 < m.published t k) × (part t k ≡ p.meant t k))
  -- ValueOfWriters: the writers that have put their values are those before a cut, and the value word is that after them
  pub value_of_writers : (r : ℕ) → r < p.records → IsAfter p (value r) (λ t. p.early t r + m.written t r) r

-- Fixed: a word that is set at the start stays as it is meant
abbrev pub Fixed : Script → (ℕ → ℕ → ℕ) → Type 0
Fixed p part = (t k : ℕ) → p.fixed t k ≡ true → part t k ≡ p.meant t k

-- WHAT HOLDS OF ONE PASS ALONE
-- Each record names the lists that it is about, so that a step that leaves these alone keeps it as it is.

pub record StampsApart (taken : List ℕ) (counted begins finishes : List (ℕ × ℕ)) : Type 0 where
  -- StampsInOrder: only what is taken has a begin stamp, only what has one has a finish stamp, and a begin is below its finish
  pub begun_is_taken : (t : ℕ) → times_first t begins ≤ times t taken
  pub finished_is_begun : (t : ℕ) → times_first t finishes ≤ times_first t begins
  pub begin_below_finish : (t b f : ℕ) → 0 < times_pair t b begins → 0 < times_pair t f finishes → b < f
  -- NeedsBalance: the start of a counted edge is finished
  pub counted_is_finished : (s t : ℕ) → 0 < times_pair s t counted → 0 < times_first s finishes

pub record CellsApart (p : Script) (begins finishes published written : List (ℕ × ℕ)) : Type 0 where
  -- PublishedAsMeant: only what has begun has published or written; what has written has published all; what is finished has published and written all
  pub published_is_begun : (t : ℕ) → 0 < times_first t published → 0 < times_first t begins
  pub written_is_begun : (t : ℕ) → 0 < times_first t written → 0 < times_first t begins
  pub written_is_published : (t : ℕ) → 0 < times_first t written → (k : ℕ) → k < p.parts t → 0 < times_pair t k published
  pub finished_is_published : (t : ℕ) → 0 < times_first t finishes → (k : ℕ) → k < p.parts t → 0 < times_pair t k published
  pub finished_is_written : (t : ℕ) → 0 < times_first t finishes → (r : ℕ) → Gives p t r → 0 < times_pair t r written
  -- ValueOfWriters: what is written is what the outcome gives
  pub written_is_meant : (t r : ℕ) → 0 < times_pair t r written → Gives p t r

pub record Apart (p : Script) (v : View) : Type 0 where
  pub stamps : StampsApart v.taken v.counted v.begins v.finishes
  pub cells : CellsApart p v.begins v.finishes v.published v.written
  -- PassesNumbered: it has taken in its own number, or is the spent one, and no count of passes is above 16
  pub live_or_spent : IsLive v ⊎ (v ≡ spent)
  pub passes_capped : v.passes ≤ 16

-- THE RULE

pub record Holds (p : Script) (s : State ℕ View) : Type 0 where
  pub sized : (38 * p.size < length s.words) × (2 * p.records < length s.words) × (0 < length s.words)
  pub sound : IsSound p
  pub counters : Counters p (need s.words) (turn s.words) (counters_of s.views)
  pub stamps : Stamps (p.size) (clock s.words) (counters_of s.views).counted (stamp_sums s.views)
  pub numbers : Numbers (number_sums s.views)
  pub cells : Cells p (part s.words) (value s.words) (cell_sums s.views)
  pub fixed : Fixed p (part s.words)
  -- PassesNumbered: all numbers taken in are below each count of passes
  pub numbers_below : (i : ℕ) (v : View) → get_elem? s.views i ≡ some v → (k : ℕ) → 0 < total (λ u. times k u.numbers) s.views → k < v.passes
  pub each : (i : ℕ) (v : View) → get_elem? s.views i ≡ some v → Apart p v
