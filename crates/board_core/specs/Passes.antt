-- What a pass keeps between two calls, and what the calls make of it.
use Rattle.std.specs.Prelude.{◌≡◌, ℕ, Bool, true, false, ◌+◌, ◌<◌, ◌≤◌, ◌≢◌, List, length, slice_index, slice_index_or, Option, Some, is_some}
use Rattle.board_core.specs.declared.view.View.{View}
use Rattle.board_core.specs.declared.take.Take.{Take}
use Rattle.board_core.specs.declared.take.Take.TheVariants.{Taken, NotReady, Gone}
use Rattle.board_core.specs.Counts.{times, times_pair, times_first, Run, IsAmong, times_run}
use Rattle.board_core.specs.Rule.{IsLive}
use Rattle.board_core.specs.Script.{Script, IsOwn, Runs}
use Rattle.board_core.specs.Steps.{loaded, swapped, begun, finished}

-- the flag of t is set exactly where t is in the list
abbrev pub AreFlags : List ℕ → List Bool → Type 0
AreFlags xs flags = (t : ℕ) → t < length flags → (slice_index_or flags t false ≡ true → 0 < times t xs) × (0 < times t xs → slice_index_or flags t false ≡ true)

-- the fields of a pass, with a position for each position, fit what its seat knows: flags of its duties and of what it tried, begin stamps with 1 added and 0 for none, and runs
pub record Fits (v : View) (duty tried : List Bool) (begins : List ℕ) (run_at : ℕ → Option Run) : Type 0 where
  pub live : IsLive v
  pub as_long : (length tried ≡ length duty) × (length begins ≡ length duty)
  pub duties : AreFlags v.duties duty
  pub marks : AreFlags v.tried tried
  pub begun : (t x : ℕ) → slice_index begins t ≡ x + 1 → 0 < times_pair t x v.begins
  pub has_begun : (t : ℕ) → 0 < times_first t v.begins → 0 < slice_index begins t
  pub run : (t : ℕ) (r : Run) → run_at t ≡ Some r → (r.0 ≡ t) × IsAmong r v.spans
  pub has_run : (t : ℕ) → 0 < times_run t v.spans → is_some (run_at t) ≡ true

-- the runs of a pass are of what it finished, with its stamps, by passes that it has taken in
pub record AreRuns (v : View) : Type 0 where
  pub numbered : (r : Run) → IsAmong r v.spans → 0 < times r.1 v.numbers
  pub begun : (r : Run) → IsAmong r v.spans → 0 < times_pair r.0 r.2 v.begins
  pub finished : (r : Run) → IsAmong r v.spans → 0 < times_pair r.0 r.3 v.finishes
  pub each : (t : ℕ) → times_run t v.spans ≡ times_first t v.finishes

-- PassSettled: between two calls all edges of what is finished are counted, and what is taken has begun. What isn't finished has published
-- and written nothing, what has begun runs, and each duty is an own position.
pub record IsSettled (p : Script) (v : View) : Type 0 where
  pub counted : (s t : ℕ) → 0 < times_first s v.finishes → p.edge s t ≤ times_pair s t v.counted
  pub taken_begun : (t : ℕ) → 0 < times t v.taken → 0 < times_first t v.begins
  pub unpublished : (t : ℕ) → times_first t v.finishes ≡ 0 → times_first t v.published ≡ 0
  pub unwritten : (t : ℕ) → times_first t v.finishes ≡ 0 → times_first t v.written ≡ 0
  pub runs : (t : ℕ) → 0 < times_first t v.begins → Runs p t
  pub duties_own : (t : ℕ) → 0 < times t v.duties → IsOwn p t
  pub spans : AreRuns v

-- the pass holds t: it has begun it, and not finished it
pub record IsHeld (v : View) (t : ℕ) : Type 0 where
  pub begun : 0 < times_first t v.begins
  pub unfinished : times_first t v.finishes ≡ 0

-- what a take of t makes of the pass; what it hands out is t
abbrev pub Takes : {T : Type 0} → (T → ℕ) → Take T → ℕ → View → View → Type 0
Takes position (Taken x) t v w = (position x ≡ t) × (b : ℕ) × (times_first t v.begins ≡ 0) × (times_first t v.finishes ≡ 0) × (w ≡ begun t b (swapped t 0 (loaded t 0 v)))
Takes position (NotReady n) t v w = (n ≢ 0) × (times t v.duties ≡ 0) × (w ≡ loaded t n v)
Takes position Gone t v w = (turn : ℕ) × (turn ≢ 0) × (w ≡ swapped t turn (loaded t 0 v))

-- what a finish of t makes of the pass: its finish stamp and its run, and the duties that it made
pub record Ends (t : ℕ) (v w : View) (made : List ℕ) : Type 0 where
  pub begin : ℕ
  pub stamp : ℕ
  pub same : w ≡ record (finished t begin stamp v) { duties = w.duties; counted = w.counted; published = w.published; written = w.written }
  pub duties : (y : ℕ) → times y w.duties ≡ times y made + times y v.duties

-- the pass has taken in the numbers of all passes made
abbrev pub IsComplete : View → Type 0
IsComplete v = (k : ℕ) → k < v.passes → 0 < times k v.numbers

-- no duty is untried, what is taken has begun, and what has begun is finished
pub record IsDone (v : View) : Type 0 where
  pub tried : (t : ℕ) → 0 < times t v.duties → 0 < times t v.tried
  pub begun : (t : ℕ) → 0 < times t v.taken → 0 < times_first t v.begins
  pub finished : (t : ℕ) → 0 < times_first t v.begins → 0 < times_first t v.finishes
