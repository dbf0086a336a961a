-- What the last pass knows of the runs: by position, they are a lawful trace.
use Rattle.std.specs.Prelude.{◌≡◌, ℕ, Bool, true, false, ◌+◌, ◌*◌, ◌<◌, Option, Some, None, is_some}
use Rattle.board_core.specs.declared.view.View.{View}
use Rattle.board_core.specs.Counts.{hit, times, below, once_below, Run, IsAmong}
use Rattle.board_core.specs.Script.{Script, Runs}

abbrev pub one_if : Bool → ℕ
one_if true = 1
one_if false = 0

-- how many positions run
abbrev pub count_of : Script → ℕ
count_of p = below p.size (λ t. one_if (p.runs t))

-- how often x is a stamp of the run
abbrev pub stamp_hits : ℕ → Option Run → ℕ
stamp_hits x None = 0
stamp_hits x (Some r) = hit x r.2 + hit x r.3

pub record IsTrace (p : Script) (v : View) (run_at : ℕ → Option Run) : Type 0 where
  -- what runs has a run at its position, and nothing else has
  pub ran : (t : ℕ) → Runs p t → is_some (run_at t) ≡ true
  pub rested : (t : ℕ) → (Runs p t → ⊥) → run_at t ≡ None
  -- the runs at the positions are those of the pass
  pub place : (t : ℕ) (r : Run) → run_at t ≡ Some r → (r.0 ≡ t) × IsAmong r v.spans
  pub known : (r : Run) → IsAmong r v.spans → run_at r.0 ≡ Some r
  -- each is by a pass that was taken in, and there are 16 at most
  pub by_pass : (t : ℕ) (r : Run) → run_at t ≡ Some r → (0 < times r.1 v.numbers) × (r.1 < 16)
  pub forward : (t : ℕ) (r : Run) → run_at t ≡ Some r → r.2 < r.3
  -- where t depends on s, the finish of s is below the begin of t
  pub ordered : (s t : ℕ) (a b : Run) → 0 < p.edge s t → run_at s ≡ Some a → run_at t ≡ Some b → a.3 < b.2
  -- the numbers below twice the count are stamps, each once, and no other is
  pub each_once : (x : ℕ) → below p.size (λ t. stamp_hits x (run_at t)) ≡ once_below (2 * count_of p) x
