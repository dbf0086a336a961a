-- What contracts see of a pass, and what each call makes of it.
use Rattle.std.specs.Prelude.{◌≡◌, ◌≢◌, ◌==◌, ◌↔◌, ℕ, true, ◌+◌, ◌<◌, List, [], ◌∷◌, ◌++◌, Contains, min, take, if◌then◌else◌}
use Rattle.std.specs.List.{All}
use Rattle.atomic_table.specs.Seated.{TableId}
use Rattle.txn_types.specs.declared.txn.Outcome.{Outcome}
use Rattle.board_defs.specs.Closure.{Plan, is_own, can_run}
use Rattle.board_defs.specs.Trace.{Span}
use Rattle.board_core.specs.Counts.{times}
use Rattle.board_core.specs.declared.take.Take.{Take}
use Rattle.board_core.specs.declared.take.Take.TheVariants.{Taken, NotReady, Gone}

-- what a taken position came to
pub record Evaluation : Type 0 where
  pub position : ℕ
  pub outcome : Outcome

-- which value a pass came from, and the plan that the value was made of
pub record Home : Type 0 where
  pub id : TableId
  pub plan : Plan

pub record PassState : Type 0 where
  pub home : Home
  pub number : ℕ
  -- the numbers that it has taken in
  pub numbers : List ℕ
  -- its count of passes
  pub passes : ℕ
  -- its count of loads, and the last one as position and need
  pub loads : ℕ
  pub last : ℕ × ℕ
  pub duties : List ℕ
  -- its marks
  pub tried : List ℕ
  -- what it holds unfinished
  pub held : List ℕ
  pub spans : List Span

-- the pass came from this value
abbrev pub IsOf : Home → PassState → Type 0
IsOf h v = v.home ≡ h

-- it holds nothing unfinished
abbrev pub IsFree : PassState → Type 0
IsFree v = v.held ≡ []

-- it holds t unfinished
abbrev pub IsHolding : PassState → ℕ → Type 0
IsHolding v t = 0 < times t v.held

-- the pass has taken in the number of each pass that was made
abbrev pub IsComplete : PassState → Type 0
IsComplete v = (k : ℕ) → k < v.passes → 0 < times k v.numbers

-- no duty is untried
abbrev pub HasTried : PassState → Type 0
HasTried v = (t : ℕ) → 0 < times t v.duties → 0 < times t v.tried

-- WHAT EACH CALL MAKES OF A PASS

-- a pass that has taken in its own number alone
abbrev pub fresh_state : Home → ℕ → ℕ → List ℕ → PassState
fresh_state h k passes duties = record { home = h; number = k; numbers = k ∷ []; passes = passes; loads = 0; last = (0, 0); duties = duties; tried = []; held = []; spans = [] }

-- the duties are the own positions all of whose predecessors are known
abbrev pub AreReady : Plan → List ℕ → Type 0
AreReady plan duties = (t : ℕ) → 0 < times t duties ↔ can_run plan t (take t plan.known) ≡ true

-- pass number 0, the count of passes 1, and what is ready as duties
pub record IsFirst (h : Home) (v : PassState) : Type 0 where
  pub fresh : v ≡ fresh_state h 0 1 v.duties
  pub ready : AreReady h.plan v.duties

-- the pass of a split makes no pass
abbrev pub new_state : Home → ℕ → PassState
new_state h k = fresh_state h k 16 []

abbrev pub split_state : PassState → PassState
split_state v = record v { passes = v.passes + 1 }

abbrev pub loaded_state : ℕ → ℕ → PassState → PassState
loaded_state t need v = record v { loads = v.loads + 1; last = (t, need) }

-- what a take of t answers, and makes of the pass: what it hands out is t; it loads the need of t once; a need that isn't 0 is never that of a duty
abbrev pub Took : {T : Type 0} → (T → ℕ) → Take T → ℕ → PassState → PassState → Type 0
Took position (Taken x) t v w = (position x ≡ t) × (w ≡ record (loaded_state t 0 v) { tried = t ∷ v.tried; held = t ∷ v.held })
Took position Gone t v w = w ≡ record (loaded_state t 0 v) { tried = t ∷ v.tried }
Took position (NotReady need) t v w = (need ≢ 0) × (times t v.duties ≡ 0) × (w ≡ loaded_state t need v)

abbrev pub without : ℕ → List ℕ → List ℕ
without t [] = []
without t (x ∷ xs) = if x == t then without t xs else x ∷ without t xs

-- a finish takes t, and nothing else, from what is held, and adds its span; what it made are new duties, which are own positions
pub record Ended (t : ℕ) (v w : PassState) (made : List ℕ) : Type 0 where
  pub begin : ℕ
  pub finish : ℕ
  pub same : w ≡ record v { duties = w.duties; held = without t v.held; spans = record { position = t; worker = v.number; begin = begin; finish = finish } ∷ v.spans }
  pub duties : (y : ℕ) → times y w.duties ≡ times y made + times y v.duties
  pub made_own : (y : ℕ) → 0 < times y made → is_own v.home.plan y ≡ true

-- the least own position that is a duty and wasn't tried
pub record IsLeastUntried (v : PassState) (t : ℕ) : Type 0 where
  pub own : is_own v.home.plan t ≡ true
  pub duty : 0 < times t v.duties
  pub untried : times t v.tried ≡ 0
  pub least : (u : ℕ) → u < t → 0 < times u v.duties → 0 < times u v.tried

abbrev pub joined_state : PassState → PassState → PassState
joined_state v u = record v { numbers = v.numbers ++ u.numbers; passes = min v.passes u.passes; duties = v.duties ++ u.duties; tried = v.tried ++ u.tried; held = v.held ++ u.held; spans = v.spans ++ u.spans }

-- the trace has the spans of the pass, each by a worker whose number the pass has taken in
pub record IsTraceOf (v : PassState) (spans : List Span) : Type 0 where
  pub same : (s : Span) → Contains spans s ↔ Contains v.spans s
  pub workers : All (λ s. 0 < times s.worker v.numbers) spans
