-- The laws of lawful traces.
use Rattle.std.specs.Prelude.{◌≡◌, ◌<◌, ℕ, true, false, List, [], ◌∷◌, ◌++◌, length, map, get_or, set, take, Contains, Option, Some, None}
use Rattle.std.specs.List.{All, AllPairs, concat}
use Rattle.std.specs.List.Sorted.{IsStrictlyIncreasing}
use Rattle.txn_types.specs.declared.txn.Kind.{Kind}
use Rattle.txn_types.specs.declared.txn.Txn.{Txn}
use Rattle.txn_types.specs.declared.txn.Outcome.{Outcome}
use Rattle.oxii_defs.specs.Dependency.{depends}
use Rattle.known_defs.specs.Known.{txn_at, knows_all}
use Rattle.board_defs.specs.Closure.{Plan, known_at, closure, ran_positions, run_outcomes, IsClosed, IsKnownClosed, IsLawfulPlan}
use Rattle.board_defs.specs.Trace.{Span, IsLawfulTrace}
use Rattle.board_defs.specs.Rounds.{joined_rounds, plain_spans}

-- one round: the positions that ran, and their spans
pub record Round : Type 0 where
  pub positions : List ℕ
  pub spans : List Span

-- a later round: its positions are others, and none of them is one that an earlier round's depends on
pub record IsLater (kind : Kind) (txns : List Txn) (earlier later : Round) : Type 0 where
  pub apart : (t : ℕ) → Contains earlier.positions t → Contains later.positions t → ⊥
  pub not_needed : (t u : ℕ) → Contains earlier.positions t → Contains later.positions u → u < t →
      depends kind (txn_at txns u) (txn_at txns t) ≡ false

-- all of these positions together, in rising order
pub record IsRisingUnion (parts : List (List ℕ)) (whole : List ℕ) : Type 0 where
  pub rising : IsStrictlyIncreasing whole
  pub all_in : (t : ℕ) → Contains (concat parts) t → Contains whole t
  pub no_more : (t : ℕ) → Contains whole t → Contains (concat parts) t

-- rounds with lawful traces, each later than those before it, are joined to a lawful trace of all their positions
abbrev pub JoinedRoundsAreLawful : Type 0
JoinedRoundsAreLawful = (kind : Kind) (txns : List Txn) (workers : ℕ) (rounds : List Round) (positions : List ℕ) →
    All (λ r. IsLawfulTrace kind txns workers r.positions r.spans) rounds → AllPairs (IsLater kind txns) rounds →
    IsRisingUnion (map (λ r. r.positions) rounds) positions →
    IsLawfulTrace kind txns workers positions (joined_rounds (map (λ r. r.spans) rounds))

-- where there is a worker, the spans of one that runs rising positions one after another are a lawful trace
abbrev pub PlainSpansAreLawful : Type 0
PlainSpansAreLawful = (kind : Kind) (txns : List Txn) (workers : ℕ) (positions : List ℕ) → 0 < workers → IsStrictlyIncreasing positions →
    IsLawfulTrace kind txns workers positions (plain_spans 0 positions)

-- RUNS OF PLANS

-- a later plan of the same block: what the earlier one comes to is known there
pub record IsNextPlan (earlier later : Plan) : Type 0 where
  pub txns : later.txns ≡ earlier.txns
  pub known : (t : ℕ) (o : Outcome) → get_or (closure earlier) t None ≡ Some o → known_at later t ≡ Some o

-- its round is a later one
abbrev pub NextRounds : Type 0
NextRounds = (earlier later : Plan) (xs ys : List Span) → IsNextPlan earlier later →
    IsLater earlier.table.kind earlier.txns (record { positions = ran_positions earlier; spans = xs }) (record { positions = ran_positions later; spans = ys })

-- One more round: all that ran before is known to a lawful plan, and its run has a lawful trace. Joined to the trace so far it is lawful.
abbrev pub OneMoreRound : Type 0
OneMoreRound = (plan : Plan) (workers : ℕ) (before all : List ℕ) (spans round : List Span) → IsLawfulPlan plan →
    ((t : ℕ) → Contains before t → (o : Outcome) × (known_at plan t ≡ Some o)) →
    IsLawfulTrace plan.table.kind plan.txns workers before spans →
    IsLawfulTrace plan.table.kind plan.txns workers (ran_positions plan) round →
    IsRisingUnion (before ∷ ran_positions plan ∷ []) all →
    IsLawfulTrace plan.table.kind plan.txns workers all (joined_rounds (spans ∷ round ∷ []))

-- where there is a worker, the outcomes of a plan and the spans of worker 0 close it
abbrev pub PlainCloses : Type 0
PlainCloses = (plan : Plan) (workers : ℕ) → 0 < workers → IsClosed plan workers (run_outcomes plan) (plain_spans 0 (ran_positions plan))

-- what a run leaves known is closed again, with what was known
pub record StaysKnown (plan : Plan) : Type 0 where
  pub is_whole : length (closure plan) ≡ length plan.txns
  pub kept : (t : ℕ) (o : Outcome) → known_at plan t ≡ Some o → get_or (closure plan) t None ≡ Some o
  pub is_closed : IsKnownClosed plan.table.kind plan.txns (closure plan)

abbrev pub ClosureIsClosed : Type 0
ClosureIsClosed = (plan : Plan) → length plan.known ≡ length plan.txns → IsKnownClosed plan.table.kind plan.txns plan.known → StaysKnown plan

-- so is what is known with one outcome more, whose predecessors are known
abbrev pub OneMoreKnown : Type 0
OneMoreKnown = (kind : Kind) (txns : List Txn) (known : List (Option Outcome)) (t : ℕ) (o : Outcome) → IsKnownClosed kind txns known → t < length known →
    knows_all kind (txn_at txns t) txns (take t known) ≡ true → IsKnownClosed kind txns (set known t (Some o))

-- rounds may be joined one by one
abbrev pub JoinedOneByOne : Type 0
JoinedOneByOne = (kind : Kind) (txns : List Txn) (workers : ℕ) (rounds : List Round) (last : Round) →
    All (λ r. IsLawfulTrace kind txns workers r.positions r.spans) (rounds ++ last ∷ []) → AllPairs (IsLater kind txns) (rounds ++ last ∷ []) →
    joined_rounds (map (λ r. r.spans) (rounds ++ last ∷ [])) ≡ joined_rounds (joined_rounds (map (λ r. r.spans) rounds) ∷ last.spans ∷ [])
