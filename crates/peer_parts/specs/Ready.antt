-- What is ready to be run, and the plan of a round.
use Rattle.std.specs.Prelude.{ℕ, zero, suc, ◌≡◌, ◌<◌, Bool, false, not, ◌&&◌, if◌then◌else◌, List, [], ◌∷◌, ◌++◌, length, get_or, take, Option, None, is_some}
use Rattle.txn_types.specs.declared.txn.Outcome.{Outcome}
use Rattle.known_defs.specs.Known.{txn_at, knows_all}
use Rattle.board_defs.specs.Closure.{Plan, is_own}
use Rattle.peer_parts.specs.Holding.{has_just}

-- position t is this peer's, it isn't known, and all that it depends on is
abbrev pub is_ready : Plan → List (Option Outcome) → ℕ → Bool
is_ready plan known t = (is_own plan t && not (is_some (get_or known t None))) && knows_all plan.table.kind (txn_at plan.txns t) plan.txns (take t known)

-- none of the first n positions is ready
abbrev pub NoneReady : Plan → List (Option Outcome) → ℕ → Type 0
NoneReady plan known n = (t : ℕ) → t < n → is_ready plan known t ≡ false

-- for each of the first n positions whether it is this peer's and isn't known
abbrev pub left_upto : List Bool → List (Option Outcome) → ℕ → List Bool
left_upto own known zero = []
left_upto own known (suc t) = left_upto own known t ++ (get_or own t false && not (is_some (get_or known t None))) ∷ []

-- for each position of a block
abbrev pub left_of : List Bool → List (Option Outcome) → List Bool
left_of own known = left_upto own known (length own)

-- the plan of a round: this is known, and this peer's other positions are to be run
abbrev pub round_plan : Plan → List (Option Outcome) → Plan
round_plan frame known = record { table = frame.table; txns = frame.txns; base = frame.base; known = known; own = left_of frame.own known }

-- of the first n positions those of this peer that are known after and not before, in order
abbrev pub ran_between : List Bool → List (Option Outcome) → List (Option Outcome) → ℕ → List ℕ
ran_between own before after zero = []
ran_between own before after (suc t) = if has_just own before after t then ran_between own before after t ++ t ∷ [] else ran_between own before after t
