-- What is known of a position can be known.
use Rattle.std.specs.Prelude.{◌≡◌, ℕ, true, false, get_or, take, Some, None}
use Rattle.txn_types.specs.Fitting.{Fits}
use Rattle.txn_types.specs.declared.txn.Outcome.{Outcome}
use Rattle.known_defs.specs.Known.{txn_at, knows_all}
use Rattle.board_work.specs.declared.plan.Plan.{Plan}

-- a position with this outcome isn't to be run, the outcome fits, and what it depends on is known
pub record IsKnownWell (p : Plan) (t : ℕ) (o : Outcome) : Type 0 where
  pub foreign : get_or p.own.now t false ≡ false
  pub fits : Fits (txn_at p.block.now.txns t) o
  pub closed : knows_all p.graph.now.kind (txn_at p.block.now.txns t) p.block.now.txns (take t p.known.now) ≡ true

-- a position isn't known, or can be
abbrev pub CanStand : Plan → ℕ → Type 0
CanStand p t = (o : Outcome) → get_or p.known.now t None ≡ Some o → IsKnownWell p t o
