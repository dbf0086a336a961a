-- The conflict order law: a run along the dependencies has the outcomes of the serial run.
use Rattle.std.specs.Prelude.{ℕ, ◌≡◌, ◌<◌, length, get_or, Some, None, slice_get}
use Rattle.txn_types.specs.declared.txn.Outcome.{Outcome}
use Rattle.oxii_defs.specs.SerialPart.{serial_outcomes}
use Rattle.board_defs.specs.Closure.{Plan, known_at, closure}

-- position t of the block has the outcome o in the serial run on the whole block
abbrev pub IsSerial : Plan → ℕ → Outcome → Type 0
IsSerial plan t o = slice_get (serial_outcomes plan.table plan.base plan.txns) t ≡ Some o

-- what is known is right
abbrev pub KnowsRightly : Plan → Type 0
KnowsRightly plan = (t : ℕ) (o : Outcome) → t < length plan.txns → known_at plan t ≡ Some o → IsSerial plan t o

-- then so is each outcome of the closure, for both kinds of graph
abbrev pub ConflictOrder : Type 0
ConflictOrder = (plan : Plan) → KnowsRightly plan → (t : ℕ) (o : Outcome) → get_or (closure plan) t None ≡ Some o → IsSerial plan t o
