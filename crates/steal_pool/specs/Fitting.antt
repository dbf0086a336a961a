-- What fits a block.
use Rattle.std.specs.Prelude.{ℕ, ◌≡◌, get_or, List, Option, Some, None}
use Rattle.txn_types.specs.Fitting.{Fits}
use Rattle.txn_types.specs.declared.txn.Outcome.{Outcome}
use Rattle.txn_types.specs.declared.txn.Txn.{Txn}
use Rattle.known_defs.specs.Known.{txn_at}

-- each outcome fits its transaction
abbrev pub AllFitAt : List Txn → List (Option Outcome) → Type 0
AllFitAt txns outcomes = (t : ℕ) (o : Outcome) → get_or outcomes t None ≡ Some o → Fits (txn_at txns t) o
