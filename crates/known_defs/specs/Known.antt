-- The known positions of a block: for each position in block order its outcome, where that is known.
use Rattle.std.specs.Prelude.{Bool, true, ◌&&◌, ◌||◌, not, List, [], ◌∷◌, Option, Some, None, is_some, ℕ, get_or}
use Rattle.txn_types.specs.declared.txn.Kind.{Kind}
use Rattle.txn_types.specs.declared.txn.Reason.TheVariants.{Require}
use Rattle.txn_types.specs.declared.txn.Outcome.{Outcome}
use Rattle.txn_types.specs.declared.txn.Outcome.TheVariants.{Abort}
use Rattle.txn_types.specs.declared.txn.Txn.{Txn}
use Rattle.oxii_defs.specs.State.{State}
use Rattle.oxii_defs.specs.Effects.{apply}
use Rattle.oxii_defs.specs.Dependency.{depends}

-- what is where there is no outcome
abbrev pub no_outcome : Outcome
no_outcome = Abort Require

-- what is where there is no transaction
abbrev pub no_txn : Txn
no_txn = record { app = 0; op = 0; args = []; reads = []; writes = [] }

-- the transaction at a position
abbrev pub txn_at : List Txn → ℕ → Txn
txn_at txns t = get_or txns t no_txn

-- s with the outcomes of the known positions, in block order
abbrev pub after_known : State → List Txn → List (Option Outcome) → State
after_known s [] known = s
after_known s (t ∷ rest) [] = s
after_known s (t ∷ rest) (None ∷ known) = after_known s rest known
after_known s (t ∷ rest) (Some o ∷ known) = after_known (apply s t o) rest known

-- each of these earlier transactions that t depends on is known
abbrev pub knows_all : Kind → Txn → List Txn → List (Option Outcome) → Bool
knows_all kind t [] known = true
knows_all kind t (a ∷ earlier) [] = true
knows_all kind t (a ∷ earlier) (o ∷ known) = (not (depends kind a t) || is_some o) && knows_all kind t earlier known
