-- What an outcome makes of a state.
use Rattle.std.specs.Prelude.{ℕ, List, ◌∷◌, Option, Some, None}
use Rattle.oxii_defs.specs.State.{State, put}
use Rattle.txn_types.specs.declared.txn.Txn.{Txn}
use Rattle.txn_types.specs.declared.txn.Outcome.{Outcome}
use Rattle.txn_types.specs.declared.txn.Outcome.TheVariants.{Commit, Abort}

-- s with one entry at r
abbrev pub put_entry : State → ℕ → Option ℕ → State
put_entry s r None = s
put_entry s r (Some v) = put s r v

abbrev pub put_all : State → List ℕ → List (Option ℕ) → State
put_all s (r ∷ rest) (entry ∷ entries) = put_all (put_entry s r entry) rest entries
put_all s _ _ = s

-- s with the values of an outcome
abbrev pub apply : State → Txn → Outcome → State
apply s t (Commit entries) = put_all s t.writes entries
apply s t (Abort r) = s
