-- When an outcome can be that of a transaction.
use Rattle.std.specs.Prelude.{◌≡◌, ℕ, Bool, true, false, ◌&&◌, nat_le, List, [], ◌∷◌, Option, Some, None}
use Rattle.txn_types.specs.Values.{max_value}
use Rattle.txn_types.specs.declared.txn.Txn.{Txn}
use Rattle.txn_types.specs.declared.txn.Outcome.{Outcome}
use Rattle.txn_types.specs.declared.txn.Outcome.TheVariants.{Commit, Abort}

-- one entry for each record, each none or a value up to the largest
abbrev pub fit_entries : List ℕ → List (Option ℕ) → Bool
fit_entries [] [] = true
fit_entries (r ∷ rest) (None ∷ entries) = fit_entries rest entries
fit_entries (r ∷ rest) (Some v ∷ entries) = nat_le v max_value && fit_entries rest entries
fit_entries _ _ = false

-- an outcome fits a transaction: an abort, or a commit with fitting entries
abbrev pub is_fit : Txn → Outcome → Bool
is_fit t (Commit entries) = fit_entries t.writes entries
is_fit t (Abort r) = true

abbrev pub Fits : Txn → Outcome → Type 0
Fits t o = is_fit t o ≡ true
