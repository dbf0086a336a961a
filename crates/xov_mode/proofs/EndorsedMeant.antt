-- The endorsed outcomes are what the transactions mean, and fit.
use Rattle.std.proofs.Common.{◌≡◌, ◌<◌, ℕ, zero, suc, List, [], ◌∷◌, length, slice_index_or, Option, Some, None, Result, Ok, Err, IfOk, refl, sym, subst, arith}
use Rattle.std.specs.List.{All}
use Rattle.std.proofs.lemmas.List.Elements.{All-nil, All-head, All-tail}
use Rattle.txn_types.specs.declared.txn.Txn.{Txn}
use Rattle.txn_types.specs.declared.txn.Outcome.{Outcome}
use Rattle.txn_types.specs.Fitting.{Fits}
use Rattle.oxii_defs.specs.State.{State, IsState}
use Rattle.oxii_defs.specs.Table.{Table, body_in, body_of}
use Rattle.oxii_defs.specs.Outcomes.{outcome, outcome_in}
use Rattle.oxii_defs.specs.Lawful.{IsLawfulTable, IsLawfulTxn, IsLawfulBody}
use Rattle.txn_types.specs.declared.block.Config.{Config}
use Rattle.oxii_defs.proofs.Calls.{outcomes_meant}
use Rattle.oxii_defs.proofs.Small.{outcomes_fit}
use Rattle.oxii_defs.proofs.Lawful.{op_well_formed}
use Rattle.xov_mode.specs.Endorsed.{AreEndorsed, AllFit, endorsed}

cons_same : (o p : Outcome) (os ps : List Outcome) → o ≡ p → os ≡ ps → o ∷ os ≡ p ∷ ps
cons_same o p os ps e f = cc

pub endorsed_is : (table : Table) (s : State) (txns : List Txn) (outcomes : List Outcome) → AreEndorsed table s txns outcomes → outcomes ≡ endorsed table s txns
endorsed_is table s [] [] h = refl
endorsed_is table s [] (o ∷ outcomes) h = absurd h
endorsed_is table s (t ∷ rest) [] h = absurd h
endorsed_is table s (t ∷ rest) (o ∷ outcomes) h =
    cons_same o (outcome_in table s t) outcomes (endorsed table s rest) ((outcomes_meant (body_in table t) t s o).0 h.0) (endorsed_is table s rest outcomes h.1)

pub are_endorsed : (table : Table) (s : State) (txns : List Txn) → AreEndorsed table s txns (endorsed table s txns)
are_endorsed table s [] = tt
are_endorsed table s (t ∷ rest) = ((outcomes_meant (body_in table t) t s (outcome_in table s t)).1 refl, are_endorsed table s rest)

one_fits : (table : Table) (s : State) (t : Txn) → IsLawfulTable table → IsState s → IsLawfulTxn table t → Fits t (outcome_in table s t)
one_fits table s t lawful is txn =
    subst (λ o. Fits t (outcome (body_of o) t s)) (sym txn.named) (outcomes_fit txn.op t s (op_well_formed table t txn.op lawful txn.named) txn.matched is)

pub all_fit : (table : Table) (s : State) (txns : List Txn) → IsLawfulTable table → IsState s → All (IsLawfulTxn table) txns → AllFit txns (endorsed table s txns)
all_fit table s [] lawful is all = tt
all_fit table s (t ∷ rest) lawful is all = (one_fits table s t lawful is (All-head (IsLawfulTxn table) t rest all), all_fit table s rest lawful is (All-tail (IsLawfulTxn table) t rest all))

pub lawful_txns : (table : Table) (txns : List Txn) (config : Option Config) → IsLawfulBody table txns config → All (IsLawfulTxn table) txns
lawful_txns table txns None h = h.1
lawful_txns table txns (Some config) h = subst (λ (ts : List Txn). All (IsLawfulTxn table) ts) (sym h.0) (All-nil (IsLawfulTxn table))

-- what holds of the one value holds of what was given
pub of_given : {E : Type 0} (P : List Outcome → Type 0) (x : List Outcome) → P x → (r : Result (List Outcome) E) → IfOk r (λ os. os ≡ x) → IfOk r P
of_given P x p (Ok os) e = subst P (sym e) p
of_given P x p (Err e) h = tt

pub fit_at : (ts : List Txn) (os : List Outcome) (i : ℕ) (t : Txn) (o : Outcome) → AllFit ts os → i < length ts → length os ≡ length ts → t ≡ slice_index_or ts i t → o ≡ slice_index_or os i o → Fits t o
fit_at [] os i t o a k l p q = absurd (omega (arith, k))
fit_at (x ∷ ts) [] i t o a k l p q = absurd (omega (arith, l))
fit_at (x ∷ ts) (y ∷ os) zero t o a k l p q = rw (p, q) a.0
fit_at (x ∷ ts) (y ∷ os) (suc i) t o a k l p q = fit_at ts os i t o a.1 (omega (arith, k)) (omega (arith, l)) p q
