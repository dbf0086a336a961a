-- The completion of a block, step by step.
use Rattle.std.specs.Prelude.{ℕ, ◌≡◌, ◌<◌, ◌≤◌, ◌+◌, List, [], ◌∷◌, length, drop, get_or, slice_index, Option, Some, None, zero, suc, refl}
use Rattle.std.proofs.Common.{arith}
use Rattle.std.proofs.lemmas.List.{drop_more}
use Rattle.std.proofs.lemmas.List.Elements.{All-get_or, All-from_recursion}
use Rattle.txn_types.specs.Fitting.{Fits}
use Rattle.txn_types.specs.declared.txn.Outcome.{Outcome}
use Rattle.txn_types.specs.declared.txn.Txn.{Txn}
use Rattle.oxii_defs.specs.State.{State}
use Rattle.oxii_defs.specs.Effects.{apply}
use Rattle.oxii_defs.specs.Table.{Table}
use Rattle.oxii_defs.specs.Lawful.{IsRecord, IsLawfulTxn}
use Rattle.node_defs.specs.Ledger.{after_outcomes}
use Rattle.hash_ledger.specs.Ledgers.{AllFit}
use Rattle.steal_pool.specs.Fitting.{AllFitAt}
use Rattle.peer_work.specs.Completing.{AreLawful, outcomes_in}

pub after_next : (s : State) (txns : List Txn) (outcomes : List Outcome) (t : ℕ) (d : Txn) (o : Outcome) → t < length txns → t < length outcomes → after_outcomes s (drop t txns) (drop t outcomes) ≡ after_outcomes (apply s (get_or txns t d) (get_or outcomes t o)) (drop (t + 1) txns) (drop (t + 1) outcomes)
after_next s txns outcomes t d o l k = rw (drop_more txns t d l, drop_more outcomes t o k)

pub after_end : (s : State) (txns : List Txn) (outcomes : List Outcome) (t : ℕ) → length txns ≤ t → after_outcomes s (drop t txns) (drop t outcomes) ≡ s
after_end s [] outcomes zero l = refl
after_end s [] outcomes (suc t) l = refl
after_end s (x ∷ txns) outcomes zero l = absurd (omega arith)
after_end s (x ∷ txns) [] (suc t) l = nil (drop t txns)
  where
    nil : (ts : List Txn) → after_outcomes s ts [] ≡ s
    nil [] = refl
    nil (y ∷ ts) = refl
after_end s (x ∷ txns) (o ∷ outcomes) (suc t) l = after_end s txns outcomes t (omega arith)

pub fits_at : (txns : List Txn) (outcomes : List Outcome) (t : ℕ) (d : Txn) (o : Outcome) → AllFit txns outcomes → t < length txns → Fits (get_or txns t d) (get_or outcomes t o)
fits_at [] outcomes t d o f l = absurd (omega arith)
fits_at (x ∷ txns) [] t d o f l = absurd f
fits_at (x ∷ txns) (y ∷ outcomes) zero d o f l = f.0
fits_at (x ∷ txns) (y ∷ outcomes) (suc t) d o f l = fits_at txns outcomes t d o f.1 (omega arith)

pub records_at : (table : Table) (txns : List Txn) (t : ℕ) (d : Txn) → AreLawful table txns → t < length txns → (i : ℕ) → i < length (get_or txns t d).writes → slice_index (get_or txns t d).writes i < length table.records
records_at table txns t d lawful l i h = All-get_or (IsRecord table) (get_or txns t d).writes i 0 h (All-from_recursion (IsRecord table) (get_or txns t d).writes (All-get_or (IsLawfulTxn table) txns t d l lawful).writes)

-- the agreed outcomes fit
pub agreed_fit : (txns : List Txn) (agreed : List (Option Outcome)) → length agreed ≡ length txns → AllFitAt txns agreed → AllFit txns (outcomes_in agreed)
agreed_fit [] [] l f = tt
agreed_fit [] (a ∷ agreed) l f = absurd (omega (arith, l))
agreed_fit (x ∷ txns) [] l f = absurd (omega (arith, l))
agreed_fit (x ∷ txns) (None ∷ agreed) l f = (refl, agreed_fit txns agreed (omega (arith, l)) (λ t o h. f (suc t) o h))
agreed_fit (x ∷ txns) (Some p ∷ agreed) l f = (f 0 p refl, agreed_fit txns agreed (omega (arith, l)) (λ t o h. f (suc t) o h))
