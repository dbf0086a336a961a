-- Which positions of a block are valid, and the state after it.
use Rattle.std.specs.Prelude.{◌≡◌, ◌<◌, ◌||◌, ℕ, suc, Bool, true, false, if◌then◌else◌, List, [], ◌∷◌, ◌++◌, length, Option, Some, None, slice_get, slice_index}
use Rattle.txn_types.specs.declared.txn.Txn.{Txn}
use Rattle.txn_types.specs.declared.txn.Outcome.{Outcome}
use Rattle.txn_types.specs.declared.txn.Outcome.TheVariants.{Commit, Abort}
use Rattle.oxii_defs.specs.State.{State, contains}
use Rattle.oxii_defs.specs.Effects.{apply}
use Rattle.xov_mode.specs.declared.judging.Verdict.{Verdict}
use Rattle.xov_mode.specs.declared.judging.Verdict.TheVariants.{Valid, Invalid}

-- a value, not "not written", stands for a record of reads
abbrev pub gives : List ℕ → List (Option ℕ) → List ℕ → Bool
gives (r ∷ writes) (None ∷ entries) reads = gives writes entries reads
gives (r ∷ writes) (Some v ∷ entries) reads = contains reads r || gives writes entries reads
gives _ _ reads = false

-- the outcome is a commit with a value for a record of reads
abbrev pub touches : Txn → Outcome → List ℕ → Bool
touches t (Commit entries) reads = gives t.writes entries reads
touches t (Abort r) reads = false

-- VERDICTS, position by position

-- position u is valid, and its outcome has a value for a record that the transaction at position t reads
pub record IsCause (txns : List Txn) (outcomes : List Outcome) (verdicts : List Verdict) (u t : ℕ) : Type 0 where
  pub earlier : u < t
  pub valid : slice_get verdicts u ≡ Some Valid
  pub one : Txn
  pub outcome : Outcome
  pub other : Txn
  pub is_one : slice_get txns u ≡ Some one
  pub is_outcome : slice_get outcomes u ≡ Some outcome
  pub is_other : slice_get txns t ≡ Some other
  pub touches_it : touches one outcome other.reads ≡ true

-- a position with no cause is valid, and any other is invalid by its least one
abbrev pub IsVerdict : List Txn → List Outcome → List Verdict → ℕ → Option Verdict → Type 0
IsVerdict txns outcomes verdicts t (Some Valid) = (u : ℕ) → ¬ IsCause txns outcomes verdicts u t
IsVerdict txns outcomes verdicts t (Some (Invalid by)) = IsCause txns outcomes verdicts by t × ((u : ℕ) → u < by → ¬ IsCause txns outcomes verdicts u t)
IsVerdict txns outcomes verdicts t None = ⊥

pub record AreVerdicts (txns : List Txn) (outcomes : List Outcome) (verdicts : List Verdict) : Type 0 where
  pub one_each : length verdicts ≡ length txns
  pub each : (t : ℕ) → t < length txns → IsVerdict txns outcomes verdicts t (slice_get verdicts t)

-- THE SAME AS A PROGRAM

-- the first valid position, counted from u, whose outcome touches reads; one without a verdict is not looked at
abbrev pub cause : ℕ → List Txn → List Outcome → List Verdict → List ℕ → Option ℕ
cause u (t ∷ txns) (o ∷ outcomes) (Valid ∷ verdicts) reads = if touches t o reads then Some u else cause (suc u) txns outcomes verdicts reads
cause u (t ∷ txns) (o ∷ outcomes) (Invalid by ∷ verdicts) reads = cause (suc u) txns outcomes verdicts reads
cause u _ _ _ reads = None

abbrev pub verdict_for : Option ℕ → Verdict
verdict_for None = Valid
verdict_for (Some by) = Invalid by

-- those of the positions that are left, after these
abbrev pub judged : List Txn → List Outcome → List Verdict → List Txn → List Verdict
judged txns outcomes verdicts [] = verdicts
judged txns outcomes verdicts (t ∷ rest) = judged txns outcomes (verdicts ++ verdict_for (cause 0 txns outcomes verdicts t.reads) ∷ []) rest

abbrev pub verdicts_of : List Txn → List Outcome → List Verdict
verdicts_of txns outcomes = judged txns outcomes [] txns

-- WHAT IS VALID

-- of a list with one entry for each position, those of the valid positions
abbrev pub valid_of : {A : Type 0} → List A → List Verdict → List A
valid_of (x ∷ xs) (Valid ∷ verdicts) = x ∷ valid_of xs verdicts
valid_of (x ∷ xs) (Invalid by ∷ verdicts) = valid_of xs verdicts
valid_of _ _ = []

abbrev pub settled_one : State → Txn → Outcome → Verdict → State
settled_one s t o Valid = apply s t o
settled_one s t o (Invalid by) = s

-- s with the outcomes of the valid positions, in order
abbrev pub settled : State → List Txn → List Outcome → List Verdict → State
settled s (t ∷ txns) (o ∷ outcomes) (v ∷ verdicts) = settled (settled_one s t o v) txns outcomes verdicts
settled s _ _ _ = s

-- each record that the transaction writes is below this number
abbrev pub HasRoom : ℕ → Txn → Type 0
HasRoom count t = (i : ℕ) → i < length t.writes → slice_index t.writes i < count
