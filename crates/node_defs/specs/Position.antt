-- The positions of one block, as one peer works on it: ran, agreed, known, believed.
use Rattle.std.specs.Prelude.{ℕ, zero, suc, Bool, ◌&&◌, not, if◌then◌else◌, List, [], ◌∷◌, ◌++◌, map, filter, Option, Some, None, is_some}
use Rattle.txn_types.specs.Fitting.{is_fit}
use Rattle.txn_types.specs.declared.txn.Outcome.{Outcome}
use Rattle.txn_types.specs.declared.txn.Txn.{Txn}
use Rattle.oxii_defs.specs.State.{State, contains}
use Rattle.known_defs.specs.Known.{txn_at, after_known, knows_all}
use Rattle.node_defs.specs.Same.{same_outcome}
use Rattle.node_defs.specs.Counting.{first_of_each, first_to_reach}
use Rattle.node_defs.specs.Rules.{Rules}
use Rattle.node_defs.specs.Log.{Log, votes_in}

-- a block that a peer works on: its number and transactions, the state before it, and whether a log has it accepted
pub record Work : Type 0 where
  pub me : ℕ
  pub n : ℕ
  pub txns : List Txn
  pub base : State
  pub opens : Log → Bool

-- how a position stands: whether it ran, what it was agreed with, and what the peer believes where it is known
pub record Standing : Type 0 where
  pub ran : Bool
  pub agreed : Option Outcome
  pub believed : Option Outcome

-- p is an agent of t's application
abbrev pub is_agent : Rules → ℕ → Txn → Bool
is_agent rules p t = contains (rules.agents t.app) p

-- the block is accepted, and each predecessor of t is known, where the positions before it are like this
abbrev pub is_ready : Rules → Work → ℕ → Bool → List Standing → Bool
is_ready rules w t opened earlier = opened && knows_all rules.table.kind (txn_at w.txns t) w.txns (map (λ s. s.believed) earlier)

-- below, `earlier` says for each log how the positions before t stand

-- t ran: this peer is an agent of its application, and each predecessor is known
abbrev pub ran : Rules → Work → ℕ → (Log → List Standing) → Log → Bool
ran rules w t earlier L = is_agent rules w.me (txn_at w.txns t) && is_ready rules w t (w.opens L) (earlier L)

-- what t means in the state before the block with the believed outcomes of the known earlier positions
abbrev pub own_outcome : Rules → Work → ℕ → (Log → List Standing) → Log → Outcome
own_outcome rules w t earlier L = rules.outcome (after_known w.base w.txns (map (λ s. s.believed) (earlier L))) (txn_at w.txns t)

-- the votes on t, the latest first. This peer's own is directly after those of the entry with which t ran
abbrev pub ballots : Rules → Work → ℕ → (Log → List Standing) → Log → List (ℕ × Outcome)
ballots rules w t earlier [] = []
ballots rules w t earlier (e ∷ L) =
    (if ran rules w t earlier (e ∷ L) && not (ran rules w t earlier L) then (w.me, own_outcome rules w t earlier (e ∷ L)) ∷ [] else [])
    ++ votes_in rules w.me w.n t e ++ ballots rules w t earlier L

-- the first vote of each agent
abbrev pub tally : Rules → Work → ℕ → (Log → List Standing) → Log → List Outcome
tally rules w t earlier L = map (λ v. v.1) (filter (λ v. is_agent rules v.0 (txn_at w.txns t)) (first_of_each (ballots rules w t earlier L)))

-- the fitting outcome that first was tau times
abbrev pub agreed : Rules → Work → ℕ → (Log → List Standing) → Log → Option Outcome
agreed rules w t earlier L = first_to_reach same_outcome (rules.tau (txn_at w.txns t).app) (filter (is_fit (txn_at w.txns t)) (tally rules w t earlier L))

-- how t stands: believed is its own outcome where it ran, else the agreed one where each predecessor is known
abbrev pub standing : Rules → Work → ℕ → (Log → List Standing) → Log → Standing
standing rules w t earlier L = record {
  ran = ran rules w t earlier L;
  agreed = agreed rules w t earlier L;
  believed =
      if ran rules w t earlier L then Some (own_outcome rules w t earlier L)
      else if is_ready rules w t (w.opens L) (earlier L) then agreed rules w t earlier L
      else None;
}

-- how the first t positions stand, in block order
abbrev pub standings : Rules → Work → ℕ → Log → List Standing
standings rules w zero L = []
standings rules w (suc t) L = standings rules w t L ++ standing rules w t (standings rules w t) L ∷ []

-- known: each predecessor is known, and it ran or is agreed
abbrev pub is_known : Standing → Bool
is_known s = is_some s.believed
