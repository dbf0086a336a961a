-- The serial run is that of the relations.
use Rattle.std.proofs.Common.{◌≡◌, ℕ, List, [], ◌∷◌, refl, sym, ap, ◌∙◌, subst}
use Rattle.txn_types.specs.declared.txn.Txn.{Txn}
use Rattle.txn_types.specs.declared.txn.Outcome.{Outcome}
use Rattle.txn_types.specs.declared.block.Block.{Block}
use Rattle.oxii_defs.specs.State.{State}
use Rattle.oxii_defs.specs.Table.{Table, body_in}
use Rattle.oxii_defs.specs.Outcomes.{outcome_in}
use Rattle.oxii_defs.specs.Effects.{apply}
use Rattle.oxii_defs.specs.SerialPart.{after_txn, serial_outcomes, serial_state, ledger_of, state_after}
use Rattle.oxii_defs.specs.Lines.{Entry, peer_lines}
use Rattle.oxii_defs.specs.SerialRuns.{BlocksRunSerially, RunsSerially}
use Rattle.oxii_defs.specs.Laws.{SerialPartsAreMeant, SerialRunsAreMeant}
use Rattle.oxii_defs.proofs.Calls.{outcomes_meant}

-- TRANSACTIONS

cons_same : {A : Type 0} (x y : A) (xs ys : List A) → x ≡ y → xs ≡ ys → x ∷ xs ≡ y ∷ ys
cons_same x y xs ys p q = cc

runs_is : (table : Table) (s : State) (txns : List Txn) (outcomes : List Outcome) (u : State) → RunsSerially table s txns outcomes u →
    (outcomes ≡ serial_outcomes table s txns) × (u ≡ serial_state table s txns)
runs_is table s [] [] u e = (refl, e)
runs_is table s [] (o ∷ outcomes) u h = absurd h
runs_is table s (t ∷ rest) [] u h = absurd h
runs_is table s (t ∷ rest) (o ∷ outcomes) u (h, more) =
    let e = (outcomes_meant (body_in table t) t s o).0 h in
    let k = runs_is table (apply s t o) rest outcomes u more in
    let v = ap (apply s t) e in (
      cons_same o (outcome_in table s t) outcomes (serial_outcomes table (after_txn table s t) rest) e (k.0 ∙ ap (λ z. serial_outcomes table z rest) v),
      k.1 ∙ ap (λ z. serial_state table z rest) v,
    )

runs : (table : Table) (s : State) (txns : List Txn) → RunsSerially table s txns (serial_outcomes table s txns) (serial_state table s txns)
runs table s [] = refl
runs table s (t ∷ rest) = ((outcomes_meant (body_in table t) t s (outcome_in table s t)).1 refl, runs table (after_txn table s t) rest)

pub serial_runs : SerialRunsAreMeant
serial_runs table s txns outcomes u = (
  λ h. runs_is table s txns outcomes u h,
  λ h. subst (λ os. RunsSerially table s txns os u) (sym h.0) (subst (λ z. RunsSerially table s txns (serial_outcomes table s txns) z) (sym h.1) (runs table s txns)),
)

-- BLOCKS

entry_same : (e : Entry) (b : Block) (outcomes : List Outcome) → e.block ≡ b → e.outcomes ≡ outcomes → e ≡ record { block = b; outcomes = outcomes }
entry_same e b outcomes p q = ap (λ x. record { block = x; outcomes = e.outcomes }) p ∙ ap (λ os. record { block = b; outcomes = os }) q

blocks_is : (table : Table) (s : State) (blocks : List Block) (ledger : List Entry) (u : State) → BlocksRunSerially table s blocks ledger u →
    (ledger ≡ ledger_of table s blocks) × (u ≡ state_after table s blocks)
blocks_is table s [] [] u e = (refl, e)
blocks_is table s [] (e ∷ ledger) u h = absurd h
blocks_is table s (b ∷ rest) [] u h = absurd h
blocks_is table s (b ∷ rest) (e ∷ ledger) u (v, is, run, more) =
    let one = runs_is table s b.txns e.outcomes v run in
    let k = blocks_is table v rest ledger u more in (
      cons_same e (record { block = b; outcomes = serial_outcomes table s b.txns }) ledger (ledger_of table (serial_state table s b.txns) rest)
          (entry_same e b (serial_outcomes table s b.txns) is one.0) (k.0 ∙ ap (λ z. ledger_of table z rest) one.1),
      k.1 ∙ ap (λ z. state_after table z rest) one.1,
    )

blocks_run : (table : Table) (s : State) (blocks : List Block) → BlocksRunSerially table s blocks (ledger_of table s blocks) (state_after table s blocks)
blocks_run table s [] = refl
blocks_run table s (b ∷ rest) = (serial_state table s b.txns, refl, runs table s b.txns, blocks_run table (serial_state table s b.txns) rest)

lines_same : (table : Table) (peer : ℕ) (es fs : List Entry) (s u : State) → es ≡ fs → s ≡ u → peer_lines table peer es s ≡ peer_lines table peer fs u
lines_same table peer es fs s u e f = ap (λ x. peer_lines table peer x s) e ∙ ap (peer_lines table peer fs) f

pub serial_parts : SerialPartsAreMeant
serial_parts table genesis peer blocks lines = (
  λ h. let k = blocks_is table genesis blocks h.ledger h.state h.run in
      h.shown ∙ lines_same table peer h.ledger (ledger_of table genesis blocks) h.state (state_after table genesis blocks) k.0 k.1,
  λ e. record { ledger = ledger_of table genesis blocks; state = state_after table genesis blocks; run = blocks_run table genesis blocks; shown = e },
)
