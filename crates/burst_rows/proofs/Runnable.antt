-- A plan can be run where each of its positions is known well or not at all.
use Rattle.std.specs.Prelude.{◌≡◌, ◌<◌, ◌≤◌, ℕ, true, false, length, get_or, take, Option, Some, None, refl}
use Rattle.std.proofs.Common.{sym, ◌∙◌, ap, subst, arith, ⊎_elim}
use Rattle.std.proofs.lemmas.Bool.{false≢true, cases_lt}
use Rattle.std.proofs.lemmas.List.{get_or_past}
use Rattle.txn_types.specs.declared.txn.Outcome.{Outcome}
use Rattle.txn_types.specs.Values.{AreValues}
use Rattle.oxii_defs.specs.Lawful.{IsLawfulTable, IsLawfulBlock}
use Rattle.oxii_defs.specs.Dependency.{graph_of}
use Rattle.known_defs.specs.Known.{txn_at, knows_all}
use Rattle.txn_core.specs.MeantTable.{table_of}
use Rattle.txn_core.proofs.StateLemmas.{state_of-values}
use Rattle.board_work.specs.declared.plan.Plan.{Plan}
use Rattle.board_work.specs.Plans.{IsRunnable}
use Rattle.node_laws.proofs.LawfulBlockLemmas.{block_txns}
use Rattle.burst_rows.specs.Standing.{CanStand, IsKnownWell}

pub runnable : (p : Plan) → IsLawfulTable (table_of p.table.now) → IsLawfulBlock (table_of p.table.now) p.block.now → length p.block.now.txns ≤ 256
    → p.graph.now.preds ≡ graph_of p.table.now.kind p.block.now.txns → p.graph.now.kind ≡ p.table.now.kind → AreValues p.base.now → length p.base.now ≡ length p.table.now.records
    → length p.known.now ≡ length p.block.now.txns → length p.own.now ≡ length p.block.now.txns
    → ((t : ℕ) → t < length p.block.now.txns → CanStand p t) → IsRunnable p
runnable p table block few lists kind values base known own stand = record {
  plan = record {
    table = table;
    few = few;
    txns = block_txns (table_of p.table.now) p.block.now block;
    base = state_of-values p.base.now values;
    known_long = known;
    own_long = own;
    known_closed = λ t o is. subst (λ k. knows_all k (txn_at p.block.now.txns t) p.block.now.txns (take t p.known.now) ≡ true) kind (well t o is).closed;
    known_fits = λ t o is. (well t o is).fits;
    own_unknown = λ t is. unknown t is (get_or p.known.now t None) refl;
  };
  block = block;
  graph = lists ∙ ap (λ k. graph_of k p.block.now.txns) (sym kind);
  kind = kind;
  values = base;
}
  where
    well : (t : ℕ) (o : Outcome) → get_or p.known.now t None ≡ Some o → IsKnownWell p t o
    well t o is = ⊎_elim (λ lt. stand t lt o is) (λ ge. let e : None ≡ Some o = sym (get_or_past p.known.now t None (omega (arith, ge, known))) ∙ is in cc) (cases_lt t (length p.block.now.txns))

    unknown : (t : ℕ) → get_or p.own.now t false ≡ true → (o : Option Outcome) → get_or p.known.now t None ≡ o → get_or p.known.now t None ≡ None
    unknown t is None q = q
    unknown t is (Some o) q = absurd (false≢true (sym (well t o q).foreign ∙ is))
