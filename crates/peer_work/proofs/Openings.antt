-- A block newly in work.
use Rattle.std.specs.Prelude.{ℕ, ◌≡◌, ◌+◌, List, length, replicate, get_or, Contains, Option, None, zero, suc, refl}
use Rattle.std.specs.List.{All}
use Rattle.std.proofs.Common.{sym, ◌∙◌, ap, subst, arith}
use Rattle.std.proofs.lemmas.Option.{none-some}
use Rattle.std.proofs.lemmas.List.{length-replicate}
use Rattle.std.proofs.lemmas.List.Elements.{All-contains}
use Rattle.txn_types.specs.declared.txn.Outcome.{Outcome}
use Rattle.txn_types.specs.declared.txn.Txn.{Txn}
use Rattle.txn_types.specs.declared.txn.Kind.{Kind}
use Rattle.txn_types.specs.declared.block.Block.{Block}
use Rattle.oxii_defs.specs.Table.{Table}
use Rattle.oxii_defs.specs.Lawful.{IsLawfulBlock}
use Rattle.txn_core.specs.Graphs.{Shape, IsGraphOf}
use Rattle.hash_ledger.specs.declared.entry.Entry.{Entry}
use Rattle.hash_ledger.specs.Ledgers.{tip_of}
use Rattle.board_defs.specs.Closure.{IsKnownClosed}
use Rattle.trace_laws.proofs.Entries.{all_same}
use Rattle.steal_pool.specs.Fitting.{AllFitAt}
use Rattle.peer_work.specs.declared.opened.Opened.{Opened}
use Rattle.peer_work.specs.Openings.{IsWellOpened, IsFresh}

none_fits : (txns : List Txn) (n : ℕ) → AllFitAt txns (replicate n None)
none_fits txns n = λ t o h. absurd (none-some o (sym (all_same n t None) ∙ h))

none_closed : (kind : Kind) (txns : List Txn) (n : ℕ) → IsKnownClosed kind txns (replicate n None)
none_closed kind txns n = λ t o h. absurd (none-some o (sym (all_same n t None) ∙ h))

-- a block that is ready, with nothing known of it, is the next one
pub well_opened : (table : Table) (ledger : List Entry) (blocks : List Block) (o : Opened) (block : Block) (graph : Shape) (len n : ℕ) (tip : List ℕ) (kind : Kind)
    → All (IsLawfulBlock table) blocks → Contains blocks block → o.block ≡ block → o.graph ≡ graph → IsFresh o → len ≡ length ledger → block.number ≡ len + 1 → tip ≡ tip_of ledger → block.prev ≡ tip
    → IsGraphOf block.txns graph → graph.kind ≡ kind → kind ≡ table.kind → IsWellOpened table ledger o
well_opened table ledger blocks o block graph len n tip kind all held b g fresh l number t linked is k same = record {
  whole = record {
    lawful = subst (IsLawfulBlock table) (sym b) (All-contains (IsLawfulBlock table) blocks block all held);
    graph = subst (λ (x : Block). IsGraphOf x.txns o.graph) (sym b) (subst (λ (x : Shape). IsGraphOf block.txns x) (sym g) is);
    kind = ap (λ (x : Shape). x.kind) g ∙ (k ∙ same);
    own = fresh.long;
    known = ap length fresh.known ∙ length-replicate (length o.block.txns) None;
    fits = subst (AllFitAt o.block.txns) (sym fresh.known) (none_fits o.block.txns (length o.block.txns));
    closed = subst (IsKnownClosed table.kind o.block.txns) (sym fresh.known) (none_closed table.kind o.block.txns (length o.block.txns));
    held = λ some. absurd (omega (arith, some, ap length fresh.held));
  };
  number = ap (λ (x : Block). x.number) b ∙ (number ∙ ap (λ i. i + 1) l);
  linked = ap (λ (x : Block). x.prev) b ∙ (linked ∙ t);
}
