-- The plan of a lawful block of which nothing is known and all is to be run.
use Rattle.std.proofs.Common.{◌≡◌, ◌∙◌, ◌<◌, ℕ, Bool, true, false, List, length, replicate, get_or, Option, None, sym, ap, subst}
use Rattle.std.proofs.lemmas.List.{length-replicate, get_or-replicate}
use Rattle.std.proofs.lemmas.Option.{none-some}
use Rattle.txn_types.specs.declared.block.Block.{Block}
use Rattle.txn_types.specs.declared.txn.Outcome.{Outcome}
use Rattle.txn_core.specs.declared.table.Table.{Table}
use Rattle.txn_core.specs.declared.graph.Graph.{Graph}
use Rattle.txn_types.specs.Values.{AreValues}
use Rattle.oxii_defs.specs.Lawful.{IsLawfulTable, IsLawfulBody}
use Rattle.txn_core.specs.MeantTable.{table_of}
use Rattle.oxii_defs.specs.Dependency.{graph_of}
use Rattle.txn_core.proofs.StateLemmas.{state_of-values}
use Rattle.board_settings.specs.Settings.{IsSet}

-- each position is to be run
mine : (own : List Bool) (n t : ℕ) → own ≡ replicate n true → t < n → get_or own t false ≡ true
mine own n t all l = ap (λ o. get_or o t false) all ∙ get_or-replicate n t true false l

pub is_set : (table : Table) (base : List ℕ) (block : Block) (graph : Graph) (known : List (Option Outcome)) (own : List Bool) → IsLawfulTable (table_of table) → IsLawfulBody (table_of table) block.txns None → block.config ≡ None → graph.kind ≡ table.kind → graph.preds ≡ graph_of table.kind block.txns
    → length base ≡ length table.records → AreValues base → length known ≡ length block.txns → ((t : ℕ) → get_or known t None ≡ None) → own ≡ replicate (length block.txns) true → IsSet table base block graph known own
is_set table base block graph known own lawful body no_config kind lists values small known_long unknown own_all =
    let n = length block.txns in record {
      plan = record {
        table = lawful;
        few = body.0.1;
        txns = body.1;
        base = state_of-values base small;
        known_long = known_long;
        own_long = ap length own_all ∙ length-replicate n true;
        known_closed = λ t o e. absurd (none-some o (sym (unknown t) ∙ e));
        known_fits = λ t o e. absurd (none-some o (sym (unknown t) ∙ e));
        own_unknown = λ t e. unknown t;
      };
      lawful = subst (IsLawfulBody (table_of table) block.txns) (sym no_config) body;
      preds = lists ∙ ap (λ k. graph_of k block.txns) (sym kind);
      kind = kind;
      values = values;
      all_own = λ t l. mine own n t own_all l;
    }
