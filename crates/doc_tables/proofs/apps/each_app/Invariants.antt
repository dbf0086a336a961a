-- What each turn of the loops of `each_app` keeps.
use Rattle.std.proofs.Common.{◌≡◌, [], length, map, drop}
use Rattle.serde_json.specs.View.{items_view}
use Rattle.txn_core.specs.MeantTable.{app_of}
use Rattle.contract_text.specs.Verdict.{verdict}
use Rattle.doc_forms.specs.Forms.{each}
use Rattle.doc_tables.specs.Apps.{next_app}
use Rattle.doc_tables.proofs.apps.each_app.Given as goal

-- what is left to check, behind the applications so far, gives what the whole list gives
abbrev pub invariant-loop-item : goal.invariant-loop-item
invariant-loop-item l = record {
  index : l.i ≡ l.item-index;
  count : length l.done ≡ l.item-index;
  left : each (next_app verdict l.peers) l.item-index (map app_of l.done) (items_view (drop l.item-index l.list)) ≡ each (next_app verdict l.peers) 0 [] (items_view l.list);
}
