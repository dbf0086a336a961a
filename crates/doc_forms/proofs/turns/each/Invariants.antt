-- What each turn of the loops of `each` keeps.
use Rattle.std.proofs.Common.{◌≡◌, drop}
use Rattle.serde_json.specs.View.{items_view}
use Rattle.doc_forms.specs.Forms.{each}
use Rattle.doc_forms.proofs.turns.each.Given as goal

-- what is left to check, from what was made so far, gives what the whole list gives
abbrev pub invariant-loop-item : goal.invariant-loop-item
invariant-loop-item g l = record {
  index : l.i ≡ l.item-index;
  left : each (g.T.Turn.check l.turn) l.item-index l.done (items_view (drop l.item-index l.list)) ≡ each (g.T.Turn.check l.turn) 0 l.fn.start (items_view l.list);
}
