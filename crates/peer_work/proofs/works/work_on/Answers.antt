-- What the check of `work_on` leaves to show.
use Rattle.std.proofs.Common.{length, sym, ◌∙◌}
use Rattle.std.proofs.lemmas.List.{length-map}
use Rattle.node_defs.specs.Rules.{in_force_behind}
use Rattle.node_defs.specs.Programs.{rules_of}
use Rattle.txn_core.specs.MeantTable.{table_of, app_of}
use Rattle.txn_core.specs.States.{state_of}
use Rattle.peer_work.specs.declared.opened.Opened.{Opened}
use Rattle.peer_work.proofs.Composing.{apps_fit, works}
use Rattle.peer_work.proofs.works.work_on.Goals as goal

pub vote-requires-clause-after : goal.vote-requires-clause-after
vote-requires-clause-after g c = c.in_ok-found.ensures.long ∙ sym c.requires.whole.own

pub hold-requires-clause-after : goal.hold-requires-clause-after
hold-requires-clause-after g c = c.in_ok-found.ensures.long ∙ sym c.requires.whole.own

pub agreed_of-requires-clause-apps : goal.agreed_of-requires-clause-apps
agreed_of-requires-clause-apps g c = apps_fit (table_of c.args.table.now) c.args.opened.block (length c.args.force.now) c.requires.whole.lawful (c.requires.force ∙ sym (length-map c.args.table.now.apps app_of))

pub returns-clause-whole : goal.returns-clause-whole
returns-clause-whole g c = record {
  lawful = c.requires.whole.lawful;
  graph = c.requires.whole.graph;
  kind = c.requires.whole.kind;
  own = c.requires.whole.own;
  known = c.in_ok-found.ensures.long;
  fits = c.in_ok-found.ensures.fit;
  closed = c.in_ok-found.ensures.closed;
  held = λ some. c.in_ok-hold.ensures.same some;
}

pub returns-clause-done : goal.returns-clause-done
returns-clause-done g c = λ genesis behind voters puts s h force own isf.
    let r = in_force_behind (rules_of (table_of c.args.table.now) genesis) behind in
    let o = c.args.opened in
    let new : Opened = record { block = o.block; graph = o.graph; own = o.own; known = c.in_ok-found.found.known; held = c.hold.new.holder } in
    works r c.args.me o.block.number voters puts (state_of c.args.state.now) o new c.vote.new.book c.args.sent.now c.hold.new.sent c.in_ok-agreed.agreed c.requires.whole.own h own
    (c.in_ok-found.ensures.found genesis behind c.args.me voters puts s force own isf)
    (c.in_ok-vote.ensures voters puts s)
    (c.in_ok-hold.ensures.cut r c.args.me (sym c.requires.whole.kind) own)
    (λ puts2 s2. c.in_ok-agreed.ensures.agreed voters puts2 r s2 force)
