-- What the check of `find` leaves to show.
use Rattle.std.proofs.Common.{List, [], Option, ◌≡◌, length, sym, ◌∙◌, subst, refl}
use Rattle.std.proofs.lemmas.List.{length-map}
use Rattle.txn_types.specs.declared.txn.Outcome.{Outcome}
use Rattle.txn_core.specs.MeantTable.{table_of, app_of}
use Rattle.txn_core.specs.States.{state_of}
use Rattle.node_defs.specs.Rules.{in_force_behind}
use Rattle.node_defs.specs.Programs.{rules_of}
use Rattle.board_defs.specs.Closure.{Plan}
use Rattle.peer_parts.specs.Found.{IsSound, found_by}
use Rattle.peer_work.specs.Openings.{IsTraced}
use Rattle.peer_work.proofs.Composing.{apps_fit, finds}
use Rattle.peer_work.proofs.works.find.Goals as goal

pub agreed_of-requires-clause-apps : goal.agreed_of-requires-clause-apps
agreed_of-requires-clause-apps g c = apps_fit (table_of c.args.table.now) c.args.opened.now.block (length c.args.force.now) c.requires.whole.lawful (c.requires.force ∙ sym (length-map c.args.table.now.apps app_of))

pub returns-clause-found : goal.returns-clause-found
returns-clause-found g c = λ genesis behind me voters puts s force own isf.
    let t = table_of c.args.table.now in
    let r = in_force_behind (rules_of t genesis) behind in
    let o = c.args.opened.now in
    let plan : Plan = record { table = t; txns = o.block.txns; base = state_of c.args.state.now; known = []; own = o.own } in
    finds t genesis behind me o.block.number voters puts plan o c.in_ok-settled.settled.known c.in_ok-agreed.agreed refl refl refl own (c.in_ok-agreed.ensures.agreed voters puts r s force) isf
    (subst (λ (ks : List (Option Outcome)). IsSound plan c.in_ok-agreed.agreed ks → c.in_ok-settled.settled.known ≡ found_by plan c.in_ok-agreed.agreed (length o.block.txns)) c.in_ok-known.ensures c.in_ok-settled.ensures.found)

pub returns-clause-trace : goal.returns-clause-trace
returns-clause-trace g c =
    let workers = c.args.workers in
    let o = c.args.opened.now in
    subst (λ (ks : List (Option Outcome)). IsTraced (table_of c.args.table.now) workers (record o { known = ks }) (record o { known = c.in_ok-settled.settled.known }) c.in_ok-settled.settled.spans) c.in_ok-known.ensures c.in_ok-settled.ensures.trace
