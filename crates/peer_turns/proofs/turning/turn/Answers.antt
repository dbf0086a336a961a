-- What the check of `turn` leaves to show.
use Rattle.std.specs.Prelude.{Option, List, IfSome}
use Rattle.std.specs.Option.{option_map}
use Rattle.std.proofs.Common.{sym, ◌∙◌, ap, subst}
use Rattle.std.proofs.lemmas.Option.{none-some, same_Some}
use Rattle.node_defs.specs.Rules.{Rules}
use Rattle.txn_core.specs.MeantTable.{table_of}
use Rattle.peer_parts.specs.Owning.{IsOwn}
use Rattle.peer_parts.specs.InForce.{IsForce}
use Rattle.peer_work.specs.declared.opened.Opened.{Opened}
use Rattle.peer_work.specs.Openings.{IsWellOpened, IsFresh}
use Rattle.peer_turns.specs.declared.listing.BlockSpans.{BlockSpans}
use Rattle.peer_turns.specs.Peers.{KeptPeer, Judged, peer_of}
use Rattle.peer_turns.specs.Relation.{EndedAt, Turned}
use Rattle.peer_turns.proofs.TurnLemmas.{IsNext, turned, turn_ends, with_book}
use Rattle.peer_turns.proofs.turning.turn.Goals as goal

pub returns-in_default-clause-turned : goal.returns-in_default-clause-turned
returns-in_default-clause-turned g c = λ genesis me m f K at.
    let p : KeptPeer = peer_of c.args.table.now c.args.desk.now in
    let none = c.in_default.is in
    let was = c.take-work.ensures.value in
    let e = c.in_ok-opened.ensures in
    subst (λ (w : Option Opened). EndedAt c.args.workers genesis me f K (with_book p p.book w) c.args.sent.now c.args.spans.now) (sym c.take-work.ensures.after)
    (turn_ends p c.args.sent.now c.args.spans.now c.args.workers genesis me m f K c.requires.kept.hashed at
    (λ x q. none-some x (sym none ∙ e.kept x (was ∙ q)))
    (λ q rules L s. ap (option_map (λ (o : Opened). o.block)) (sym none) ∙ e.ready (was ∙ q) rules L s))

pub returns-clause-turned : goal.returns-clause-turned
returns-clause-turned g c = λ genesis me m f K at.
    let p : KeptPeer = peer_of c.args.table.now c.args.desk.now in
    let o : Opened = c.in-Some.opened in
    let some = c.in-Some.is in
    let was = c.take-work.ensures.value in
    let e = c.in_ok-opened.ensures in
    let w = c.in_ok-worked.ensures in
    let new : KeptPeer = peer_of c.args.table.now c.judge.new.desk in
    let well : IsWellOpened (table_of p.table) p.ledger o = subst (λ (x : Option Opened). IfSome x (IsWellOpened (table_of p.table) p.ledger)) some e.well in
    let next : IsNext p o = record {
      kept = λ x q. same_Some o x (sym some ∙ e.kept x (was ∙ q));
      fresh = λ q. subst (λ (x : Option Opened). IfSome x IsFresh) some (e.fresh (was ∙ q));
      ready = λ q rules L s. ap (option_map (λ (z : Opened). z.block)) (sym some) ∙ e.ready (was ∙ q) rules L s;
      own = λ q. subst (λ (x : Option Opened). IfSome x (λ z. (rules : Rules) → IsForce rules p.force → IsOwn rules p.me z.block.txns z.own)) some (e.own (was ∙ q));
    } in
    subst (λ (xs : List BlockSpans). Turned c.args.workers genesis me m f K c.in_ok-more.more new c.work_on.new.sent xs) (sym c.in_ok-list.ensures)
    (turned p new c.work_on.new.book o c.in_ok-worked.worked.opened c.in_ok-worked.worked.agreed c.in_ok-more.more c.args.sent.now c.work_on.new.sent c.args.spans.now c.in_ok-worked.worked.spans c.args.workers genesis me m f K c.requires.kept.hashed at
    next w.whole well.number w.block w.own w.long w.done w.trace
    (subst (λ (x : Option Opened). Judged c.in_ok-worked.worked.opened c.in_ok-worked.worked.agreed c.in_ok-more.more (with_book p c.work_on.new.book x) new) c.take-work.ensures.after c.in_ok-more.ensures.judged))
