-- What the check of `judge` leaves to show.
use Rattle.std.proofs.Common.{length, length-append, sym, ◌∙◌, ap}
use Rattle.peer_turns.specs.Peers.{peer_of}
use Rattle.peer_turns.proofs.Judgements.{done_well, done_judged, halts_well}
use Rattle.peer_turns.proofs.judging.judge.Goals as goal

pub returns-clause-kept : goal.returns-clause-kept
returns-clause-kept c =
    let e = c.in_ok-complete.ensures in
    done_well (peer_of c.args.table.now c.args.desk.now) c.args.worked c.args.agreed.now c.complete.new.ledger c.complete.new.state c.complete.new.force c.requires.none c.requires.kept c.requires.well c.requires.long c.requires.fit e.ledger e.values e.force

pub returns-clause-judged : goal.returns-clause-judged
returns-clause-judged c =
    let e = c.in_ok-complete.ensures in
    done_judged (peer_of c.args.table.now c.args.desk.now) c.args.worked c.args.agreed.now c.complete.new.ledger c.complete.new.state c.complete.new.force c.split_of-split.result c.requires.none c.split_of-split.ensures (sym c.is_some.ensures ∙ c.if-is_some.false) (sym c.is_done.ensures ∙ c.if-not-is_done.false) e.ledger e.state e.force

pub returns-clause-longer : goal.returns-clause-longer
returns-clause-longer c = λ h. ap length c.in_ok-complete.ensures.ledger ∙ length-append c.args.desk.now.ledger _

pub returns-then-is_some-clause-kept : goal.returns-then-is_some-clause-kept
returns-then-is_some-clause-kept c =
    halts_well (peer_of c.args.table.now c.args.desk.now) c.args.worked c.args.agreed.now c.split_of-split.result c.requires.kept c.requires.well c.requires.fit c.split_of-split.ensures
