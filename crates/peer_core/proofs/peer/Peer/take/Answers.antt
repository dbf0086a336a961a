-- What the check of `Peer::take` leaves to show.
use Rattle.std.specs.Prelude.{◌≡◌, true, is_some}
use Rattle.std.proofs.Common.{sym, ◌∙◌, subst}
use Rattle.peer_turns.specs.Peers.{KeptPeer}
use Rattle.peer_core.proofs.Taking.{taken, took_none}
use Rattle.peer_core.proofs.peer.Peer.take.Goals as goal

pub returns-then-is_some-clause-stands : goal.returns-then-is_some-clause-stands
returns-then-is_some-clause-stands g c = λ genesis L s.
    (took_none c.args.workers c.args.self genesis c.args.from c.args.message.now L (subst (λ (k : KeptPeer). is_some k.halted ≡ true) c.self.view_is (sym c.is_some.ensures ∙ c.if-is_some.true)) s).stands

pub returns-then-is_some-clause-note : goal.returns-then-is_some-clause-note
returns-then-is_some-clause-note g c = λ genesis L s.
    (took_none c.args.workers c.args.self genesis c.args.from c.args.message.now L (subst (λ (k : KeptPeer). is_some k.halted ≡ true) c.self.view_is (sym c.is_some.ensures ∙ c.if-is_some.true)) s).noted

pub returns-clause-stands : goal.returns-clause-stands
returns-clause-stands g c = λ genesis L s.
    (taken c.args.workers c.args.self c.self.inside.table.now c.self.inside.desk c.hear.new.desk c.turns.new.desk genesis c.args.from c.args.message.now L c.in_ok-heard.heard c.new-sent.result c.turns.new.sent c.new-spans.result c.turns.new.spans c.self.view_is (sym c.is_some.ensures ∙ c.if-is_some.false)
    c.in_ok-heard.ensures.heard c.in_ok-heard.ensures.noted c.new-sent.ensures c.new-spans.ensures c.in_ok-turns.ensures.ended s).stands

pub returns-clause-note : goal.returns-clause-note
returns-clause-note g c = λ genesis L s.
    c.note_behind-note.ensures ∙ (taken c.args.workers c.args.self c.self.inside.table.now c.self.inside.desk c.hear.new.desk c.turns.new.desk genesis c.args.from c.args.message.now L c.in_ok-heard.heard c.new-sent.result c.turns.new.sent c.new-spans.result c.turns.new.spans c.self.view_is (sym c.is_some.ensures ∙ c.if-is_some.false)
    c.in_ok-heard.ensures.heard c.in_ok-heard.ensures.noted c.new-sent.ensures c.new-spans.ensures c.in_ok-turns.ensures.ended s).noted

pub returns-clause-sent : goal.returns-clause-sent
returns-clause-sent g c = λ genesis L s.
    (taken c.args.workers c.args.self c.self.inside.table.now c.self.inside.desk c.hear.new.desk c.turns.new.desk genesis c.args.from c.args.message.now L c.in_ok-heard.heard c.new-sent.result c.turns.new.sent c.new-spans.result c.turns.new.spans c.self.view_is (sym c.is_some.ensures ∙ c.if-is_some.false)
    c.in_ok-heard.ensures.heard c.in_ok-heard.ensures.noted c.new-sent.ensures c.new-spans.ensures c.in_ok-turns.ensures.ended s).sent_is

pub returns-clause-spans : goal.returns-clause-spans
returns-clause-spans g c = λ genesis L s.
    (taken c.args.workers c.args.self c.self.inside.table.now c.self.inside.desk c.hear.new.desk c.turns.new.desk genesis c.args.from c.args.message.now L c.in_ok-heard.heard c.new-sent.result c.turns.new.sent c.new-spans.result c.turns.new.spans c.self.view_is (sym c.is_some.ensures ∙ c.if-is_some.false)
    c.in_ok-heard.ensures.heard c.in_ok-heard.ensures.noted c.new-sent.ensures c.new-spans.ensures c.in_ok-turns.ensures.ended s).traced
