-- What the check of `round` leaves to show.
use Rattle.std.proofs.Common.{◌≡◌, length, sym, ◌∙◌, subst}
use Rattle.board_defs.specs.Trace.{IsLawfulTrace}
use Rattle.board_work.specs.Spans.{span_of}
use Rattle.std.specs.Prelude.{map}
use Rattle.peer_parts.specs.Tasks.{frame_of, HasAllGiven}
use Rattle.peer_parts.proofs.RoundLemmas.{all_given}
use Rattle.peer_parts.proofs.TraceLemmas.{between_same}
use Rattle.peer_parts.proofs.rounds.round.Goals as goal

pub returns-clause-kept : goal.returns-clause-kept
returns-clause-kept g c = λ t o h. c.in_ok-more.ensures.kept t o (c.adopt.ensures.kept t o h)

pub returns-clause-all : goal.returns-clause-all
returns-clause-all g c = λ h z.
    let k = c.args.task.now in
    let none = c.in_ok-more.ensures.none h in
    let long : length c.adopt.new.known ≡ length k.block.now.txns = c.adopt.ensures.long ∙ c.requires.long in
    subst (HasAllGiven k) (sym none.0) (all_given (frame_of k) k.agreed.now c.adopt.new.known long (c.adopt.ensures.sound z) (c.adopt.ensures.others z) none.1)

pub returns-clause-trace : goal.returns-clause-trace
returns-clause-trace g c = λ begun kept so_far.
    let k = c.args.task.now in
    let n = length k.block.now.txns in
    c.in_ok-more.ensures.trace begun (λ t o h. c.adopt.ensures.kept t o (kept t o h))
    (subst (λ ts. IsLawfulTrace k.table.now.kind k.block.now.txns c.args.workers ts (map span_of c.args.spans.now)) (sym (between_same k.own.now begun c.args.known.now c.adopt.new.known c.adopt.ensures.own n)) so_far)
