-- What the check of `Inbox::held` leaves to show.
use Rattle.std.proofs.lemmas.Option.{IfSome_then}
use Rattle.newblock_quorum.proofs.Held.{is_held}
use Rattle.newblock_quorum.proofs.inbox.Inbox.held.Goals as goal

pub returns-clause-block : goal.returns-clause-block
returns-clause-block c =
    IfSome_then c.with_block.result (is_held c.args.self.now.kind c.args.block.now c.received.result.now c.with_block.result c.with_block.ensures c.received.ensures.kept) (λ e h. h.0)

pub returns-clause-graph : goal.returns-clause-graph
returns-clause-graph c =
    IfSome_then c.with_block.result (is_held c.args.self.now.kind c.args.block.now c.received.result.now c.with_block.result c.with_block.ensures c.received.ensures.kept) (λ e h. h.1)
