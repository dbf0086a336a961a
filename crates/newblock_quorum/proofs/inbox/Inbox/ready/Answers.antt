-- What the check of `Inbox::ready` leaves to show.
use Rattle.std.proofs.Common.{Contains, Some, ap, subst, sym, ◌∙◌}
use Rattle.std.specs.Option.{option_map}
use Rattle.txn_types.specs.declared.block.Block.{Block}
use Rattle.newblock_quorum.specs.Entries.{KeptNewBlocks, blocks_of}
use Rattle.newblock_quorum.proofs.Contents.{accepted_is, linked_is}
use Rattle.newblock_quorum.proofs.Held.{block_held}
use Rattle.newblock_quorum.proofs.inbox.Inbox.ready.Goals as goal

pub returns-in_err-entry-clause-block : goal.returns-in_err-entry-clause-block
returns-in_err-entry-clause-block c = λ rules L stands.
    ap (option_map (λ r. r.block.now)) c.from_residual.ensures
    ∙ accepted_is c.args.self.now rules L c.self.inside.quorum c.args.n c.args.prev.now c.received-received.result.now _ stands (sym (ap (λ (k : KeptNewBlocks). k.quorum) c.self.view_is)) c.received-received.ensures.received c.in_err-entry.ensures.reached

pub returns-clause-block : goal.returns-clause-block
returns-clause-block c = λ rules L stands.
    ap Some c.block.ensures
    ∙ accepted_is c.args.self.now rules L c.self.inside.quorum c.args.n c.args.prev.now c.received-received.result.now _ stands (sym (ap (λ (k : KeptNewBlocks). k.quorum) c.self.view_is)) c.received-received.ensures.received c.in_ok-entry.ensures.reached

pub returns-clause-linked : goal.returns-clause-linked
returns-clause-linked c = ap (λ (b : Block). b.prev) c.block.ensures ∙ linked_is c.args.prev.now c.in_ok-entry.entry.now c.in_ok-entry.ensures.counted

pub returns-clause-held : goal.returns-clause-held
returns-clause-held c =
    subst (Contains (blocks_of c.args.self.now.entries)) (sym c.block.ensures)
    (block_held c.args.n c.args.self.now.entries c.received-received.result.now c.in_ok-entry.entry.now c.received-received.ensures.received c.in_ok-entry.ensures.held)
