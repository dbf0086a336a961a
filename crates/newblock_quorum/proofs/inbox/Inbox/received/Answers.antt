-- What the check of `Inbox::received` leaves to show.
use Rattle.std.proofs.Common.{List, ap, subst, sym, ◌∙◌}
use Rattle.std.specs.List.{All}
use Rattle.keyed_lists.proofs.Numbers.{list_at-number}
use Rattle.txn_types.specs.declared.txn.Kind.{Kind}
use Rattle.newblock_quorum.specs.declared.entry.Received.{Received}
use Rattle.newblock_quorum.specs.Entries.{IsKeptFor, KeptNewBlocks}
use Rattle.newblock_quorum.proofs.inbox.Inbox.received.Goals as goal

pub returns-clause-kept : goal.returns-clause-kept
returns-clause-kept c =
    let same = c.at.ensures ∙ list_at-number c.args.n c.self.inside.entries in
    let all = subst (λ (es : List Received). All (IsKeptFor c.self.inside.kind c.args.n) es) (sym same) (c.self.invariant c.args.n) in
    subst (λ (kind : Kind). All (IsKeptFor kind c.args.n) c.at.result.now) (ap (λ (k : KeptNewBlocks). k.kind) c.self.view_is) all
