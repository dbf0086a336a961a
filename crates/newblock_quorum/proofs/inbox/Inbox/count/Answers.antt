-- What the check of `Inbox::count` leaves to show.
use Rattle.std.proofs.Common.{Bool, ℕ, ◌≡◌, ap, refl, subst, sym, ◌∙◌, option_copied, is_some, true, false}
use Rattle.std.specs.Ordering.{nat_cmp}
use Rattle.keyed_lists.specs.Keyed.{IsPushed}
use Rattle.txn_types.specs.declared.block.Block.{Block}
use Rattle.node_defs.specs.Same.{same_block}
use Rattle.evidence_marks.specs.declared.evidence.OrdererMark.{OrdererMark}
use Rattle.evidence_marks.specs.Evidence.{orderer_order}
use Rattle.evidence_marks.specs.Marks.{MarksUnless}
use Rattle.newblock_quorum.specs.Entries.{HasGraph, IsBehindNewBlock, KeptNewBlocks, received_for}
use Rattle.newblock_quorum.proofs.Counting.{all_kept, answered, behind_counted, behind_repeated, entry_found}
use Rattle.newblock_quorum.proofs.inbox.Inbox.count.Goals as goal

pub invariant_of-self-2 : goal.invariant_of-self-2
invariant_of-self-2 c =
    let inside = c.self.inside in
    let e = c.args.entry in
    let pushed = subst (λ (b : Block). IsPushed nat_cmp inside.entries b.number e c.push.new.self) c.block.ensures c.in_ok-push.ensures.ok in
    let graph = subst (λ (k : KeptNewBlocks). HasGraph k.kind e) (sym c.self.view_is) c.requires in
    all_kept inside.kind inside.entries e c.push.new.self c.self.invariant graph pushed

same_mark : (a b n m : ℕ) → a ≡ b → n ≡ m → ◌≡◌ {A = OrdererMark} (record { orderer = a; n = n }) (record { orderer = b; n = m })
same_mark a b n m p q = cc

pub returns-in-Some-clause-answer : goal.returns-in-Some-clause-answer
returns-in-Some-clause-answer c =
    let e = c.args.entry in
    let there = c.received.ensures.received ∙ ap (λ (b : Block). received_for b.number c.args.self.now.entries) c.block.ensures in
    let is = c.entry_of.ensures ∙ ap (λ (o : ℕ). entry_found o c.received.result.now) c.orderer.ensures in
    sym (answered e.orderer (received_for e.block.number c.args.self.now.entries) c.received.result.now c.entry_of.result true there is (ap is_some c.in-Some.is))

pub returns-in-Some-clause-kept : goal.returns-in-Some-clause-kept
returns-in-Some-clause-kept c =
    let inside = c.self.inside in
    let e = c.args.entry in
    let first = c.in-Some.first.now in
    let kept : KeptNewBlocks = record { orderers = inside.orderers; quorum = inside.quorum; kind = inside.kind; entries = inside.entries; marks = inside.marks } in
    let new : KeptNewBlocks = record { orderers = inside.orderers; quorum = inside.quorum; kind = inside.kind; entries = inside.entries; marks = c.put_unless.new.self } in
    let there = c.received.ensures.received ∙ ap (λ (b : Block). received_for b.number c.args.self.now.entries) c.block.ensures in
    let is = c.entry_of.ensures ∙ ap (λ (o : ℕ). entry_found o c.received.result.now) c.orderer.ensures in
    let found = ap (entry_found e.orderer) (ap (λ (k : KeptNewBlocks). received_for e.block.number k.entries) c.self.view_is ∙ sym there) ∙ (sym is ∙ ap option_copied c.in-Some.is) in
    let mark = same_mark c.orderer-in-Some.result e.orderer c.block.result.now.number e.block.number c.orderer-in-Some.ensures (ap (λ (b : Block). b.number) c.block.ensures) in
    let marks = subst (λ (b : Bool). MarksUnless orderer_order b inside.marks (record { orderer = e.orderer; n = e.block.number }) c.put_unless.new.self) (c.carries-same.ensures ∙ ap (same_block first.block) c.block-in-Some.ensures)
    (subst (λ (m : OrdererMark). MarksUnless orderer_order c.carries-same.result inside.marks m c.put_unless.new.self) mark c.in_ok-put_unless.ensures.ok) in
    subst (λ (k : KeptNewBlocks). IsBehindNewBlock k e.orderer e.block e.graph new) c.self.view_is
    (behind_repeated kept new e first found refl refl refl refl marks)

pub returns-clause-answer : goal.returns-clause-answer
returns-clause-answer c =
    let e = c.args.entry in
    let there = c.received.ensures.received ∙ ap (λ (b : Block). received_for b.number c.args.self.now.entries) c.block.ensures in
    let is = c.entry_of.ensures ∙ ap (λ (o : ℕ). entry_found o c.received.result.now) c.orderer.ensures in
    sym (answered e.orderer (received_for e.block.number c.args.self.now.entries) c.received.result.now c.entry_of.result false there is (ap is_some c.in_default.is))

pub returns-clause-kept : goal.returns-clause-kept
returns-clause-kept c =
    let inside = c.self.inside in
    let e = c.args.entry in
    let pushed = subst (λ (b : Block). IsPushed nat_cmp inside.entries b.number e c.push.new.self) c.block.ensures c.in_ok-push.ensures.ok in
    let kept : KeptNewBlocks = record { orderers = inside.orderers; quorum = inside.quorum; kind = inside.kind; entries = inside.entries; marks = inside.marks } in
    let new : KeptNewBlocks = record { orderers = inside.orderers; quorum = inside.quorum; kind = inside.kind; entries = c.push.new.self; marks = inside.marks } in
    let there = c.received.ensures.received ∙ ap (λ (b : Block). received_for b.number c.args.self.now.entries) c.block.ensures in
    let is = c.entry_of.ensures ∙ ap (λ (o : ℕ). entry_found o c.received.result.now) c.orderer.ensures in
    let absent = ap (entry_found e.orderer) (ap (λ (k : KeptNewBlocks). received_for e.block.number k.entries) c.self.view_is ∙ sym there) ∙ (sym is ∙ ap option_copied c.in_default.is) in
    subst (λ (k : KeptNewBlocks). IsBehindNewBlock k e.orderer e.block e.graph new) c.self.view_is
    (behind_counted kept new e absent refl refl refl refl pushed)
