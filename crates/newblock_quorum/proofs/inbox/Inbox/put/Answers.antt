-- What the check of `Inbox::put` leaves to show.
use Rattle.std.proofs.Common.{ℕ, ◌≡◌, IsNone, IfSome, Option, Some, sym, subst, ◌∙◌, ap}
use Rattle.std.specs.Option.{is_some}
use Rattle.std.proofs.lemmas.Bool.{true≢false}
use Rattle.txn_types.specs.declared.block.Block.{Block}
use Rattle.oxii_defs.specs.Dependency.{graph_of}
use Rattle.newblock_quorum.specs.Entries.{IsBehindNewBlock, answer_in_inbox, received_for}
use Rattle.newblock_quorum.proofs.GraphLists.{lists_differ, lists_are}
use Rattle.newblock_quorum.proofs.NewblockLemmas.{counted_is, wrong_is, stands_wrong, stands_good}
use Rattle.newblock_quorum.proofs.inbox.Inbox.put.Goals as goal

-- what there is isn't missing, and has what is said of it
is_made : {A : Type 0} {o : Option A} {x : A} → o ≡ Some x → IsNone o → ⊥
is_made made none = true≢false (sym (ap is_some made) ∙ none)

at_some : {A : Type 0} (P : A → Type 0) {o : Option A} {x : A} → o ≡ Some x → IfSome o P → P x
at_some {A} P made h = subst (λ (o : Option A). IfSome o P) made h

pub returns-in_default-2-clause-answer : goal.returns-in_default-2-clause-answer
returns-in_default-2-clause-answer c = λ rules L stands.
    let m = c.args.msg in
    let wrong = lists_differ m.preds (graph_of c.args.self.now.kind m.block.txns) (c.in_ok-entry.ensures.none.0 (search (c.in_default-2.is))) in
    wrong_is c.args.self.now rules L c.args.from c.in-Some.orderer m stands (sym c.orderer.ensures ∙ c.in-Some.is) wrong

pub returns-in_default-2-clause-stands : goal.returns-in_default-2-clause-stands
returns-in_default-2-clause-stands c = λ rules L stands.
    let m = c.args.msg in
    let wrong = lists_differ m.preds (graph_of c.args.self.now.kind m.block.txns) (c.in_ok-entry.ensures.none.0 (search (c.in_default-2.is))) in
    stands_wrong c.args.self.now rules L c.args.from c.in-Some.orderer m stands (sym c.orderer.ensures ∙ c.in-Some.is) wrong

pub returns-clause-answer : goal.returns-clause-answer
returns-clause-answer c = λ rules L stands.
    let m = c.args.msg in
    let made = c.in-Some-2.is in
    let good = lists_are m.preds (graph_of c.args.self.now.kind m.block.txns) (λ differ. is_made made (c.in_ok-entry.ensures.none.1 differ)) in
    let who = at_some _ made c.in_ok-entry.ensures.orderer in
    let block = at_some _ made c.in_ok-entry.ensures.block in
    c.in_ok-put.ensures.answer
    ∙ ((λ i. answer_in_inbox (who i) (received_for (block i).number c.args.self.now.entries))
    ∙ counted_is c.args.self.now rules L c.args.from c.in-Some.orderer m stands (sym c.orderer.ensures ∙ c.in-Some.is) good)

pub returns-clause-stands : goal.returns-clause-stands
returns-clause-stands c = λ rules L stands.
    let m = c.args.msg in
    let e = c.in-Some-2.entry in
    let made = c.in-Some-2.is in
    let good = lists_are m.preds (graph_of c.args.self.now.kind m.block.txns) (λ differ. is_made made (c.in_ok-entry.ensures.none.1 differ)) in
    let who = at_some _ made c.in_ok-entry.ensures.orderer in
    let block = at_some _ made c.in_ok-entry.ensures.block in
    let kept = subst (λ (b : Block). IsBehindNewBlock c.args.self.now e.orderer b e.graph c.count.new.self) block c.in_ok-put.ensures.kept in
    let counted = subst (λ (o : ℕ). IsBehindNewBlock c.args.self.now o m.block e.graph c.count.new.self) who kept in
    stands_good c.args.self.now c.count.new.self rules L c.args.from c.in-Some.orderer m e.graph stands (sym c.orderer.ensures ∙ c.in-Some.is) good counted
