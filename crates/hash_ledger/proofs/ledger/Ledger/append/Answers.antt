-- What the check of `Ledger::append` leaves to show.
use Rattle.hash_ledger.proofs.LedgerLemmas.{linked_after}
use Rattle.hash_ledger.proofs.ledger.Ledger.append.Goals as goal

pub invariant_of-self : goal.invariant_of-self
invariant_of-self c = linked_after _ _ _ _ c.push.result c.push.ensures.ok c.push.ensures.err c.self.invariant c.self.view_is c.requires.number c.requires.linked
