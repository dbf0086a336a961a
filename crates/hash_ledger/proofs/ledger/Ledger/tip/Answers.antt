-- What the check of `Ledger::tip` leaves to show.
use Rattle.std.proofs.Common.{ap, ◌∙◌}
use Rattle.hash_ledger.specs.Ledgers.{tip_of}
use Rattle.hash_ledger.proofs.LedgerLemmas.{tip_is}
use Rattle.hash_ledger.proofs.HashLemmas.{tip_hashed}
use Rattle.hash_ledger.proofs.ledger.Ledger.tip.Goals as goal

pub returns-in-len1-up : goal.returns-in-len1-up
returns-in-len1-up c =
    let last = tip_is _ _ c.in-len1-up.len_at_least c.last-item.is ∙ ap tip_of (c.as_slice.ensures ∙ c.self.view_is) in
    record { tip = last; hashed = λ table genesis hashed. last ∙ tip_hashed table genesis c.args.self.now hashed }
