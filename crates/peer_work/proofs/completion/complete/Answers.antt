-- What the check of `complete` leaves to show.
use Rattle.std.proofs.Common.{List, sym, ◌∙◌, subst}
use Rattle.txn_types.specs.declared.txn.Txn.{Txn}
use Rattle.hash_ledger.specs.Ledgers.{AllFit}
use Rattle.peer_work.proofs.Finishing.{agreed_fit}
use Rattle.peer_work.proofs.completion.complete.Goals as goal

pub apply_all-requires-clause-fit : goal.apply_all-requires-clause-fit
apply_all-requires-clause-fit c =
    subst (λ (ts : List Txn). AllFit ts c.as_slice-2.result.now) (sym c.as_slice.ensures) (subst (AllFit c.args.block.txns) (sym (c.as_slice-2.ensures ∙ c.in_ok-outcomes.ensures)) (agreed_fit c.args.block.txns c.args.agreed.now c.requires.long c.requires.fit))

pub append-requires-clause-outcomes : goal.append-requires-clause-outcomes
append-requires-clause-outcomes c = subst (AllFit c.args.block.txns) (sym c.in_ok-outcomes.ensures) (agreed_fit c.args.block.txns c.args.agreed.now c.requires.long c.requires.fit)
