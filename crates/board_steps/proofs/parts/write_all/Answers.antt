-- What the check of `write_all` leaves to show.
use Rattle.std.proofs.Common.{◌≡◌, ◌∙◌, ap, sym, Some}
use Rattle.txn_types.specs.declared.txn.Outcome.TheVariants.{Commit}
use Rattle.board_steps.specs.Abouts.{told}
use Rattle.board_work.specs.Scripts.{outcome_at}
use Rattle.board_steps.proofs.PartFacts.{entries_meant, entries_written}
use Rattle.board_steps.proofs.parts.write_all.Goals as goal

pub write_entries-requires-clause-meant : goal.write_entries-requires-clause-meant
write_entries-requires-clause-meant c = λ k x l e.
    let p = told c.args.words.now.key in
    let is : outcome_at p c.args.t ≡ Some (Commit c.as_slice.result.now) = c.requires.meant ∙ (ap Some c.in-Commit.is ∙ ap (λ cells. Some (Commit cells)) (sym c.as_slice.ensures.items)) in
    entries_meant p c.args.t c.as_slice.result.now c.args.records.now k x is c.requires.records.0 c.requires.records.1 l e

pub returns-in-Commit-clause-written : goal.returns-in-Commit-clause-written
returns-in-Commit-clause-written c = λ r g.
    let p = told c.args.words.now.key in
    let is : outcome_at p c.args.t ≡ Some (Commit c.as_slice.result.now) = c.requires.meant ∙ (ap Some c.in-Commit.is ∙ ap (λ cells. Some (Commit cells)) (sym c.as_slice.ensures.items)) in
    entries_written p c.args.t c.as_slice.result.now c.args.records.now c.args.seat.now.me.0 c.write_entries.new.seat.me.0 is c.requires.records.0 c.write_entries.ensures.wrote r g
