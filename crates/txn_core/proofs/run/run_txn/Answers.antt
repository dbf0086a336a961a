-- What the check of `run_txn` leaves to show.
use Rattle.std.proofs.Common.{◌∙◌, sym, ap, subst}
use Rattle.txn_types.specs.declared.txn.Outcome.TheVariants.{Commit}
use Rattle.txn_types.specs.Fitting.{Fits}
use Rattle.oxii_defs.specs.WellFormed.{start_of}
use Rattle.txn_core.specs.Meant.{op_of, stmts_of}
use Rattle.txn_core.proofs.RunLemmas.{all_slots_of}
use Rattle.txn_core.proofs.InputLemmas.{outcome_run, fit_given}
use Rattle.txn_core.proofs.run.run_txn.Goals as goal

pub run-requires-clause-slots : goal.run-requires-clause-slots
run-requires-clause-slots c = rw (c.begin.ensures, c.as_slice-4.ensures) (all_slots_of (start_of (op_of c.args.op.now)) (op_of c.args.op.now).body c.requires.well_formed.body)

pub returns-in-Ok-clause-meaning : goal.returns-in-Ok-clause-meaning
returns-in-Ok-clause-meaning c s same =
    ap Commit c.writes.ensures
    ∙ outcome_run (op_of c.args.op.now).body c.args.txn.now s _ same
    c.as_slice.ensures.items c.as_slice-2.ensures.items c.as_slice-3.ensures (ap stmts_of c.as_slice-4.ensures) c.begin.ensures c.in-Ok.ensures.meaning

pub returns-in-Err-clause-meaning : goal.returns-in-Err-clause-meaning
returns-in-Err-clause-meaning c s same =
    outcome_run (op_of c.args.op.now).body c.args.txn.now s _ same
    c.as_slice.ensures.items c.as_slice-2.ensures.items c.as_slice-3.ensures (ap stmts_of c.as_slice-4.ensures) c.begin.ensures c.in-Err.ensures.meaning

pub returns-in-Ok-clause-fits : goal.returns-in-Ok-clause-fits
returns-in-Ok-clause-fits c =
    subst (Fits c.args.txn.now) (sym (ap Commit c.writes.ensures))
    (fit_given (op_of c.args.op.now) c.args.txn.now _ c.requires.well_formed c.requires.args c.requires.inputs
    c.as_slice.ensures.items c.as_slice-2.ensures.items c.as_slice-3.ensures (ap stmts_of c.as_slice-4.ensures) c.begin.ensures c.in-Ok.ensures.meaning)
