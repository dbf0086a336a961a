-- What the check of `known_values` leaves to show.
use Rattle.std.proofs.Common.{◌∙◌, ◌<◌, sym, ap, subst, length, slice_index, arith}
use Rattle.txn_types.specs.Fitting.{Fits}
use Rattle.txn_types.specs.declared.txn.Txn.{Txn}
use Rattle.txn_core.specs.States.{state_of}
use Rattle.board_work.specs.Scripts.{apply_known}
use Rattle.script_laws.proofs.States.{after_nothing}
use Rattle.board_words.proofs.Filling.{txn_is, known_is_at, known_step}
use Rattle.board_words.proofs.values.known_values.Goals as goal

pub loop-t-init : goal.loop-t-init
loop-t-init c = (ap length c.in_ok-values.ensures, ap state_of c.in_ok-values.ensures ∙ sym (after_nothing (state_of c.args.base.now) c.args.txns.now))

pub apply_one-requires-clause-fits : goal.apply_one-requires-clause-fits
apply_one-requires-clause-fits c = λ o is.
    let x = txn_is c.args.txns.now c.loop-t.t c.index-txns-t.result c.loop-t-test.true c.index-txns-t.is in
    subst (λ (y : Txn). Fits y o) (sym x) (c.requires.fits c.loop-t.t o (sym (known_is_at c.args.known.now c.loop-t.t c.index-known-t.result (omega (arith, c.loop-t-test.true, c.requires.long)) c.index-known-t.is) ∙ is))

pub apply_one-requires-clause-records : goal.apply_one-requires-clause-records
apply_one-requires-clause-records c =
    let x = txn_is c.args.txns.now c.loop-t.t c.index-txns-t.result c.loop-t-test.true c.index-txns-t.is in
    subst (λ (y : Txn). (i : _) → i < length y.writes → slice_index y.writes i < length c.loop-t.values) (sym x) (λ i l. let a = c.requires.records c.loop-t.t i l in let b = c.loop-t.invariant.0 in omega arith)

pub loop-t-preserved : goal.loop-t-preserved
loop-t-preserved c = (
  c.apply_one.ensures.length ∙ c.loop-t.invariant.0,
  c.apply_one.ensures.state ∙ (ap (λ s. apply_known s c.index-txns-t.result c.index-known-t.result) c.loop-t.invariant.1
      ∙ sym (known_step (state_of c.args.base.now) c.args.txns.now c.args.known.now c.loop-t.t c.index-txns-t.result c.index-known-t.result c.loop-t-test.true (omega (arith, c.loop-t-test.true, c.requires.long)) c.index-txns-t.is c.index-known-t.is)),
)
