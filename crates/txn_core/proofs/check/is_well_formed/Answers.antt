-- What the check of `is_well_formed` leaves to show.
use Rattle.std.proofs.Common.{◌≡◌, ◌≤◌, true, false, length, map, arith}
use Rattle.std.proofs.lemmas.List.{length-map}
use Rattle.txn_core.specs.Meant.{formal_of, op_of}
use Rattle.txn_core.specs.Checked.{all_differ}
use Rattle.txn_core.proofs.CheckLemmas.{not_differing, if_fine}
use Rattle.txn_core.proofs.check.is_well_formed.Goals as goal

pub returns-then-not-all_differ : goal.returns-then-not-all_differ
returns-then-not-all_differ c =
    let same : all_differ (map (λ p. p.name) (map formal_of c.args.op.now.params)) ≡ false = cc in not_differing (op_of c.args.op.now) same

pub returns : goal.returns
returns c =
    let few : length (map formal_of c.args.op.now.params) ≤ 16 = rw (length-map, ← c.as_slice-params.ensures) (omega (arith, c.if-params-gt16.false)) in
    let differ : all_differ (map (λ p. p.name) (map formal_of c.args.op.now.params)) ≡ true = cc in
    if_fine (op_of c.args.op.now) few differ c.all_fine.result (rw (c.as_slice-params.ensures, c.as_slice.ensures, c.new.ensures) at c.all_fine.ensures.verdict)
