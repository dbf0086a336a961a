-- What the check of `inputs_of` leaves to show.
use Rattle.std.proofs.Common.{◌≤◌, sym, slice_index, subst}
use Rattle.txn_types.specs.Values.{max_value}
use Rattle.txn_core.proofs.StateLemmas.{input_is, value_small}
use Rattle.txn_core.proofs.serial.inputs_of.Goals as goal

pub returns-clause-range : goal.returns-clause-range
returns-clause-range c i lt =
    subst (λ n. n ≤ max_value) (sym (input_is c.args.values.now c.args.txn.now.reads _ i (rw c.as_slice.ensures.items at c.values_at.ensures) lt)) (value_small c.args.values.now (slice_index c.args.txn.now.reads i) c.as_slice.ensures.values)
