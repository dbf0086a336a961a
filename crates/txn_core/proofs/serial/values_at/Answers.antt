-- What the check of `values_at` leaves to show.
use Rattle.std.proofs.Common.{◌<◌, ◌∙◌, sym, ap, arith, [], ◌∷◌, ◌++◌, length, slice_index, take, map}
use Rattle.std.proofs.lemmas.List.{take_more, take_more_set, map-append}
use Rattle.std.proofs.Math.ListN.{length-set}
use Rattle.txn_core.proofs.serial.values_at.Goals as goal

pub loop-i-preserved : goal.loop-i-preserved
loop-i-preserved c =
    let room : c.loop-i.i < length c.loop-i.inputs = omega (arith, c.loop-i.invariant.2, c.as_slice-reads.ensures.room, ap length c.as_slice-reads.ensures.items) in (
      take_more_set c.loop-i.inputs c.loop-i.i _ room
          ∙ ap (λ l. l ++ slice_index c.args.values.now (slice_index c.as_slice-reads.result.now c.loop-i.i) ∷ []) c.loop-i.invariant.0
          ∙ sym (ap (map (slice_index c.args.values.now)) (take_more c.as_slice-reads.result.now c.loop-i.i 0 c.loop-i-test.true)
          ∙ map-append (slice_index c.args.values.now) (take c.loop-i.i c.as_slice-reads.result.now) _),
      c.loop-i.invariant.1,
      length-set c.loop-i.inputs c.loop-i.i _ ∙ c.loop-i.invariant.2,
    )
