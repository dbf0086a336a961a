-- What the check of `write_all` leaves to show.
use Rattle.std.proofs.Common.{arith, ◌++◌, take}
use Rattle.std.proofs.KnownBytes.{Appends-trans}
use Rattle.par_io.proofs.Splits.{split_more}
use Rattle.par_io.proofs.sink.write_all.Goals as goal

pub loop-rest-preserved : goal.loop-rest-preserved
loop-rest-preserved g c = record {
  later = omega (arith, c.in_ok-n.ensures.cause.later);
  done = (
    c.loop-rest.invariant.done.0 ++ take c.in_ok-n.n c.loop-rest.rest.now,
    split_more c.loop-rest.invariant.done.0 c.loop-rest.rest.now c.args.bytes.now c.in_ok-n.n (omega (arith, c.in_ok-n.ensures.bound)) c.loop-rest.invariant.done.1,
    Appends-trans _ _ _ _ _ c.loop-rest.invariant.done.2 c.in_ok-n.ensures.bytes,
  );
}
