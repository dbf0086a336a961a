-- What the check of `gather` leaves to show.
use Rattle.std.proofs.Common.{◌∙◌, arith, None, get_or, refl}
use Rattle.board_words.proofs.Gathered.{gather_step, fills_count}
use Rattle.board_words.proofs.closing.gather.Goals as goal

pub put_run-count-requires : goal.put_run-count-requires
put_run-count-requires c =
    let i = c.loop-t.invariant in
    let i0 = i.0 in
    let i1 = i.1 in
    let r0 = c.requires.0 in
    let r1 = c.requires.1 in
    let test = c.loop-t-test.true in (omega arith, omega arith)

pub loop-t-preserved : goal.loop-t-preserved
loop-t-preserved c =
    let i = c.loop-t.invariant in
    let i0 = i.0 in
    let i1 = i.1 in
    let r0 = c.requires.0 in
    let test = c.loop-t-test.true in
    let run = get_or c.args.runs.now c.loop-t.t None in
    let up = fills_count run c.loop-t.count c.put_run-count.result c.loop-t.trace c.put_run-count.new.trace c.put_run-count.ensures.put in (
      c.put_run-count.ensures.same ∙ i.0,
      omega arith,
      gather_step run c.loop-t.count c.put_run-count.result c.loop-t.t c.loop-t.trace c.put_run-count.new.trace c.args.runs.now refl c.put_run-count.ensures.put (omega arith) i.2,
    )
