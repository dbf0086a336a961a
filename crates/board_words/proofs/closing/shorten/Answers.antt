-- What the check of `shorten` leaves to show.
use Rattle.std.proofs.Common.{◌∙◌, ap, sym, take, length, arith}
use Rattle.std.proofs.lemmas.List.{take_all}
use Rattle.board_words.proofs.Gathered.{shorten_step}
use Rattle.board_words.proofs.closing.shorten.Goals as goal

pub loop-init : goal.loop-init
loop-init c = let all = c.args.trace.now in (omega arith, sym (take_all (length all) all (omega arith)))

pub loop-preserved : goal.loop-preserved
loop-preserved c =
    let i = c.loop.invariant in
    let i0 = i.0 in
    let test = c.loop-test.true in
    let all = c.requires in
    let len = c.len.ensures in
    let s = shorten_step c.pop.result c.loop.trace c.pop.new.self c.args.trace.now c.pop.ensures (omega arith) i.1 in
    let s0 = s.0 in (omega arith, s.1)

pub returns : goal.returns
returns c =
    let i = c.loop.invariant in
    let i0 = i.0 in
    let test = c.loop-test.false in
    let auto = c.loop.auto in
    let len = c.len.ensures in
    i.1 ∙ ap (λ k. take k c.args.trace.now) (omega arith)
