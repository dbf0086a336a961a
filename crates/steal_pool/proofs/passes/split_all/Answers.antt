-- What the check of `split_all` leaves to show.
use Rattle.std.proofs.Common.{sym, subst, arith}
use Rattle.steal_pool.specs.Passes.{AreSplit}
use Rattle.steal_pool.proofs.PassLemmas.{one_split, none_split}
use Rattle.steal_pool.proofs.passes.split_all.Goals as goal

pub loop-init : goal.loop-init
loop-init g c =
    let first = g.W.Work.state c.args.first.now in
    let home = g.W.Work.home c.args.work.now in
    subst (λ passes. AreSplit g.W.Work.state home first passes 1) (sym c.new-passes.ensures.items) (none_split g.W.Work.state home first c.requires.of c.requires.first.0 c.requires.first.1)

pub loop-preserved : goal.loop-preserved
loop-preserved g c =
    let ok = c.in_ok-pass.ensures.ok in
    one_split g.W.Work.state (g.W.Work.home c.args.work.now) (g.W.Work.state c.loop.first) (g.W.Work.state c.split.new.pass) c.in_ok-pass.pass c.loop.passes.items c.push.new.self.items c.loop.counter ok.0 ok.1 c.in_ok-push.ensures.items c.loop.invariant

pub returns : goal.returns
returns g c = subst (AreSplit g.W.Work.state (g.W.Work.home c.args.work.now) (g.W.Work.state c.loop.first) c.loop.passes.items) (omega (arith, c.requires.few)) c.loop.invariant
