-- What the check of `Scratch::set_local` leaves to show.
use Rattle.std.proofs.Common.{◌<◌, arith}
use Rattle.std.proofs.Math.Seq.{take-set-lt}
use Rattle.std.proofs.lemmas.List.{length-take}
use Rattle.txn_core.proofs.scratch.Scratch.set_local.Goals as goal

pub returns : goal.returns
returns c =
    let within = rw (← c.self.view_is) at c.requires in
    let below : c.args.slot < c.self.inside.depth = omega (arith, length-take c.self.inside.depth c.self.inside.locals) in
    rw (← c.self.view_is, take-set-lt c.self.inside.depth c.self.inside.locals c.args.slot c.args.value below)
