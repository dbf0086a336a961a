-- What the check of `Scratch::write` leaves to show.
use Rattle.std.proofs.Common.{◌≡◌, ◌≤◌, length, Some, None, arith, refl}
use Rattle.txn_core.specs.Frames.{place}
use Rattle.txn_core.proofs.WrittenLemmas.{set-written_of, contains_is}
use Rattle.txn_core.proofs.scratch.Scratch.write.Goals as goal

pub returns-in-Some : goal.returns-in-Some
returns-in-Some c =
    let at : place c.self.inside.writes c.args.number ≡ Some c.in-Some.at = cc in
    let room : length c.self.inside.writes ≤ length c.self.inside.values = omega arith in
    let same = set-written_of c.self.inside.writes c.self.inside.values c.args.number c.in-Some.at c.args.value at room in
    rw (← c.self.view_is, contains_is, at, same)

pub returns-in-None : goal.returns-in-None
returns-in-None c =
    let at : place c.self.inside.writes c.args.number ≡ None = cc in
    rw (← c.self.view_is, contains_is, at) (refl, refl)
