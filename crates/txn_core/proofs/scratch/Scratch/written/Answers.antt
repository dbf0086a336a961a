-- What the check of `Scratch::written` leaves to show.
use Rattle.std.proofs.Common.{ap, sym, ◌∙◌, ◌≡◌, ◌≤◌, length, Some, None, arith}
use Rattle.txn_core.specs.Frames.{place}
use Rattle.txn_core.proofs.WrittenLemmas.{get-written_of, found}
use Rattle.txn_core.proofs.scratch.Scratch.written.Goals as goal

pub returns-in-Some : goal.returns-in-Some
returns-in-Some c =
    let at : place c.self.inside.writes c.args.number ≡ Some c.in-Some.at = cc in
    let room : length c.self.inside.writes ≤ length c.self.inside.values = omega arith in
    rw (← c.self.view_is) (sym (get-written_of _ _ c.args.number room ∙ ap (λ o. found o c.self.inside.values) at))

pub returns-in-None : goal.returns-in-None
returns-in-None c =
    let at : place c.self.inside.writes c.args.number ≡ None = cc in
    let room : length c.self.inside.writes ≤ length c.self.inside.values = omega arith in
    rw (← c.self.view_is) (sym (get-written_of _ _ c.args.number room ∙ ap (λ o. found o c.self.inside.values) at))
