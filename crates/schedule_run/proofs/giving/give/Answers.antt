-- What the check of `give` leaves to show.
use Rattle.std.specs.Prelude.{◌≡◌, Some, refl}
use Rattle.std.proofs.Common.{sym, ◌∙◌, ap, subst}
use Rattle.node_defs.specs.Log.{Letter}
use Rattle.peer_turns.specs.Relation.{letter_from}
use Rattle.world_laws.specs.Shown.{Gave, Takes}
use Rattle.schedule_run.proofs.giving.give.Goals as goal

pub returns-in_ok-next-in-Some : goal.returns-in_ok-next-in-Some
returns-in_ok-next-in-Some g c =
    let e = c.in_ok-next-in-Some.ensures in
    let x : Letter = c.args.letter.now in
    let p = c.in-Some.peer in
    let q = c.in_ok-next-in-Some.next in
    let took = c.in_ok-next-in-Some.took in
    let same : letter_from c.from.result c.message.result.now ≡ x = ap (λ a. letter_from a c.message.result.now) c.from.ensures ∙ ap (λ m. letter_from x.from m) c.message.ensures in
    let takes : Takes c.args.workers (letter_from c.from.result c.message.result.now) p q took.sent took.spans =
    record { table_is = e.table; me_is = e.me; stands = e.stands; sends = e.sent; traced = e.spans } in
    record {
      gave = subst (λ o. Gave c.args.workers x o (Some q) took.sent took.spans) (sym c.in-Some.is ∙ c.take.ensures.value)
          (q, refl, subst (λ y. Takes c.args.workers y p q took.sent took.spans) same takes);
    }
