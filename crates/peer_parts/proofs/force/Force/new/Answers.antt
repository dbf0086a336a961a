-- What the check of `Force::new` leaves to show.
use Rattle.std.proofs.Common.{List, ℕ, ◌++◌, ◌∷◌, ◌<◌, map, sym, ◌∙◌, ap, subst, arith, []}
use Rattle.std.specs.List.{All}
use Rattle.std.proofs.lemmas.List.{take_all}
use Rattle.std.proofs.lemmas.List.Elements.{All-nil}
use Rattle.oxii_defs.specs.Lawful.{IsLawfulApp}
use Rattle.txn_core.specs.MeantTable.{app_of, table_of}
use Rattle.peer_parts.specs.declared.force.Seats.{Seats}
use Rattle.peer_parts.specs.InForce.{AreCounted}
use Rattle.peer_parts.proofs.ForceLemmas.{code_seats, seats_same, one_seat}
use Rattle.peer_parts.proofs.force.Force.new.Goals as goal

pub loop-app-init : goal.loop-app-init
loop-app-init c = record { seats = c.new-seats.ensures; counted = subst AreCounted (sym c.new-seats.ensures) (All-nil (λ (s : Seats). 0 < s.tau)) }

pub loop-app-preserved : goal.loop-app-preserved
loop-app-preserved c =
    let apps = c.as_slice-app-items.result.now in
    let t = table_of c.args.table.now in
    let r = one_seat t apps c.loop-app.app-index c.app-item.result c.loop-app.seats c.push.new.self (omega arith) c.app-item.is
    (subst (λ xs. All (IsLawfulApp t) (map app_of xs)) (sym c.as_slice-app-items.ensures) c.requires.lawful_apps) c.loop-app.invariant.seats c.loop-app.invariant.counted (c.in_ok-push.ensures.ok ∙ ap (λ (xs : List ℕ). c.loop-app.seats ++ record { agents = xs; tau = c.app-item.result.tau } ∷ []) c.copy.ensures) in
    record { seats = r.0; counted = r.1 }

pub invariant_of-result : goal.invariant_of-result
invariant_of-result c = c.loop-app.invariant.counted

pub returns : goal.returns
returns c =
    c.loop-app.invariant.seats ∙ (ap (map code_seats) (take_all c.loop-app.app-index c.as_slice-app-items.result.now (omega arith) ∙ c.as_slice-app-items.ensures) ∙ seats_same c.args.table.now.apps)
