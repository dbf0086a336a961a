-- What a table says of agents and thresholds.
use Rattle.std.specs.Prelude.{ℕ, ◌≡◌, ◌<◌, ◌+◌, List, [], ◌∷◌, ◌++◌, length, map, take, get_or, refl}
use Rattle.std.specs.List.{All}
use Rattle.std.proofs.Common.{sym, ◌∙◌, ap, subst, arith}
use Rattle.std.proofs.lemmas.List.{take_more, map_push, length-map, get_or-map}
use Rattle.std.proofs.lemmas.List.Elements.{All-push}
use Rattle.oxii_defs.specs.Table as meant
use Rattle.oxii_defs.specs.Lawful.{IsLawfulApp}
use Rattle.txn_core.specs.declared.table.App.{App}
use Rattle.txn_core.specs.MeantTable.{app_of}
use Rattle.peer_parts.specs.declared.force.Seats.{Seats}
use Rattle.peer_parts.specs.InForce.{AreCounted, seats_of}

abbrev pub code_seats : App → Seats
code_seats app = record { agents = app.agents; tau = app.tau }

pub seats_same : (apps : List App) → map code_seats apps ≡ map seats_of (map app_of apps)
seats_same [] = refl
seats_same (a ∷ rest) = ap (λ xs. code_seats a ∷ xs) (seats_same rest)

pub one_seat : (table : meant.Table) (apps : List App) (i : ℕ) (app : App) (xs ys : List Seats) → i < length apps → app ≡ get_or apps i app → All (IsLawfulApp table) (map app_of apps)
    → (xs ≡ map code_seats (take i apps)) → AreCounted xs → ys ≡ xs ++ code_seats app ∷ [] → (ys ≡ map code_seats (take (i + 1) apps)) × AreCounted ys
one_seat table apps i app xs ys l e lawful same counted more = (
  more ∙ (ap (λ zs. zs ++ code_seats app ∷ []) same ∙ (sym (map_push code_seats (take i apps) app) ∙ ap (map code_seats) (ap (λ a. take i apps ++ a ∷ []) e ∙ sym (take_more apps i app l)))),
  subst AreCounted (sym more) (All-push (λ (s : Seats). 0 < s.tau) xs (code_seats app) counted some),
)
  where
    here : IsLawfulApp table (app_of app)
    here = subst (IsLawfulApp table) (get_or-map app_of apps i app (app_of app) l ∙ ap app_of (sym e)) (lawful i (app_of app) (omega (arith, l, length-map apps app_of)))

    some : 0 < app.tau
    some = here.agents.votes.0
