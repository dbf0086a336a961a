-- How a block stands, by what is known and agreed.
use Rattle.std.specs.Prelude.{ℕ, ◌≡◌, ◌<◌, ◌&&◌, Bool, List, [], ◌∷◌, length, get_or, Option, None, is_some}
use Rattle.txn_types.specs.declared.txn.Outcome.{Outcome}
use Rattle.txn_types.specs.declared.txn.Txn.{Txn}
use Rattle.known_defs.specs.Known.{txn_at}
use Rattle.node_defs.specs.Rules.{Rules}
use Rattle.node_defs.specs.Position.{Standing}
use Rattle.vote_book.specs.Puts.{Cast, cast_on}
use Rattle.peer_laws.specs.Turns.{agreed_in}

-- each application is one of so many
abbrev pub AppsFit : List Txn → ℕ → Type 0
AppsFit txns apps = (t : ℕ) → t < length txns → (txn_at txns t).app < apps

-- for each position what the votes on it agree
abbrev pub AreAgreedBy : Rules → ℕ → List Txn → List ℕ → List Cast → List (Option Outcome) → Type 0
AreAgreedBy r n txns voters puts all = (t : ℕ) → t < length txns → get_or all t None ≡ agreed_in r (txn_at txns t) (cast_on voters n t puts)

-- how a position stands
abbrev pub stand : Bool → Option Outcome → Option Outcome → Standing
stand own known agreed = record { ran = own && is_some known; agreed = agreed; believed = known }

-- how all stand
abbrev pub stand_all : List Bool → List (Option Outcome) → List (Option Outcome) → List Standing
stand_all (b ∷ own) (k ∷ known) (a ∷ agreed) = stand b k a ∷ stand_all own known agreed
stand_all _ _ _ = []
