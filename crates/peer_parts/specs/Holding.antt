-- What is held and cut, position by position.
use Rattle.std.specs.Prelude.{ℕ, zero, suc, ◌&&◌, ◌||◌, not, Bool, true, false, if◌then◌else◌, List, [], ◌∷◌, ◌++◌, length, get_or, nat_lt, Option, None, is_some}
use Rattle.txn_types.specs.declared.txn.Outcome.{Outcome}
use Rattle.txn_types.specs.declared.txn.Txn.{Txn}
use Rattle.txn_types.specs.declared.txn.Kind.{Kind}
use Rattle.txn_types.specs.declared.message.Vote.{Vote}
use Rattle.txn_types.specs.declared.message.Commit.{Commit}
use Rattle.oxii_defs.specs.Dependency.{graph_of}
use Rattle.known_defs.specs.Known.{txn_at}
use Rattle.node_defs.specs.Sent.{other_app_follows}

-- it isn't this peer's, or it ran before, or it has run by t
abbrev pub not_left : List Bool → List (Option Outcome) → List (Option Outcome) → ℕ → ℕ → Bool
not_left own before after t u = not (get_or own u false) || (is_some (get_or before u None) || (not (nat_lt t u) && is_some (get_or after u None)))

-- none of the first n positions is left to run, once those up to t have
abbrev pub none_left : List Bool → List (Option Outcome) → List (Option Outcome) → ℕ → ℕ → Bool
none_left own before after t zero = true
none_left own before after t (suc u) = not_left own before after t u && none_left own before after t u

-- whether a cut is after t, once those up to t have run
abbrev pub cut_behind : Kind → List Txn → List Bool → List (Option Outcome) → List (Option Outcome) → ℕ → Bool
cut_behind kind txns own before after t = other_app_follows t (txn_at txns t).app (graph_of kind txns) txns || none_left own before after t (length own)

-- it has just run
abbrev pub has_just : List Bool → List (Option Outcome) → List (Option Outcome) → ℕ → Bool
has_just own before after t = (get_or own t false && is_some (get_or after t None)) && not (is_some (get_or before t None))

-- one vote more is held, and cut where a cut follows
abbrev pub held_if : Bool → Vote → List Vote → List Vote
held_if cut v held = if cut then [] else held ++ v ∷ []

abbrev pub sent_if : ℕ → Bool → Vote → List Vote → List Commit → List Commit
sent_if n cut v held sent = if cut then sent ++ record { n = n; votes = held ++ v ∷ [] } ∷ [] else sent
