-- Votes put into a book.
use Rattle.std.specs.Prelude.{ℕ, zero, suc, ◌&&◌, ◌||◌, not, Bool, true, false, if◌then◌else◌, List, [], ◌∷◌, ◌++◌, get_or, Option, Some, None, is_some}
use Rattle.txn_types.specs.declared.txn.Outcome.{Outcome}
use Rattle.txn_types.specs.declared.message.Node.{Node}
use Rattle.txn_types.specs.declared.message.Node.TheVariants.{Peer}
use Rattle.txn_types.specs.declared.message.Vote.{Vote}
use Rattle.vote_book.specs.declared.ballot.VotePut.{VotePut}
use Rattle.vote_book.specs.declared.ballot.VotePut.TheVariants.{Counted, Repeat, Stranger}
use Rattle.vote_book.specs.Puts.{Cast, cast_of, answer_to_vote, voter_of, cast_on}

-- these puts, after the votes of a message
abbrev pub with_casts : Node → ℕ → List Vote → List Cast → List Cast
with_casts from n [] puts = puts
with_casts from n (v ∷ rest) puts = with_casts from n rest (cast_of from n v.t v.outcome ∷ puts)

abbrev pub is_counted : VotePut → Bool
is_counted Counted = true
is_counted Repeat = false
is_counted Stranger = false

-- one of the votes is the first of its sender on its position
abbrev pub any_new : List ℕ → Node → ℕ → List Vote → List Cast → Bool
any_new voters from n [] puts = false
any_new voters from n (v ∷ rest) puts =
    is_counted (answer_to_vote (voter_of voters from) (cast_on voters n v.t puts)) || any_new voters from n rest (cast_of from n v.t v.outcome ∷ puts)

-- this peer's vote on a position that has just run
abbrev pub own_casts : ℕ → ℕ → ℕ → Bool → Option Outcome → Option Outcome → List Cast
own_casts me n t own before None = []
own_casts me n t own before (Some o) = if own && not (is_some before) then cast_of (Peer me) n t o ∷ [] else []

-- its votes on the first t positions, after these puts
abbrev pub own_upto : ℕ → ℕ → List Bool → List (Option Outcome) → List (Option Outcome) → ℕ → List Cast → List Cast
own_upto me n own before after zero puts = puts
own_upto me n own before after (suc t) puts = own_casts me n t (get_or own t false) (get_or before t None) (get_or after t None) ++ own_upto me n own before after t puts
