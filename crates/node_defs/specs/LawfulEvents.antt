-- Lawful events: what they name is there, and what faulty nodes say fits the table.
use Rattle.std.specs.Prelude.{ℕ, ◌≡◌, ◌≤◌, ◌<◌, true, List, length, get_or, Option, None, sum_by, IfSome}
use Rattle.std.specs.List.{All, count_by}
use Rattle.txn_types.specs.Values.{max_number, max_false}
use Rattle.txn_types.specs.declared.txn.Outcome.{Outcome}
use Rattle.txn_types.specs.declared.txn.Outcome.TheVariants as outcome
use Rattle.txn_types.specs.declared.message.Node.{Node}
use Rattle.txn_types.specs.declared.message.Vote.{Vote}
use Rattle.txn_types.specs.declared.message.Commit.{Commit}
use Rattle.txn_types.specs.declared.event.Event.{Event}
use Rattle.txn_types.specs.declared.event.Event.TheVariants as event
use Rattle.node_defs.specs.Sayings.{txns_named}
use Rattle.node_defs.specs.World.{Setting, is_faulty, peers_of, MayBeNamed, is_all, is_false, items_named, votes_said}

-- a faulty node alone says what it likes: what is said is of a faulty node
abbrev pub IsSaidByFaulty : Setting → Event → Type 0
IsSaidByFaulty s (event.SayBlock from number prev items preds) = is_faulty s from ≡ true
IsSaidByFaulty s (event.SayCommit from commit) = is_faulty s from ≡ true
IsSaidByFaulty s _ = Unit {0}

-- the items of a false block: 1 to 256, admitted requests or one configuration
pub record AreNamed (s : Setting) (items : List ℕ) : Type 0 where
  pub some : 1 ≤ length items
  pub few : length items ≤ 256
  pub each : All (λ i. MayBeNamed (length items) (get_or s.pieces i None)) items

-- the predecessors that a false block may give so many transactions: for each of them at most 256 positions, the last of which is 255
pub record AreSaidPreds (count : ℕ) (preds : List (List ℕ)) : Type 0 where
  pub one_each : length preds ≡ count
  pub few : All (λ ps. length ps ≤ 256) preds
  pub positions : All (All (λ p. p < 256)) preds

-- a faulty node says a block with a number that a chain can have; a hash that it gives has 32 bytes
pub record IsLawfulFalseBlock (s : Setting) (from : Node) (number : ℕ) (prev : Option (List ℕ)) (items : List ℕ) (preds : Option (List (List ℕ))) : Type 0 where
  pub from_faulty : is_faulty s from ≡ true
  pub number_from : 1 ≤ number
  pub number_to : number ≤ max_number
  pub hash : IfSome prev (λ h. length h ≡ 32)
  pub named : AreNamed s items
  pub graph : IfSome preds (AreSaidPreds (length (txns_named s.pieces items)))

-- an outcome that a false vote may give: it may fit no transaction, and has at most 16 entries
abbrev pub IsSaidOutcome : Outcome → Type 0
IsSaidOutcome (outcome.Commit entries) = length entries ≤ 16
IsSaidOutcome (outcome.Abort why) = Unit {0}

-- a vote of a false COMMIT: on a position that a block can have
pub record IsSaidVote (v : Vote) : Type 0 where
  pub position : v.t < 256
  pub outcome : IsSaidOutcome v.outcome

-- a faulty node says results of a block with a number that a chain can have
pub record IsLawfulFalseCommit (s : Setting) (from : Node) (commit : Commit) : Type 0 where
  pub from_faulty : is_faulty s from ≡ true
  pub number_from : 1 ≤ commit.n
  pub number_to : commit.n ≤ max_number
  pub few : length commit.votes ≤ 256
  pub votes : All IsSaidVote commit.votes

-- an event that a world can take: a delivery is to a peer of the table, and false messages are as above
abbrev pub IsLawfulEvent : Setting → Event → Type 0
IsLawfulEvent s (event.Deliver msg to) = to < peers_of s
IsLawfulEvent s event.All = Unit {0}
IsLawfulEvent s (event.SayBlock from number prev items preds) = IsLawfulFalseBlock s from number prev items preds
IsLawfulEvent s (event.SayCommit from commit) = IsLawfulFalseCommit s from commit

-- a schedule as a document can hold it: lawful events, and not too many of each sort
pub record AreLawfulEvents (s : Setting) (events : List Event) : Type 0 where
  pub each : All (IsLawfulEvent s) events
  pub count : length events ≤ 65536
  pub alls : count_by is_all events ≤ 8
  pub falses : count_by is_false events ≤ max_false
  pub items : sum_by items_named events ≤ 16384
  pub votes : sum_by votes_said events ≤ 16384
