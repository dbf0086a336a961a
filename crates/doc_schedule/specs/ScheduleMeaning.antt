-- What a schedule says, key by key: no order of checks, and no faults.
use Rattle.std.specs.Prelude.{◌≡◌, ◌≤◌, ℕ, ◌+◌, List, [], ◌∷◌, codes, length, get_or, Option, Some, None, sum_by}
use Rattle.std.specs.List.{Contains, count_by}
use Rattle.serde_json.specs.Data.{Data, null, number, unsigned, object, Members}
use Rattle.serde_json.specs.Find.{get_member}
use Rattle.txn_types.specs.Values.{max_number, max_false}
use Rattle.hex.specs.Hex.{encode_lower, IsBytes}
use Rattle.txn_types.specs.declared.txn.Reason.{Reason}
use Rattle.txn_types.specs.declared.txn.Outcome.{Outcome}
use Rattle.txn_types.specs.declared.txn.Outcome.TheVariants.{Commit, Abort}
use Rattle.txn_types.specs.declared.message.Vote.{Vote}
use Rattle.txn_types.specs.declared.message.Commit.{Commit as Results}
use Rattle.txn_types.specs.declared.message.Node.{Node}
use Rattle.txn_types.specs.declared.stream.Piece.{Piece}
use Rattle.txn_types.specs.declared.event.Event.{Event}
use Rattle.txn_types.specs.declared.event.Event.TheVariants as event
use Rattle.oxii_defs.specs.Lines.{reason_word}
use Rattle.node_defs.specs.World.{MayBeNamed, is_all, is_false, items_named, votes_said}
use Rattle.node_defs.specs.Sayings.{txns_named}
use Rattle.doc_forms.specs.Meaning.{IsNameAt, IsNodeName, HasNumber, HasText, HasReference, HasOnly, HasList}

-- a position, which a document numbers from 1
abbrev pub HasPlace : ℕ → Option Data → ℕ → Type 0
HasPlace high v i = HasNumber 1 high v (i + 1)

-- what may be left out
abbrev pub MayHave : {X : Type 0} → (Data → X → Type 0) → Option Data → Option X → Type 0
MayHave Says None None = Unit {0}
MayHave Says (Some d) (Some x) = Says d x
MayHave Says _ _ = ⊥

-- the name of a faulty node
abbrev pub HasFaulty : List (List ℕ) → List (List ℕ) → List Node → Option Data → Node → Type 0
HasFaulty orderers peers faulty v node = HasReference (IsNodeName orderers peers) v node × Contains faulty node

-- ---- votes

-- null stands for "not written", and a whole number for itself
abbrev pub SaysWritten : Data → Option ℕ → Type 0
SaysWritten d None = d ≡ null
SaysWritten d (Some n) = d ≡ number (unsigned n)

-- `out`, or else `abort`
pub data SaysOutcome (ms : Members) : Outcome → Type 0 where
  commit : {outs : List (Option ℕ)} → HasList SaysWritten 0 16 (get_member (codes "out") ms) outs → HasOnly (codes "txn" ∷ codes "out" ∷ []) ms → SaysOutcome ms (Commit outs)
  abort : {why : Reason} → get_member (codes "out") ms ≡ None → HasText (get_member (codes "abort") ms) (reason_word why) → HasOnly (codes "txn" ∷ codes "abort" ∷ []) ms → SaysOutcome ms (Abort why)

pub record VoteKeys (ms : Members) (v : Vote) : Type 0 where
  pub txn : HasPlace 256 (get_member (codes "txn") ms) v.t
  pub outcome : SaysOutcome ms v.outcome

-- an object says a vote
abbrev pub SaysVote : Data → Vote → Type 0
SaysVote (object ms) v = VoteKeys ms v
SaysVote _ v = ⊥

-- ---- blocks

-- the number of an item of the stream that may be named among so many
abbrev pub SaysNamedItem : List (Option Piece) → ℕ → Data → ℕ → Type 0
SaysNamedItem pieces count d i = HasPlace (length pieces) (Some d) i × MayBeNamed count (get_or pieces i None)

-- 64 lower-case hexadecimal digits, of 32 bytes
abbrev pub SaysHash : Data → List ℕ → Type 0
SaysHash d bytes = HasText (Some d) (encode_lower bytes) × (length bytes ≡ 32) × IsBytes bytes

abbrev pub SaysPred : Data → ℕ → Type 0
SaysPred d p = HasPlace 256 (Some d) p

abbrev pub SaysPreds : Data → List ℕ → Type 0
SaysPreds d places = HasList SaysPred 0 256 (Some d) places

-- an array for each of so many transactions
abbrev pub SaysGraph : ℕ → Data → List (List ℕ) → Type 0
SaysGraph count d preds = HasList SaysPreds count count (Some d) preds

-- ---- events

pub record DeliverKeys (peers : List (List ℕ)) (ms : Members) (msg to : ℕ) : Type 0 where
  pub do_is : HasText (get_member (codes "do") ms) (codes "deliver")
  pub msg_is : HasNumber 1 4294967295 (get_member (codes "msg") ms) msg
  pub to_is : HasReference (IsNameAt peers) (get_member (codes "to") ms) to
  pub only : HasOnly (codes "do" ∷ codes "msg" ∷ codes "to" ∷ []) ms

pub record AllKeys (ms : Members) : Type 0 where
  pub do_is : HasText (get_member (codes "do") ms) (codes "all")
  pub only : HasOnly (codes "do" ∷ []) ms

pub record BlockKeys (orderers peers : List (List ℕ)) (faulty : List Node) (pieces : List (Option Piece)) (ms : Members)
    (from : Node) (n : ℕ) (prev : Option (List ℕ)) (items : List ℕ) (preds : Option (List (List ℕ))) : Type 0 where
  pub do_is : HasText (get_member (codes "do") ms) (codes "block")
  pub from_is : HasFaulty orderers peers faulty (get_member (codes "from") ms) from
  pub number_is : HasNumber 1 max_number (get_member (codes "number") ms) n
  pub txns_are : HasList (SaysNamedItem pieces (length items)) 1 256 (get_member (codes "txns") ms) items
  pub prev_is : MayHave SaysHash (get_member (codes "prev") ms) prev
  pub preds_are : MayHave (SaysGraph (length (txns_named pieces items))) (get_member (codes "preds") ms) preds
  pub only : HasOnly (codes "do" ∷ codes "from" ∷ codes "number" ∷ codes "txns" ∷ codes "prev" ∷ codes "preds" ∷ []) ms

pub record CommitKeys (orderers peers : List (List ℕ)) (faulty : List Node) (ms : Members) (from : Node) (results : Results) : Type 0 where
  pub do_is : HasText (get_member (codes "do") ms) (codes "commit")
  pub from_is : HasFaulty orderers peers faulty (get_member (codes "from") ms) from
  pub block_is : HasNumber 1 max_number (get_member (codes "block") ms) results.n
  pub votes_are : HasList SaysVote 0 256 (get_member (codes "votes") ms) results.votes
  pub only : HasOnly (codes "do" ∷ codes "from" ∷ codes "block" ∷ codes "votes" ∷ []) ms

-- an object says an event
pub data SaysEvent (orderers peers : List (List ℕ)) (faulty : List Node) (pieces : List (Option Piece)) : Data → Event → Type 0 where
  deliver : {ms : Members} {msg to : ℕ} → DeliverKeys peers ms msg to → SaysEvent orderers peers faulty pieces (object ms) (event.Deliver msg to)
  all : {ms : Members} → AllKeys ms → SaysEvent orderers peers faulty pieces (object ms) event.All
  block : {ms : Members} {from : Node} {n : ℕ} {prev : Option (List ℕ)} {items : List ℕ} {preds : Option (List (List ℕ))}
      → BlockKeys orderers peers faulty pieces ms from n prev items preds → SaysEvent orderers peers faulty pieces (object ms) (event.SayBlock from n prev items preds)
  commit : {ms : Members} {from : Node} {results : Results} → CommitKeys orderers peers faulty ms from results → SaysEvent orderers peers faulty pieces (object ms) (event.SayCommit from results)

-- the schedule: its events, with few `all` events and few false messages among them, and few items and votes in those
pub record SaysSchedule (orderers peers : List (List ℕ)) (faulty : List Node) (pieces : List (Option Piece)) (ms : Members) (events : List Event) : Type 0 where
  pub list : HasList (SaysEvent orderers peers faulty pieces) 0 65536 (get_member (codes "schedule") ms) events
  pub alls : count_by is_all events ≤ 8
  pub falses : count_by is_false events ≤ max_false
  pub txns : sum_by items_named events ≤ 16384
  pub votes : sum_by votes_said events ≤ 16384
