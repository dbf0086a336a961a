-- What an inbox keeps: how many orderers there are, the quorum, the kind of graphs, the counted NEWBLOCKs for each number, in the order of the puts, and marks of orderers that sent two different blocks for one number.
use Rattle.std.specs.Prelude.{ℕ, ◌==◌, ◌≡◌, ◌⊎◌, Bool, if◌then◌else◌, List, [], ◌∷◌, ◌++◌, map, reverse, filter, Option}
use Rattle.std.specs.List.{find, list_any}
use Rattle.std.specs.Option.{option_map}
use Rattle.keyed_lists.specs.Keyed.{IsPutAmong, items_of, list_at}
use Rattle.txn_types.specs.declared.txn.Kind.{Kind}
use Rattle.txn_types.specs.declared.block.Block.{Block}
use Rattle.oxii_defs.specs.Dependency.{graph_of}
use Rattle.node_defs.specs.Same.{same_list, same_number, same_block}
use Rattle.node_defs.specs.Counting.{first_to_reach}
use Rattle.txn_core.specs.Graphs.{Shape}
use Rattle.evidence_marks.specs.declared.evidence.OrdererMark.{OrdererMark}
use Rattle.evidence_marks.specs.Evidence.{orderer_order}
use Rattle.evidence_marks.specs.Marks.{MarksBehind}
use Rattle.newblock_quorum.specs.declared.entry.Received.{Received}
use Rattle.newblock_quorum.specs.declared.entry.NewBlockPut.{NewBlockPut}
use Rattle.newblock_quorum.specs.declared.entry.NewBlockPut.TheVariants.{Repeat, Counted}

pub record KeptNewBlocks : Type 0 where
  pub orderers : ℕ
  pub quorum : ℕ
  pub kind : Kind
  pub entries : List (ℕ × List Received)
  pub marks : List OrdererMark

-- the graph of an entry is its block's, of this kind
pub record HasGraph (kind : Kind) (e : Received) : Type 0 where
  pub kind_is : e.graph.kind ≡ kind
  pub lists_are : e.graph.preds ≡ graph_of kind e.block.txns

-- an entry for this number, with its graph
pub record IsKeptFor (kind : Kind) (n : ℕ) (e : Received) : Type 0 where
  pub number : e.block.number ≡ n
  pub graph : HasGraph kind e

-- the counted NEWBLOCKs for n, in the order of the puts
abbrev pub received_for : ℕ → List (ℕ × List Received) → List Received
received_for n entries = list_at (λ k. n == k) entries

-- these with their orderers, the latest first
abbrev pub kept_for : ℕ → List (ℕ × List Received) → List (ℕ × Block)
kept_for n entries = map (λ e. (e.orderer, e.block)) (reverse (received_for n entries))

-- the orderer has one of these NEWBLOCKs
abbrev pub has_sent : ℕ → List Received → Bool
has_sent o received = list_any (λ e. e.orderer == o) received

-- the orderer's block among these, if it has one
abbrev pub sent_by : ℕ → List Received → Option Block
sent_by o received = option_map (λ e. e.block) (find (λ e. e.orderer == o) received)

-- the first content with this previous hash that so many of these NEWBLOCKs carried, of which the latest is first
abbrev pub ready_of : ℕ → List ℕ → List (ℕ × Block) → Option Block
ready_of quorum prev kept = first_to_reach same_block quorum (filter (λ b. same_list same_number b.prev prev) (map (λ x. x.1) kept))

-- the answer to a good NEWBLOCK, where these are counted for its number
abbrev pub answer_in_inbox : ℕ → List Received → NewBlockPut
answer_in_inbox o received = if has_sent o received then Repeat else Counted

-- these NEWBLOCKs and one after them, unless its orderer has one of them
abbrev pub with_received : Received → List Received → List Received
with_received e received = if has_sent e.orderer received then received else received ++ e ∷ []

-- the blocks of the counted NEWBLOCKs, number by number
abbrev pub blocks_of : List (ℕ × List Received) → List Block
blocks_of entries = map (λ e. e.block) (items_of entries)

-- what is kept after a NEWBLOCK with this block, whatever the answer: the blocks that were kept, or this one besides
pub record KeepsWith (old : KeptNewBlocks) (block : Block) (new : KeptNewBlocks) : Type 0 where
  pub orderers : new.orderers ≡ old.orderers
  pub quorum : new.quorum ≡ old.quorum
  pub kind : new.kind ≡ old.kind
  pub blocks : (blocks_of new.entries ≡ blocks_of old.entries) ⊎ IsPutAmong (blocks_of old.entries) block (blocks_of new.entries)

-- what is kept after a good NEWBLOCK: it counts or marks its orderer for its number, and for others nothing changes
pub record IsBehindNewBlock (old : KeptNewBlocks) (o : ℕ) (block : Block) (graph : Shape) (new : KeptNewBlocks) : Type 0 where
  pub keeps : KeepsWith old block new
  pub marks : MarksBehind same_block orderer_order old.marks (record { orderer = o; n = block.number }) (sent_by o (received_for block.number old.entries)) block new.marks
  pub entries : (m : ℕ) → received_for m new.entries ≡ (if block.number == m then with_received (record { orderer = o; block = block; graph = graph }) (received_for m old.entries) else received_for m old.entries)
