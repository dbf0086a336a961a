-- What is ready, as the contents of the entries that count.
use Rattle.std.specs.Prelude.{ℕ, ◌≡◌, Bool, true, List, Option, map, filter, reverse}
use Rattle.std.proofs.Common.{sym, ◌∙◌, ap}
use Rattle.txn_types.specs.declared.block.Block.{Block}
use Rattle.txn_types.specs.contracts.block.BlockPartialEq.TheImpl as block_impl
use Rattle.node_defs.specs.Same.{same_list, same_number, same_block}
use Rattle.node_defs.specs.Counting.{first_to_reach}
use Rattle.node_defs.specs.Accepted.{accepted}
use Rattle.node_defs.specs.Log.{Log}
use Rattle.node_defs.specs.Rules.{Rules}
use Rattle.node_defs.proofs.SameLemmas.{block_eq, same_list_decides, same_number_decides}
use Rattle.counting_laws.specs.Contents.{contents}
use Rattle.counting_laws.proofs.Reaching.{filter-map}
use Rattle.std.proofs.lemmas.Simd.{map-map}
use Rattle.newblock_quorum.specs.declared.entry.Received.{Received}
use Rattle.newblock_quorum.specs.Entries.{KeptNewBlocks, ready_of, received_for}
use Rattle.newblock_quorum.specs.Newblocks.{InboxStandsFor}

-- its block has this previous hash
abbrev pub is_behind : List ℕ → Received → Bool
is_behind prev e = same_list same_number e.block.prev prev

ready_is : (quorum : ℕ) (prev : List ℕ) (received : List Received) → first_to_reach (block_impl.ghosts).eq quorum (contents (λ e. e.block) (is_behind prev) received) ≡ ready_of quorum prev (map (λ e. (e.orderer, e.block)) received)
ready_is quorum prev received =
    let pair : Received → ℕ × Block = λ e. (e.orderer, e.block) in
    let follows : Block → Bool = λ b. same_list same_number b.prev prev in
    let counted = contents (λ (e : Received). e.block) (is_behind prev) received in
    sym (ap (λ bs. first_to_reach same_block quorum (filter follows bs)) (map-map (λ (x : ℕ × Block). x.1) pair received)
    ∙ (ap (first_to_reach same_block quorum) (filter-map (λ (e : Received). e.block) follows received)
    ∙ λ i. first_to_reach (λ a b. block_eq a b i) quorum counted))

-- where nothing is found or something is, it is what the log accepts
pub accepted_is : (inbox : KeptNewBlocks) (rules : Rules) (L : Log) (quorum n : ℕ) (prev : List ℕ) (received : List Received) (found : Option Block) → InboxStandsFor inbox rules L → inbox.quorum ≡ quorum → received ≡ received_for n inbox.entries →
    found ≡ first_to_reach (block_impl.ghosts).eq quorum (contents (λ e. e.block) (is_behind prev) (reverse received)) → found ≡ accepted rules n prev L
accepted_is inbox rules L quorum n prev received found s asked same is =
    is
    ∙ (ready_is quorum prev (reverse received)
    ∙ (ap (λ es. ready_of quorum prev (map (λ e. (e.orderer, e.block)) (reverse es))) same
    ∙ λ i. ready_of ((sym asked ∙ s.quorum_is) i) prev (s.counted n i)))

-- the previous hash of an entry that counts
pub linked_is : (prev : List ℕ) (e : Received) → is_behind prev e ≡ true → e.block.prev ≡ prev
linked_is prev e h = (same_list_decides same_number_decides e.block.prev prev).0 h
