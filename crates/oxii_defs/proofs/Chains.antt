-- A chain is told by its numbers and links.
use Rattle.std.proofs.Common.{◌≡◌, ℕ, zero, suc, ◌+◌, List, [], ◌∷◌, map, Some, slice_get, refl, sym, ap, ◌∙◌, subst, arith}
use Rattle.std.proofs.lemmas.Option.{none-some, same_Some}
use Rattle.txn_types.specs.declared.block.Block.{Block}
use Rattle.txn_types.specs.declared.block.Body.{Body}
use Rattle.oxii_defs.specs.Table.{Table}
use Rattle.oxii_defs.specs.BlockBytes.{block_hash}
use Rattle.oxii_defs.specs.Chain.{chain, chain_from, no_hash}
use Rattle.oxii_defs.specs.Laws.{ChainsAreMeant, IsChain, body_in_block}

-- the same from number n on, behind this hash
record IsChainFrom (table : Table) (n : ℕ) (prev : List ℕ) (bodies : List Body) (blocks : List Block) : Type 0 where
  carried : bodies ≡ map body_in_block blocks
  numbered : (m : ℕ) (b : Block) → slice_get blocks m ≡ Some b → b.number ≡ n + m
  first : (b : Block) → slice_get blocks 0 ≡ Some b → b.prev ≡ prev
  linked : (m : ℕ) (a b : Block) → slice_get blocks m ≡ Some a → slice_get blocks (suc m) ≡ Some b → b.prev ≡ block_hash table a

block_same : (b : Block) (n : ℕ) (prev : List ℕ) → b.number ≡ n → b.prev ≡ prev → b ≡ record { number = n; prev = prev; txns = b.txns; config = b.config }
block_same b n prev p q = ap (λ k. record { number = k; prev = b.prev; txns = b.txns; config = b.config }) p ∙ ap (λ h. record { number = n; prev = h; txns = b.txns; config = b.config }) q

cons_block : (b c : Block) (bs cs : List Block) → b ≡ c → bs ≡ cs → b ∷ bs ≡ c ∷ cs
cons_block b c bs cs p q = cc

-- the chain of what the blocks carry is the blocks
chain_is : (table : Table) (n : ℕ) (prev : List ℕ) (blocks : List Block) →
    ((m : ℕ) (b : Block) → slice_get blocks m ≡ Some b → b.number ≡ n + m) → ((b : Block) → slice_get blocks 0 ≡ Some b → b.prev ≡ prev) →
    ((m : ℕ) (a b : Block) → slice_get blocks m ≡ Some a → slice_get blocks (suc m) ≡ Some b → b.prev ≡ block_hash table a) →
    blocks ≡ chain_from table n prev (map body_in_block blocks)
chain_is table n prev [] numbered first linked = refl
chain_is table n prev (b ∷ rest) numbered first linked =
    let z : n + 0 ≡ n = omega arith in
    let e = block_same b n prev (numbered 0 b refl ∙ z) (first b refl) in
    let block : Block = record { number = n; prev = prev; txns = b.txns; config = b.config } in
    cons_block b block rest (chain_from table (suc n) (block_hash table block) (map body_in_block rest)) e
    (chain_is table (suc n) (block_hash table block) rest
    (λ m c at. let k : n + suc m ≡ suc n + m = omega arith in numbered (suc m) c at ∙ k)
    (λ c at. linked 0 b c refl at ∙ ap (block_hash table) e)
    (λ m a c at next. linked (suc m) a c at next))

-- and a chain is numbered and linked
is_chain : (table : Table) (n : ℕ) (prev : List ℕ) (bodies : List Body) → IsChainFrom table n prev bodies (chain_from table n prev bodies)
is_chain table n prev [] = record {
  carried = refl;
  numbered = λ m b at. absurd (none-some b at);
  first = λ b at. absurd (none-some b at);
  linked = λ m a b at next. absurd (none-some a at);
}
is_chain table n prev (body ∷ rest) =
    let block : Block = record { number = n; prev = prev; txns = body.txns; config = body.config } in
    let more = is_chain table (suc n) (block_hash table block) rest in
    record {
      carried = ap (λ bodies. body ∷ bodies) more.carried;
      numbered = numbered_here more;
      first = λ b at. ap (λ (c : Block). c.prev) (sym (same_Some block b at));
      linked = linked_here more;
    }
  where
    block_of : Block
    block_of = record { number = n; prev = prev; txns = body.txns; config = body.config }

    later : List Block
    later = chain_from table (suc n) (block_hash table block_of) rest

    numbered_here : IsChainFrom table (suc n) (block_hash table block_of) rest later → (m : ℕ) (b : Block) → slice_get (block_of ∷ later) m ≡ Some b → b.number ≡ n + m
    numbered_here more zero b at = let z : n ≡ n + 0 = omega arith in ap (λ (c : Block). c.number) (sym (same_Some block_of b at)) ∙ z
    numbered_here more (suc m) b at = let z : suc n + m ≡ n + suc m = omega arith in more.numbered m b at ∙ z

    linked_here : IsChainFrom table (suc n) (block_hash table block_of) rest later → (m : ℕ) (a b : Block) → slice_get (block_of ∷ later) m ≡ Some a → slice_get (block_of ∷ later) (suc m) ≡ Some b → b.prev ≡ block_hash table a
    linked_here more zero a b at next = more.first b next ∙ ap (block_hash table) (same_Some block_of a at)
    linked_here more (suc m) a b at next = more.linked m a b at next

pub chains_meant : ChainsAreMeant
chains_meant table bodies blocks = (forward, λ e. subst (IsChain table bodies) (sym e) back)
  where
    forward : IsChain table bodies blocks → blocks ≡ chain table bodies
    forward h =
        chain_is table 1 no_hash blocks (λ m b at. let z : m + 1 ≡ 1 + m = omega arith in h.numbered m b at ∙ z) h.first h.linked ∙ ap (chain table) (sym h.carried)

    back : IsChain table bodies (chain table bodies)
    back = let h = is_chain table 1 no_hash bodies in record {
      carried = h.carried;
      numbered = λ m b at. let z : 1 + m ≡ m + 1 = omega arith in h.numbered m b at ∙ z;
      first = h.first;
      linked = h.linked;
    }
