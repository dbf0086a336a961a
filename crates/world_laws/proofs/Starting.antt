-- The peers and the messages before the first event, as they come one after another.
use Rattle.std.specs.Prelude.{ℕ, suc, ◌+◌, ◌≡◌, ◌<◌, true, false, cond, List, [], ◌∷◌, ◌++◌, get_or, Option, None}
use Rattle.std.proofs.Common.{sym, ◌∙◌, ap, subst, arith, ⊎_elim}
use Rattle.std.proofs.Math.Seq.{get_or-append_seam}
use Rattle.std.proofs.lemmas.Bool.{cases_eq}
use Rattle.std.proofs.lemmas.List.{append-nil, append_assoc, get_or_append_left, length-append}
use Rattle.txn_types.specs.declared.block.Block.{Block}
use Rattle.txn_types.specs.declared.message.Node.{Node}
use Rattle.txn_types.specs.declared.message.Node.TheVariants.{Orderer}
use Rattle.oxii_defs.specs.State.{State}
use Rattle.txn_core.specs.declared.table.Table.{Table}
use Rattle.node_defs.specs.Log.{Letter}
use Rattle.node_defs.specs.World.{Setting, count_from, is_faulty, newblock_of, newblocks_of}
use Rattle.peer_turns.specs.Peers.{KeptPeer}
use Rattle.world_laws.specs.Starts.{AreNewSlots, IsNewSlot}

-- NEWBLOCKS

-- the NEWBLOCKs of the orderers from o on are still to come
pub record Sending (s : Setting) (b : Block) (n : ℕ) (old : List Letter) (o : ℕ) (pool : List Letter) : Type 0 where
  pub left : (k : ℕ) → k + o ≡ n → pool ++ newblocks_of s b (count_from o k) ≡ old ++ newblocks_of s b (count_from 0 n)

pub sending_none : (s : Setting) (b : Block) (n : ℕ) (pool : List Letter) → Sending s b n pool 0 pool
sending_none s b n pool = record { left = λ k e. let f : k ≡ n = omega (arith, e) in ap (λ m. pool ++ newblocks_of s b (count_from 0 m)) f }

pub sending_past : (s : Setting) (b : Block) (n : ℕ) (old : List Letter) (o : ℕ) (pool : List Letter) →
    is_faulty s (Orderer o) ≡ true → Sending s b n old o pool → Sending s b n old (suc o) pool
sending_past s b n old o pool named v = record {
  left = λ k e. let f : suc k + o ≡ n = omega (arith, e) in
      ap (λ c. pool ++ cond c (newblocks_of s b (count_from (suc o) k)) (newblock_of s b o ∷ newblocks_of s b (count_from (suc o) k))) (sym named) ∙ v.left (suc k) f;
}

pub sending_more : (s : Setting) (b : Block) (n : ℕ) (old : List Letter) (o : ℕ) (pool pool2 : List Letter) →
    is_faulty s (Orderer o) ≡ false → pool2 ≡ pool ++ newblock_of s b o ∷ [] → Sending s b n old o pool → Sending s b n old (suc o) pool2
sending_more s b n old o pool pool2 named more v = record {
  left = λ k e. let f : suc k + o ≡ n = omega (arith, e) in
      let rest = newblocks_of s b (count_from (suc o) k) in
      ap (λ xs. xs ++ rest) more ∙ (append_assoc pool (newblock_of s b o ∷ []) rest
      ∙ (ap (λ c. pool ++ cond c rest (newblock_of s b o ∷ rest)) (sym named) ∙ v.left (suc k) f));
}

pub sending_all : (s : Setting) (b : Block) (n : ℕ) (old : List Letter) (o : ℕ) (pool : List Letter) → o ≡ n → Sending s b n old o pool →
    pool ≡ old ++ newblocks_of s b (count_from 0 n)
sending_all s b n old o pool e v = let f : 0 + o ≡ n = omega (arith, e) in sym (append-nil pool) ∙ v.left 0 f

-- SLOTS

pub slots_more : (table : Table) (faulty : List Node) (genesis : State) (n : ℕ) (peers peers2 : List (Option KeptPeer)) (slot : Option KeptPeer) →
    IsNewSlot table faulty genesis n slot → peers2 ≡ peers ++ slot ∷ [] → AreNewSlots table faulty genesis n peers → AreNewSlots table faulty genesis (suc n) peers2
slots_more table faulty genesis n peers peers2 slot new more v = subst (AreNewSlots table faulty genesis (suc n)) (sym more) (record {
  count = omega (arith, v.count, length-append peers (slot ∷ []));
  each = λ i l. ⊎_elim
      (λ same. subst (λ k. IsNewSlot table faulty genesis k (get_or (peers ++ slot ∷ []) k None)) (sym same)
      (subst (IsNewSlot table faulty genesis n) (sym (ap (λ k. get_or (peers ++ slot ∷ []) k None) (sym v.count) ∙ get_or-append_seam peers slot [] None)) new))
      (λ other. let k : i < n = omega (arith, l, other) in
      subst (IsNewSlot table faulty genesis i) (sym (get_or_append_left peers (slot ∷ []) None i (omega (arith, k, v.count)))) (v.each i k))
      (cases_eq i n);
})
