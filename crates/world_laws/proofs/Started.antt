-- A world before the first event.
use Rattle.std.specs.Prelude.{ℕ, zero, suc, ◌+◌, ◌*◌, ◌≡◌, ◌<◌, ◌≤◌, Bool, true, false, cond, List, [], ◌∷◌, ◌++◌, map, length, get_or, Option, Some, None, is_some, replicate, count_by, sum_by, refl}
use Rattle.std.specs.FinMap.{empty}
use Rattle.std.specs.List.{All, AllByRecursion}
use Rattle.std.proofs.Common.{sym, ◌∙◌, ap, subst, arith}
use Rattle.std.proofs.lemmas.List.{length-append, length-replicate}
use Rattle.std.proofs.lemmas.List.Sums.{sum_by-cons}
use Rattle.txn_types.specs.declared.block.Block.{Block}
use Rattle.txn_types.specs.declared.block.Config.{Config}
use Rattle.txn_types.specs.declared.stream.Piece.{Piece}
use Rattle.txn_types.specs.declared.message.Node.{Node}
use Rattle.txn_types.specs.declared.message.Node.TheVariants.{Orderer}
use Rattle.oxii_defs.specs.State.{State}
use Rattle.oxii_defs.specs.Table as meant
use Rattle.oxii_defs.specs.Lawful.{IsLawfulBlock, IsLawfulBody, IsLawfulTable}
use Rattle.oxii_defs.specs.BlockBytes.{block_hash}
use Rattle.txn_core.specs.declared.table.Table.{Table}
use Rattle.txn_core.specs.MeantTable.{table_of}
use Rattle.node_defs.specs.LawfulItems.{AreLawfulPieces}
use Rattle.node_defs.specs.Log.{Letter, Log}
use Rattle.node_defs.specs.World.{Setting, count_from, first_pool, is_faulty, newblock_of, newblocks_of, orderers_of, peers_of, start}
use Rattle.node_defs.proofs.CountingLemmas.{count_by-cons}
use Rattle.node_laws.specs.OneWorld.{txns_carried}
use Rattle.node_laws.proofs.Ends.{carried_more, start_fed}
use Rattle.trace_laws.proofs.Entries.{all_same, has_place}
use Rattle.peer_turns.specs.Peers.{KeptPeer}
use Rattle.peer_core.proofs.CountLemmas.{count_long}
use Rattle.world_laws.specs.declared.burst.Burst.{Burst}
use Rattle.node_laws.specs.Named.{is_named}
use Rattle.world_laws.specs.Starts.{AreNewSlots, IsNewSlot, nodes_of}
use Rattle.world_laws.specs.Shown.{AreOfTable, IsLawfulLetter, IsPeerFor, IsShown}
use Rattle.world_laws.specs.Worlds.{HasBursts, IsWellKept, IsWorldOf, KeptWorld, setting_with}

-- MESSAGES

-- the first messages are told by the table and the faulty nodes
block_same : (table : meant.Table) (faulty : List Node) (g h : State) (c d : List Block) (p q : List (Option Piece)) (b : Block) (os : List ℕ) → newblocks_of (setting_with table g c p faulty) b os ≡ newblocks_of (setting_with table h d q faulty) b os
block_same table faulty g h c d p q b [] = refl
block_same table faulty g h c d p q b (o ∷ os) = ap (λ xs. cond (is_named faulty (Orderer o)) xs (newblock_of (setting_with table g c p faulty) b o ∷ xs)) (block_same table faulty g h c d p q b os)

pool_same : (table : meant.Table) (faulty : List Node) (g h : State) (c d : List Block) (p q : List (Option Piece)) (chain : List Block) → first_pool (setting_with table g c p faulty) chain ≡ first_pool (setting_with table h d q faulty) chain
pool_same table faulty g h c d p q [] = refl
pool_same table faulty g h c d p q (b ∷ rest) =
    ap (λ xs. xs ++ first_pool (setting_with table g c p faulty) rest) (block_same table faulty g h c d p q b (count_from 0 (length table.orderers)))
    ∙ ap (λ xs. newblocks_of (setting_with table h d q faulty) b (count_from 0 (length table.orderers)) ++ xs) (pool_same table faulty g h c d p q rest)

letters_lawful : (table : meant.Table) (s : Setting) (b : Block) (os : List ℕ) (rest : List Letter) → IsLawfulBlock table b → AllByRecursion (IsLawfulLetter table) rest → AllByRecursion (IsLawfulLetter table) (newblocks_of s b os ++ rest)
letters_lawful table s b [] rest l a = a
letters_lawful table s b (o ∷ os) rest l a = one (is_faulty s (Orderer o)) (letters_lawful table s b os rest l a)
  where
    one : (c : Bool) → AllByRecursion (IsLawfulLetter table) (newblocks_of s b os ++ rest) → AllByRecursion (IsLawfulLetter table) (cond c (newblocks_of s b os) (newblock_of s b o ∷ newblocks_of s b os) ++ rest)
    one true r = r
    one false r = (l, r)

pool_lawful : (table : meant.Table) (s : Setting) (chain : List Block) → All (IsLawfulBlock table) chain → AllByRecursion (IsLawfulLetter table) (first_pool s chain)
pool_lawful table s [] a = tt
pool_lawful table s (b ∷ rest) a =
    letters_lawful table s b (count_from 0 (orderers_of s)) (first_pool s rest) (a 0 b (omega arith))
    (pool_lawful table s rest (λ i d l. a (suc i) d (omega (arith, l))))

-- HOW MANY MESSAGES

letters_few : (s : Setting) (b : Block) (os : List ℕ) → length (newblocks_of s b os) ≤ length os
letters_few s b [] = omega arith
letters_few s b (o ∷ os) = one (is_faulty s (Orderer o)) (letters_few s b os)
  where
    one : (c : Bool) → length (newblocks_of s b os) ≤ length os → length (cond c (newblocks_of s b os) (newblock_of s b o ∷ newblocks_of s b os)) ≤ suc (length os)
    one true r = omega (arith, r)
    one false r = omega (arith, r)

letters_carry : (s : Setting) (b : Block) (os : List ℕ) → txns_carried (newblocks_of s b os) ≤ length os * length b.txns
letters_carry s b [] = omega arith
letters_carry s b (o ∷ os) = one (is_faulty s (Orderer o)) (letters_carry s b os)
  where
    times : (n m : ℕ) → suc n * m ≡ m + n * m
    times n m = grind arith

    one : (c : Bool) → txns_carried (newblocks_of s b os) ≤ length os * length b.txns → txns_carried (cond c (newblocks_of s b os) (newblock_of s b o ∷ newblocks_of s b os)) ≤ suc (length os) * length b.txns
    one true r = omega (arith, r, times (length os) (length b.txns))
    one false r = omega (arith, r, times (length os) (length b.txns))

few_times : (n m : ℕ) → n ≤ 16 → n * m ≤ 16 * m
few_times n m l = grind arith

pool_few : (s : Setting) (chain : List Block) → orderers_of s ≤ 16 → length (first_pool s chain) ≤ 16 * length chain
pool_few s [] l = omega arith
pool_few s (b ∷ rest) l =
    let os = count_from 0 (orderers_of s) in
    omega (arith, l, pool_few s rest l, letters_few s b os, count_long 0 (orderers_of s), length-append (newblocks_of s b os) (first_pool s rest))

pool_carries : (s : Setting) (chain : List Block) → orderers_of s ≤ 16 → txns_carried (first_pool s chain) ≤ 16 * sum_by (λ b. length b.txns) chain
pool_carries s [] l = omega arith
pool_carries s (b ∷ rest) l =
    let os = count_from 0 (orderers_of s) in
    let most = few_times (length os) (length b.txns) (omega (arith, l, count_long 0 (orderers_of s))) in
    omega (arith, most, pool_carries s rest l, letters_carry s b os, carried_more (newblocks_of s b os) (first_pool s rest), sum_by-cons (λ (c : Block). length c.txns) b rest)

-- a lawful block has a transaction or a configuration
one_at_least : (table : meant.Table) (b : Block) → IsLawfulBlock table b → 1 ≤ length b.txns + cond (is_some b.config) 1 0
one_at_least table b h = one b.config h
  where
    one : (c : Option Config) → IsLawfulBody table b.txns c → 1 ≤ length b.txns + cond (is_some c) 1 0
    one None k = omega (arith, k.0.0)
    one (Some config) k = omega arith

blocks_few : (table : meant.Table) (chain : List Block) → All (IsLawfulBlock table) chain → length chain ≤ sum_by (λ b. length b.txns) chain + count_by (λ b. is_some b.config) chain
blocks_few table [] a = omega arith
blocks_few table (b ∷ rest) a =
    omega (
      arith,
      one_at_least table b (a 0 b (omega arith)),
      blocks_few table rest (λ i d l. a (suc i) d (omega (arith, l))),
      sum_by-cons (λ (c : Block). length c.txns) b rest,
      count_by-cons (λ (c : Block). is_some c.config) b rest,
    )

-- LOGS AND SLOTS

slot_for : (table : Table) (genesis : State) (s : Setting) (i : ℕ) (o : Option KeptPeer) → IsNewSlot table s.faulty genesis i o → IsPeerFor table genesis s i [] o
slot_for table genesis s i None h = h
slot_for table genesis s i (Some p) h = record { working = h.0; table_is = h.1; me_is = h.2; stands = h.3 }

table_at : (table : Table) (faulty : List Node) (genesis : State) (i : ℕ) (p : KeptPeer) (o : Option KeptPeer) → o ≡ Some p → IsNewSlot table faulty genesis i o → p.table ≡ table
table_at table faulty genesis i p o e h = (subst (IsNewSlot table faulty genesis i) e h).1

slots_of_table : (table : Table) (faulty : List Node) (genesis : State) (peers : List (Option KeptPeer)) → AreNewSlots table faulty genesis (length table.peers) peers → AreOfTable table peers
slots_of_table table faulty genesis peers v = λ i p e.
    let l = has_place peers i p e in
    table_at table faulty genesis i p (get_or peers i None) e (v.each i (omega (arith, l, v.count)))

-- THE START

-- what a new world keeps
abbrev pub started : Table → List Block → List (Option Piece) → List Node → List (Option KeptPeer) → KeptWorld
started table chain pieces faulty peers = record {
  table = table;
  hashes = map (block_hash (table_of table)) chain;
  pieces = pieces;
  faulty = faulty;
  pool = first_pool (nodes_of table faulty) chain;
  idle = 0;
  falses = 0;
  items = 0;
  peers = peers;
  bursts = [];
}

-- a world of these parts is one
pub as_started : (table : Table) (chain : List Block) (pieces pieces2 : List (Option Piece)) (faulty faulty2 : List Node) (hashes : List (List ℕ)) (pool : List Letter) (peers : List (Option KeptPeer)) (bursts : List Burst) →
    hashes ≡ map (block_hash (table_of table)) chain → pieces2 ≡ pieces → faulty2 ≡ faulty → pool ≡ first_pool (nodes_of table faulty) chain → bursts ≡ [] →
    record { table = table; hashes = hashes; pieces = pieces2; faulty = faulty2; pool = pool; idle = 0; falses = 0; items = 0; peers = peers; bursts = bursts } ≡ started table chain pieces faulty peers
as_started table chain pieces pieces2 faulty faulty2 hashes pool peers bursts e f g h i =
    ap (λ hs. on hs pieces2 faulty2 pool bursts) e
    ∙ (ap (λ ps. on (map (block_hash (table_of table)) chain) ps faulty2 pool bursts) f
    ∙ (ap (λ ns. on (map (block_hash (table_of table)) chain) pieces ns pool bursts) g
    ∙ (ap (λ ls. on (map (block_hash (table_of table)) chain) pieces faulty ls bursts) h
    ∙ ap (λ bs. on (map (block_hash (table_of table)) chain) pieces faulty (first_pool (nodes_of table faulty) chain) bs) i)))
  where
    on : List (List ℕ) → List (Option Piece) → List Node → List Letter → List Burst → KeptWorld
    on hs ps ns ls bs = record { table = table; hashes = hs; pieces = ps; faulty = ns; pool = ls; idle = 0; falses = 0; items = 0; peers = peers; bursts = bs }

start_shown : (table : Table) (genesis : State) (chain : List Block) (pieces : List (Option Piece)) (faulty : List Node) (peers : List (Option KeptPeer)) → AreNewSlots table faulty genesis (length table.peers) peers →
    IsShown table (first_pool (nodes_of table faulty) chain) 0 peers genesis (setting_with (table_of table) genesis chain pieces faulty) (start (setting_with (table_of table) genesis chain pieces faulty))
start_shown table genesis chain pieces faulty peers v =
    let s = setting_with (table_of table) genesis chain pieces faulty in
    record {
      rules_are = refl;
      pool_is = pool_same (table_of table) faulty empty genesis [] chain [] pieces chain;
      idle_is = refl;
      count = v.count;
      logs = length-replicate {A = Log} (peers_of s) [];
      each = λ i l. subst (λ (L : Log). IsPeerFor table genesis s i L (get_or peers i None)) (sym (all_same (peers_of s) i [])) (slot_for table genesis s i (get_or peers i None) (v.each i l));
    }

pub well_started : (table : Table) (genesis : State) (chain : List Block) (pieces : List (Option Piece)) (faulty : List Node) (peers : List (Option KeptPeer)) → IsLawfulTable (table_of table) → All (IsLawfulBlock (table_of table)) chain →
    AreLawfulPieces (table_of table) pieces → sum_by (λ b. length b.txns) chain ≤ 4096 → count_by (λ b. is_some b.config) chain ≤ 256 →
    AreNewSlots table faulty genesis (length table.peers) peers → IsWellKept (started table chain pieces faulty peers)
well_started table genesis chain pieces faulty peers t a p txns configs v =
    let s = setting_with (table_of table) genesis chain pieces faulty in
    let h = start_shown table genesis chain pieces faulty peers v in
    record {
      table_lawful = t;
      pieces_lawful = p;
      lawful = pool_lawful (table_of table) (nodes_of table faulty) chain a;
      of_table = slots_of_table table faulty genesis peers v;
      count = v.count;
      few_falses = omega arith;
      few_items = omega arith;
      reached = record {
        idle = 0;
        genesis = genesis;
        setting = s;
        world = start s;
        faulty_are = refl;
        shown = h;
        fed = start_fed s;
        few = omega (arith, txns, configs, blocks_few (table_of table) chain a, pool_few (nodes_of table faulty) chain t.orderers.1, ap length h.pool_is);
        carried = omega (arith, txns, pool_carries (nodes_of table faulty) chain t.orderers.1, ap txns_carried h.pool_is);
      };
    }

pub world_started : (table : Table) (genesis : State) (chain : List Block) (pieces : List (Option Piece)) (faulty : List Node) (peers : List (Option KeptPeer)) → AreNewSlots table faulty genesis (length table.peers) peers →
    IsWorldOf (started table chain pieces faulty peers) genesis (setting_with (table_of table) genesis chain pieces faulty) []
world_started table genesis chain pieces faulty peers v = record {
  setting = record { rules_are = refl; hashes_are = refl; pieces_are = refl; faulty_are = refl };
  world = start (setting_with (table_of table) genesis chain pieces faulty);
  is = refl;
  shown = start_shown table genesis chain pieces faulty peers v;
}

pub no_bursts : (table : Table) (chain : List Block) (pieces : List (Option Piece)) (faulty : List Node) (peers : List (Option KeptPeer)) (n : ℕ) (s : Setting) → HasBursts n (started table chain pieces faulty peers) s []
no_bursts table chain pieces faulty peers n s = ([], refl, tt)
