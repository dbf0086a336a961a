-- Tame and well staffed are what counting at the agreed blocks says.
use Rattle.std.specs.Prelude.{ℕ, ◌<◌, ◌≤◌, ◌≡◌, Bool, true, ◌&&◌, ◌||◌, ◌==◌, not, List, [], ◌∷◌, map, length, filter, count_by, get_or, refl, suc, zero}
use Rattle.std.specs.List.{All, slice_index_or}
use Rattle.std.specs.Set.{is_member}
use Rattle.std.specs.Cmp.{nat_eq_equiv}
use Rattle.std.proofs.Common.{sym, ◌∙◌, ap, subst, arith, eqb}
use Rattle.std.proofs.lemmas.Bool.{and_from, and_parts}
use Rattle.std.proofs.lemmas.List.Elements.{All-from_recursion, recursion_from_All}
use Rattle.std.proofs.lemmas.List.Sums.{length-filter}
use Rattle.std.proofs.lemmas.Map.Made.{length-le_from_is_member}
use Rattle.txn_types.specs.declared.block.Block.{Block}
use Rattle.txn_types.specs.declared.block.Body.{Body}
use Rattle.txn_types.specs.declared.block.Config.{Config}
use Rattle.txn_types.specs.declared.message.Node.{Node}
use Rattle.txn_types.specs.declared.message.Node.TheVariants.{Peer}
use Rattle.txn_types.specs.declared.stream.CutLimits.{CutLimits}
use Rattle.txn_types.specs.declared.stream.Item.{Item}
use Rattle.txn_types.specs.declared.txn.Txn.{Txn}
use Rattle.oxii_defs.specs.BlockBytes.{block_hash}
use Rattle.oxii_defs.specs.Chain.{chain as agreed_chain, chain_from, no_hash}
use Rattle.oxii_defs.specs.Lawful.{AreAgents, IsLawfulBlock, IsLawfulBody, IsLawfulTable}
use Rattle.oxii_defs.specs.State.{State, contains}
use Rattle.oxii_defs.specs.Table.{Table}
use Rattle.known_defs.specs.Known.{no_txn}
use Rattle.node_defs.specs.AgreedSettings.{IsAgreedSetting}
use Rattle.node_defs.specs.Blocks.{block_at}
use Rattle.node_defs.specs.Cutting.{AreAgreed, admitted, carried_body}
use Rattle.node_defs.specs.Programs.{rules_of, setting_of}
use Rattle.node_defs.specs.Rules.{Rules, agents_behind, changed, in_force_behind, tau_behind}
use Rattle.node_defs.specs.Tame.{IsTame, first_blocks}
use Rattle.node_defs.specs.World.{Setting, count_from}
use Rattle.node_defs.proofs.Settings.{agreed_setting_is, is_agreed_setting}
use Rattle.node_laws.specs.Fed.{Has}
use Rattle.node_laws.specs.Named.{is_named}
use Rattle.node_laws.proofs.Bodies.{lawful_bodies}
use Rattle.node_laws.proofs.Cuttings.{one_cutting}
use Rattle.completion_laws.specs.Counted.{AreEnoughUnnamed, AreFewNamed, PassInForce}
use Rattle.completion_laws.specs.Staffed.{IsWellStaffed}
use Rattle.completion_laws.specs.WitnessLaws.{StaffedIsCounted, TameIsCounted}
use Rattle.completion_laws.proofs.Delivered.{has_of_all}
use Rattle.completion_laws.proofs.Enough.{has_filter}
use Rattle.completion_laws.proofs.Fitted.{lawful_chain}
use Rattle.completion_laws.proofs.InForce.{at_txn, rising_distinct}
use Rattle.completion_laws.proofs.Orders.{any_default, has_contains}
use Rattle.completion_laws.proofs.Staffing.{distinct_from, distinct_kept, has_from, has_member, member_has, member_kept}

-- WHAT IS IN FORCE, FROM THE FIRST BLOCK ON

agents_from : (rules : Rules) (b : Block) (rest : List Block) (m app : ℕ) → agents_behind rules (first_blocks (b ∷ rest) (suc m)) app ≡ agents_behind (in_force_behind rules (b ∷ [])) (first_blocks rest m) app
agents_from rules b rest zero app = refl
agents_from rules b rest (suc m) app = ap (changed (block_at rest m).config (λ (c : Config). c.agents) app) (agents_from rules b rest m app)

tau_from : (rules : Rules) (b : Block) (rest : List Block) (m app : ℕ) → tau_behind rules (first_blocks (b ∷ rest) (suc m)) app ≡ tau_behind (in_force_behind rules (b ∷ [])) (first_blocks rest m) app
tau_from rules b rest zero app = refl
tau_from rules b rest (suc m) app = ap (changed (block_at rest m).config (λ (c : Config). c.tau) app) (tau_from rules b rest m app)

module _ (test : List ℕ → ℕ → Type 0) where
  -- at block m + 1 the test holds of what is in force for this transaction
  abbrev PassAt : Rules → List Block → ℕ → Txn → Type 0
  PassAt rules blocks m t = test (agents_behind rules (first_blocks blocks m) t.app) (tau_behind rules (first_blocks blocks m) t.app)

  abbrev PassAtEach : Rules → List Block → Type 0
  PassAtEach rules blocks = (m : ℕ) → m < length blocks → All (PassAt rules blocks m) (block_at blocks m).txns

  later : (rules : Rules) (b : Block) (rest : List Block) (m : ℕ) (t : Txn) → PassAt (in_force_behind rules (b ∷ [])) rest m t → PassAt rules (b ∷ rest) (suc m) t
  later rules b rest m t h =
      subst (λ agents. test agents (tau_behind rules (first_blocks (b ∷ rest) (suc m)) t.app)) (sym (agents_from rules b rest m t.app))
      (subst (test (agents_behind (in_force_behind rules (b ∷ [])) (first_blocks rest m) t.app)) (sym (tau_from rules b rest m t.app)) h)

  sooner : (rules : Rules) (b : Block) (rest : List Block) (m : ℕ) (t : Txn) → PassAt rules (b ∷ rest) (suc m) t → PassAt (in_force_behind rules (b ∷ [])) rest m t
  sooner rules b rest m t h =
      subst (λ agents. test agents (tau_behind (in_force_behind rules (b ∷ [])) (first_blocks rest m) t.app)) (agents_from rules b rest m t.app)
      (subst (test (agents_behind rules (first_blocks (b ∷ rest) (suc m)) t.app)) (tau_from rules b rest m t.app) h)

  pub each_from : (rules : Rules) (table : Table) (n : ℕ) (prev : List ℕ) (bodies : List Body) → PassInForce test rules.agents rules.tau bodies → PassAtEach rules (chain_from table n prev bodies)
  each_from rules table n prev [] h m l = absurd (omega arith)
  each_from rules table n prev (body ∷ rest) h zero l = All-from_recursion (λ (t : Txn). test (rules.agents t.app) (rules.tau t.app)) body.txns h.0
  each_from rules table n prev (body ∷ rest) h (suc m) l =
      let block : Block = record { number = n; prev = prev; txns = body.txns; config = body.config } in
      let blocks = chain_from table (suc n) (block_hash table block) rest in
      λ i d k. later rules block blocks m (slice_index_or (block_at blocks m).txns i d) (each_from (in_force_behind rules (block ∷ [])) table (suc n) (block_hash table block) rest h.1 m (omega arith) i d k)

  pub each_to : (rules : Rules) (table : Table) (n : ℕ) (prev : List ℕ) (bodies : List Body) → PassAtEach rules (chain_from table n prev bodies) → PassInForce test rules.agents rules.tau bodies
  each_to rules table n prev [] h = tt
  each_to rules table n prev (body ∷ rest) h =
      let block : Block = record { number = n; prev = prev; txns = body.txns; config = body.config } in
      let blocks = chain_from table (suc n) (block_hash table block) rest in (
        recursion_from_All (λ (t : Txn). test (rules.agents t.app) (rules.tau t.app)) body.txns (h 0 (omega arith)),
        each_to (in_force_behind rules (block ∷ [])) table (suc n) (block_hash table block) rest
            (λ m l i d k. sooner rules block blocks m (slice_index_or (block_at blocks m).txns i d) (h (suc m) (omega (arith, l)) i d k)),
      )

-- the setting of an input is that of any bodies that are agreed
setting_is : (table : Table) (genesis : State) (items : List Item) (limits : CutLimits) (faulty : List Node) (bodies : List Body) → AreAgreed table limits items bodies →
    (s : Setting) → IsAgreedSetting table genesis items limits faulty s → s ≡ setting_of table genesis items bodies faulty
setting_is table genesis items limits faulty bodies (lists, cutting, are) s set =
    agreed_setting_is table genesis items limits faulty s set
    ∙ ap (λ bs. setting_of table genesis items bs faulty) (set.agreed.2 ∙ ap (map carried_body) (one_cutting table limits (admitted table items) set.agreed.0 lists set.agreed.1 cutting) ∙ sym are)

-- TAME

pub tame_is_counted : TameIsCounted
tame_is_counted table genesis items limits faulty bodies agreed = (
  λ h.
      let tame = h (setting_of table genesis items bodies faulty) (is_agreed_setting table genesis items limits faulty bodies agreed) in
      record { orderers = tame.orderers; agents = each_to (AreFewNamed faulty) (rules_of table genesis) table 1 no_hash bodies tame.agents },
  λ h s set.
      let tame : IsTame (setting_of table genesis items bodies faulty) = record { orderers = h.orderers; agents = each_from (AreFewNamed faulty) (rules_of table genesis) table 1 no_hash bodies h.agents } in
      subst IsTame (sym (setting_is table genesis items limits faulty bodies agreed s set)) tame,
)

-- WELL STAFFED

contains_has : (xs : List ℕ) (k : ℕ) → contains xs k ≡ true → Has k xs
contains_has xs k h = member_has xs k (as_member xs k ∙ h)
  where
    as_member : (ys : List ℕ) (i : ℕ) → is_member eqb ys i ≡ contains ys i
    as_member [] i = refl
    as_member (y ∷ ys) i = ap (λ b. (i == y) || b) (as_member ys i)

-- those of a list of agents that pass are as many as those peers of the table that pass and are in the list
same_count : (table : Table) (q : ℕ → Bool) (agents : List ℕ) (tau : ℕ) → AreAgents table agents tau →
    count_by (λ p. q p && contains agents p) (count_from 0 (length table.peers)) ≡ count_by q agents
same_count table q agents tau lawful =
    let n = length table.peers in
    let both : ℕ → Bool = λ p. q p && contains agents p in
    let below = recursion_from_All (λ p. p < n) agents lawful.peers in
    let fewer = length-le_from_is_member nat_eq_equiv (filter both (count_from 0 n)) (filter q agents) (distinct_kept both (count_from 0 n) (distinct_from 0 n))
    (λ k h.
    let e = and_parts (q k) (contains agents k) (member_kept both (count_from 0 n) k h).1 in
    has_member (filter q agents) k (has_filter q agents k (contains_has agents k e.1) e.0)) in
    let more = length-le_from_is_member nat_eq_equiv (filter q agents) (filter both (count_from 0 n)) (distinct_kept q agents (rising_distinct agents lawful.rising))
    (λ k h.
    let e = member_kept q agents k h in
    let i = member_has agents k e.0 in
    has_member (filter both (count_from 0 n)) k
    (has_filter both (count_from 0 n) k (has_from 0 n k k (omega arith) (has_of_all (λ p. p < n) agents below k i)) (and_from (q k) (contains agents k) e.1 (has_contains agents k i)))) in
    omega (arith, fewer, more, length-filter both (count_from 0 n), length-filter q agents)

-- as the definition of well staffed counts them
abbrev AreEnoughPeers : Table → List Node → List ℕ → ℕ → Type 0
AreEnoughPeers table faulty agents tau = tau ≤ count_by (λ p. not (is_named faulty (Peer p)) && contains agents p) (count_from 0 (length table.peers))

module _ (table : Table) (genesis : State) (lawful : IsLawfulTable table) (bodies : List Body) (fine : All (λ (b : Body). IsLawfulBody table b.txns b.config) bodies) (faulty : List Node) where
  blocks_lawful : (m : ℕ) → m < length (agreed_chain table bodies) → IsLawfulBlock table (block_at (agreed_chain table bodies) m)
  blocks_lawful = lawful_chain table 1 no_hash bodies (recursion_from_All (λ (b : Body). IsLawfulBody table b.txns b.config) bodies fine)

  -- the two counts at a transaction of the chain
  counts : (m : ℕ) → m < length (agreed_chain table bodies) → (i : ℕ) (d : Txn) → i < length (block_at (agreed_chain table bodies) m).txns →
      let app = (get_or (block_at (agreed_chain table bodies) m).txns i d).app in
      let agents = agents_behind (rules_of table genesis) (first_blocks (agreed_chain table bodies) m) app in
      count_by (λ p. not (is_named faulty (Peer p)) && contains agents p) (count_from 0 (length table.peers)) ≡ count_by (λ p. not (is_named faulty (Peer p))) agents
  counts m l i d k =
      let agents : Txn → List ℕ = λ t. agents_behind (rules_of table genesis) (first_blocks (agreed_chain table bodies) m) t.app in
      let tau : Txn → ℕ = λ t. tau_behind (rules_of table genesis) (first_blocks (agreed_chain table bodies) m) t.app in
      let txns = (block_at (agreed_chain table bodies) m).txns in
      let here : AreAgents table (agents (get_or txns i d)) (tau (get_or txns i d)) =
      subst (λ t. AreAgents table (agents t) (tau t)) (any_default txns i no_txn d k) (at_txn table genesis lawful (agreed_chain table bodies) blocks_lawful m i l k) in
      same_count table (λ p. not (is_named faulty (Peer p))) (agents (get_or txns i d)) (tau (get_or txns i d)) here

  as_agents : PassAtEach (AreEnoughPeers table faulty) (rules_of table genesis) (agreed_chain table bodies) → PassAtEach (AreEnoughUnnamed faulty) (rules_of table genesis) (agreed_chain table bodies)
  as_agents h m l i d k = omega (arith, h m l i d k, counts m l i d k)

  as_peers : PassAtEach (AreEnoughUnnamed faulty) (rules_of table genesis) (agreed_chain table bodies) → PassAtEach (AreEnoughPeers table faulty) (rules_of table genesis) (agreed_chain table bodies)
  as_peers h m l i d k = omega (arith, h m l i d k, counts m l i d k)

pub staffed_is_counted : StaffedIsCounted
staffed_is_counted table genesis items limits faulty bodies lawful fair fine agreed =
    let lawful_all = lawful_bodies table limits items bodies fair fine agreed in
    let rules = rules_of table genesis in (
      λ h.
          let staffed = h (setting_of table genesis items bodies faulty) (is_agreed_setting table genesis items limits faulty bodies agreed) in
          record { orderers = staffed.orderers; agents = each_to (AreEnoughUnnamed faulty) rules table 1 no_hash bodies (as_agents table genesis lawful bodies lawful_all faulty staffed.agents) },
      λ h s set.
          let staffed : IsWellStaffed (setting_of table genesis items bodies faulty) =
          record { orderers = h.orderers; agents = as_peers table genesis lawful bodies lawful_all faulty (each_from (AreEnoughUnnamed faulty) rules table 1 no_hash bodies h.agents) } in
          subst IsWellStaffed (sym (setting_is table genesis items limits faulty bodies agreed s set)) staffed,
    )
