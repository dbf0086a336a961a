-- Tame and well staffed inputs by counting: at each agreed block, the agents in force that the document names faulty, and those that it doesn't.
use Rattle.std.specs.Prelude.{ℕ, ◌<◌, ◌≤◌, not, List, [], ◌∷◌, length, count_by}
use Rattle.std.specs.List.{AllByRecursion}
use Rattle.txn_types.specs.declared.block.Body.{Body}
use Rattle.txn_types.specs.declared.message.Node.{Node}
use Rattle.txn_types.specs.declared.message.Node.TheVariants.{Orderer, Peer}
use Rattle.txn_types.specs.declared.stream.Item.{Item}
use Rattle.txn_types.specs.declared.stream.Item.TheVariants as item
use Rattle.oxii_defs.specs.Table.{Table}
use Rattle.node_defs.specs.Admission.{pieces_of}
use Rattle.node_defs.specs.Rules.{agents_in, changed, tau_in}
use Rattle.node_defs.specs.Sayings.{txns_of_piece}
use Rattle.node_defs.specs.World.{count_from}
use Rattle.node_laws.specs.Named.{is_named}

-- HOW MANY ARE NAMED

-- how many orderers of the table are named faulty
abbrev pub named_orderers : Table → List Node → ℕ
named_orderers table faulty = count_by (λ o. is_named faulty (Orderer o)) (count_from 0 (length table.orderers))

-- how many of them aren't
abbrev pub unnamed_orderers : Table → List Node → ℕ
unnamed_orderers table faulty = count_by (λ o. not (is_named faulty (Orderer o))) (count_from 0 (length table.orderers))

-- of these agents fewer than are to agree are named faulty
abbrev pub AreFewNamed : List Node → List ℕ → ℕ → Type 0
AreFewNamed faulty agents tau = count_by (λ p. is_named faulty (Peer p)) agents < tau

-- as many of them as are to agree aren't
abbrev pub AreEnoughUnnamed : List Node → List ℕ → ℕ → Type 0
AreEnoughUnnamed faulty agents tau = tau ≤ count_by (λ p. not (is_named faulty (Peer p))) agents

-- WITH CONFIGURATIONS

-- at each block with one of these bodies, for each application of a transaction, the agents in force and how many of them are to agree
-- pass a test, where before the first block these agents and these counts are in force, and a configuration changes them from the next block on
abbrev pub PassInForce : (List ℕ → ℕ → Type 0) → (ℕ → List ℕ) → (ℕ → ℕ) → List Body → Type 0
PassInForce test agents tau [] = Unit {0}
PassInForce test agents tau (body ∷ rest) =
    AllByRecursion (λ t. test (agents t.app) (tau t.app)) body.txns
    × PassInForce test (λ app. changed body.config (λ c. c.agents) app (agents app)) (λ app. changed body.config (λ c. c.tau) app (tau app)) rest

-- fewer orderers than the quorum are named faulty, and at each block, of each application of a transaction, fewer agents in force than are to agree
pub record IsCountedTame (table : Table) (bodies : List Body) (faulty : List Node) : Type 0 where
  pub orderers : named_orderers table faulty < table.quorum
  pub agents : PassInForce (AreFewNamed faulty) (agents_in table) (tau_in table) bodies

-- a quorum of orderers isn't named faulty, and at each block, of each application of a transaction, as many agents in force as are to agree
pub record IsCountedStaffed (table : Table) (bodies : List Body) (faulty : List Node) : Type 0 where
  pub orderers : table.quorum ≤ unnamed_orderers table faulty
  pub agents : PassInForce (AreEnoughUnnamed faulty) (agents_in table) (tau_in table) bodies

-- WITHOUT CONFIGURATIONS

-- no item of the stream is a configuration
abbrev pub HasNoConfig : List Item → Type 0
HasNoConfig [] = Unit {0}
HasNoConfig (item.Config c ∷ rest) = ⊥
HasNoConfig (x ∷ rest) = HasNoConfig rest

-- the agents that the table gives the application of each admitted request, and how many of them are to agree, pass a test
abbrev pub PassInTable : (List ℕ → ℕ → Type 0) → Table → List Item → Type 0
PassInTable test table items = AllByRecursion (λ p. AllByRecursion (λ t. test (agents_in table t.app) (tau_in table t.app)) (txns_of_piece p)) (pieces_of table items)

-- fewer orderers than the quorum are named faulty, and of the application of each admitted request fewer agents than are to agree
pub record IsPlainTame (table : Table) (items : List Item) (faulty : List Node) : Type 0 where
  pub orderers : named_orderers table faulty < table.quorum
  pub agents : PassInTable (AreFewNamed faulty) table items

-- a quorum of orderers isn't named faulty, and of the application of each admitted request as many agents as are to agree
pub record IsPlainStaffed (table : Table) (items : List Item) (faulty : List Node) : Type 0 where
  pub orderers : table.quorum ≤ unnamed_orderers table faulty
  pub agents : PassInTable (AreEnoughUnnamed faulty) table items

-- fewer orderers than the quorum, and of each application of the table fewer agents than are to agree, are named faulty
pub record AreFew (table : Table) (faulty : List Node) : Type 0 where
  pub orderers : named_orderers table faulty < table.quorum
  pub agents : (app : ℕ) → app < length table.apps → AreFewNamed faulty (agents_in table app) (tau_in table app)
