-- What is in force behind lawful blocks is lawful: agents are peers of the table, rising, and no more votes are asked for than there are agents, and no fewer than one.
use Rattle.std.specs.Prelude.{ℕ, ◌==◌, ◌<◌, ◌≤◌, ◌≡◌, Bool, true, false, cond, List, [], ◌∷◌, map, length, get_or, filter, count_by, Option, Some, None, option_and_then, slice_get, refl, suc, zero}
use Rattle.std.specs.List.{AllByRecursion, IsDistinct}
use Rattle.std.specs.Set.{is_member}
use Rattle.std.specs.Cmp.{nat_eq_equiv}
use Rattle.std.proofs.Common.{arith, eqb, inl, inr, ne_eqb}
use Rattle.std.proofs.lemmas.List.Elements.{recursion_from_All}
use Rattle.std.proofs.lemmas.List.Sums.{length-filter}
use Rattle.std.proofs.lemmas.Map.Made.{length-le_from_is_member}
use Rattle.std.proofs.lemmas.Option.{none-some, slice_get_within}
use Rattle.known_defs.specs.Known.{txn_at}
use Rattle.node_defs.specs.Blocks.{block_at}
use Rattle.node_defs.specs.Programs.{rules_of}
use Rattle.node_defs.specs.Rules.{agents_behind, changed, tau_behind}
use Rattle.node_defs.specs.Tame.{first_blocks}
use Rattle.node_defs.specs.World.{count_from}
use Rattle.node_laws.proofs.AgreeSent.{all_more}
use Rattle.node_laws.specs.Fed.{Has}
use Rattle.node_laws.proofs.LawfulBlockLemmas.{block_txns}
use Rattle.oxii_defs.specs.Lawful.{AreAgents, IsLawfulApp, IsLawfulBlock, IsLawfulBody, IsLawfulTable, IsLawfulTxn}
use Rattle.oxii_defs.specs.State.{State, contains}
use Rattle.oxii_defs.specs.Table.{App, Table}
use Rattle.txn_types.specs.Rising.{IsRising}
use Rattle.txn_types.specs.declared.block.Block.{Block}
use Rattle.txn_types.specs.declared.block.Config.{Config}
use Rattle.txn_types.specs.declared.txn.Txn.{Txn}
use Rattle.completion_laws.proofs.Enough.{has_filter}
use Rattle.completion_laws.proofs.Orders.{has_contains}
use Rattle.completion_laws.proofs.Staffing.{has_from, has_member, member_has}

-- a lawful transaction is of an application of the table
pub app_within : (table : Table) (t : Txn) → IsLawfulTxn table t → t.app < length table.apps
app_within table t h = one (slice_get table.apps t.app) refl h.named
  where
    one : (o : Option App) → slice_get table.apps t.app ≡ o → option_and_then (λ app. slice_get app.ops t.op) o ≡ Some h.op → t.app < length table.apps
    one None e k = absurd (none-some h.op k)
    one (Some a) e k = slice_get_within table.apps t.app a e

apps_at : (table : Table) (apps : List App) (i : ℕ) → i < length apps → AllByRecursion (IsLawfulApp table) apps → AreAgents table (get_or (map (λ (a : App). a.agents) apps) i []) (get_or (map (λ (a : App). a.tau) apps) i 0)
apps_at table [] i h a = absurd (omega arith)
apps_at table (x ∷ apps) zero h a = a.0.agents
apps_at table (x ∷ apps) (suc i) h a = apps_at table apps i (omega arith) a.1

module _ (table : Table) (genesis : State) (lawful : IsLawfulTable table) (chain : List Block) (blocks : (m : ℕ) → m < length chain → IsLawfulBlock table (block_at chain m)) where
  behind : (app : ℕ) → app < length table.apps → (m : ℕ) → m ≤ length chain → AreAgents table (agents_behind (rules_of table genesis) (first_blocks chain m) app) (tau_behind (rules_of table genesis) (first_blocks chain m) app)
  behind app h zero j = apps_at table table.apps app h (recursion_from_All (IsLawfulApp table) table.apps lawful.lawful_apps)
  behind app h (suc m) j = one (block_at chain m).config (blocks m (omega (arith, j))) (behind app h m (omega (arith, j)))
    where
      one : (o : Option Config) → IsLawfulBody table (block_at chain m).txns o → AreAgents table (agents_behind (rules_of table genesis) (first_blocks chain m) app) (tau_behind (rules_of table genesis) (first_blocks chain m) app) →
          AreAgents table (changed o (λ c. c.agents) app (agents_behind (rules_of table genesis) (first_blocks chain m) app)) (changed o (λ c. c.tau) app (tau_behind (rules_of table genesis) (first_blocks chain m) app))
      one None b more = more
      one (Some c) b more = two (c.app == app)
        where
          two : (t : Bool) → AreAgents table (cond t c.agents (agents_behind (rules_of table genesis) (first_blocks chain m) app)) (cond t c.tau (tau_behind (rules_of table genesis) (first_blocks chain m) app))
          two true = b.1.agents
          two false = more

  -- at each transaction of the chain
  pub at_txn : (m t : ℕ) → m < length chain → t < length (block_at chain m).txns →
      let app = (txn_at (block_at chain m).txns t).app in
      AreAgents table (agents_behind (rules_of table genesis) (first_blocks chain m) app) (tau_behind (rules_of table genesis) (first_blocks chain m) app)
  at_txn m t j k = behind _ (app_within table _ (block_txns table (block_at chain m) (blocks m j) t _ k)) m (omega (arith, j))

-- RISING LISTS

above : (x : ℕ) (xs : List ℕ) → IsRising (x ∷ xs) → AllByRecursion (λ y. x < y) xs
above x [] h = tt
above x (y ∷ ys) h = (h.0, all_more (λ z. y < z) (λ z. x < z) (λ z k. omega (arith, k, h.0)) ys (above y ys h.1))

rest_rises : (x : ℕ) (xs : List ℕ) → IsRising (x ∷ xs) → IsRising xs
rest_rises x [] h = tt
rest_rises x (y ∷ ys) h = h.1

pub rising_distinct : (xs : List ℕ) → IsRising xs → IsDistinct eqb xs
unfolding IsDistinct
rising_distinct [] h = tt
rising_distinct (x ∷ xs) h = (all_more (λ y. x < y) (λ y. eqb x y ≡ false) (λ y k. ne_eqb x y (λ e. absurd (omega (arith, e, k)))) xs (above x xs h), rising_distinct xs (rest_rises x xs h))

-- numbers of a list without repetitions, all of them below n and passing a test, are no more than those below n that pass
pub few_below : (p : ℕ → Bool) (xs : List ℕ) (n : ℕ) → IsDistinct eqb xs → AllByRecursion (λ k. k < n) xs → ((k : ℕ) → contains xs k ≡ true → p k ≡ true) → length xs ≤ count_by p (count_from 0 n)
few_below p xs n distinct below passes =
    omega (arith, length-le_from_is_member nat_eq_equiv xs (filter p (count_from 0 n)) distinct each, length-filter p (count_from 0 n))
  where
    within : (ys : List ℕ) → AllByRecursion (λ k. k < n) ys → (k : ℕ) → Has k ys → k < n
    within [] a k h = absurd h
    within (y ∷ ys) a k (inl e) = omega (arith, e, a.0)
    within (y ∷ ys) a k (inr e) = within ys a.1 k e

    each : (k : ℕ) → is_member eqb xs k ≡ true → is_member eqb (filter p (count_from 0 n)) k ≡ true
    each k h =
        let i = member_has xs k h in
        has_member (filter p (count_from 0 n)) k (has_filter p (count_from 0 n) k (has_from 0 n k k (omega arith) (within xs below k i)) (passes k (has_contains xs k i)))
