-- What the world of a made input has.
use Rattle.std.proofs.Common.{◌≡◌, ◌≤◌, ◌<◌, ℕ, List, length, sym, ap, subst, arith}
use Rattle.std.specs.List.{All}
use Rattle.txn_types.specs.declared.block.Block.{Block}
use Rattle.oxii_defs.specs.Chain.{chain}
use Rattle.oxii_defs.specs.Table as meant
use Rattle.node_defs.specs.Rules.{Rules}
use Rattle.txn_core.specs.MeantTable.{table_of}
use Rattle.world_laws.specs.Worlds.{KeptWorld}
use Rattle.input_doc.specs.Inputs.{Input}
use Rattle.soak_text.specs.Played.{IsSoakWorld}
use Rattle.soak_text.proofs.Chains.{chain_few}

module _ (seed txns : ℕ) (k : KeptWorld) (blocks : List Block) (w : IsSoakWorld seed txns k blocks) where
  table_is : table_of k.table ≡ w.input.table
  table_is = ap (λ (r : Rules). r.table) (sym w.stands.setting.rules_are)

  pub first_there : 0 < length k.table.peers
  first_there = omega (arith, ap (λ (t : meant.Table). length t.peers) table_is, ap (λ (i : Input). length i.table.peers) w.made.is)

  pub blocks_few : All (λ b. length b.txns ≤ 256) blocks
  blocks_few =
      subst (λ (bs : List Block). All (λ b. length b.txns ≤ 256) bs) (sym w.blocks_are)
      (subst (λ n. All (λ (b : Block). length b.txns ≤ n) (chain w.input.table w.bodies)) (ap (λ (i : Input). i.limits.txns) w.made.is)
      (chain_few w.input.table w.input.limits w.input.items w.bodies w.agreed))
