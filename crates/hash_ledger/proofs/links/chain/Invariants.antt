-- What each turn of the loops of `chain` keeps.
use Rattle.std.proofs.Common.{◌≡◌, ◌+◌, ◌++◌, drop}
use Rattle.oxii_defs.specs.Chain.{chain, chain_from}
use Rattle.txn_core.specs.MeantTable.{table_of}
use Rattle.hash_ledger.proofs.links.chain.Given as goal

abbrev pub invariant-loop-body : goal.invariant-loop-body
invariant-loop-body l = record {
  count : l.number ≡ l.body-index + 1;
  left : l.blocks ++ chain_from (table_of l.table) l.number l.prev (drop l.body-index l.body-items) ≡ chain (table_of l.table) l.bodies;
  same : l.body-items ≡ l.bodies;
}
