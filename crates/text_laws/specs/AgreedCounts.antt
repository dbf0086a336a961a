-- How much the agreed blocks carry.
use Rattle.std.specs.Prelude.{◌≡◌, ◌≤◌, List, length, is_some}
use Rattle.std.specs.List.{count_by, sum_by}
use Rattle.txn_types.specs.declared.block.Body.{Body}
use Rattle.txn_types.specs.declared.stream.CutLimits.{CutLimits}
use Rattle.txn_types.specs.declared.stream.Item.{Item}
use Rattle.oxii_defs.specs.Table.{Table}
use Rattle.oxii_defs.specs.Chain.{chain}
use Rattle.node_defs.specs.Admission.{pieces_of}
use Rattle.node_defs.specs.Cutting.{AreAgreed}
use Rattle.node_defs.specs.Sayings.{config_of_piece, txns_of_piece}

-- the blocks have as many transactions as the stream has admitted, and no more configurations
abbrev pub AgreedBlocksCarryTheStream : Type 0
AgreedBlocksCarryTheStream = (table : Table) (limits : CutLimits) (items : List Item) (bodies : List Body) → AreAgreed table limits items bodies →
    (sum_by (λ b. length b.txns) (chain table bodies) ≡ sum_by (λ p. length (txns_of_piece p)) (pieces_of table items))
    × (count_by (λ b. is_some b.config) (chain table bodies) ≤ count_by (λ p. is_some (config_of_piece p)) (pieces_of table items))
