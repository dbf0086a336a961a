-- The order of nodes: peers before orderers, each by their positions in the table.
use Rattle.std.specs.Prelude.{ℕ, ◌+◌}
use Rattle.txn_types.specs.declared.message.Node.{Node}
use Rattle.txn_types.specs.declared.message.Node.TheVariants.{Peer, Orderer}

-- positions are below 256
abbrev pub rank_of : Node → ℕ
rank_of (Peer p) = p
rank_of (Orderer o) = 256 + o
