-- What faulty nodes say: blocks with items of the stream.
use Rattle.std.specs.Prelude.{ℕ, suc, List, [], ◌∷◌, Option, Some, None, unwrap_or, get_or}
use Rattle.std.specs.List.{flat_map}
use Rattle.std.specs.Option.{option_or}
use Rattle.txn_types.specs.declared.txn.Kind.{Kind}
use Rattle.txn_types.specs.declared.txn.Txn.{Txn}
use Rattle.txn_types.specs.declared.block.Block.{Block}
use Rattle.txn_types.specs.declared.block.Config.{Config}
use Rattle.txn_types.specs.declared.stream.Piece.{Piece}
use Rattle.txn_types.specs.declared.stream.Piece.TheVariants as piece
use Rattle.txn_types.specs.declared.message.Message.{Message}
use Rattle.txn_types.specs.declared.message.Message.TheVariants as message
use Rattle.oxii_defs.specs.Dependency.{graph_of}
use Rattle.oxii_defs.specs.Chain.{no_hash}

-- the transaction of a piece, if it is one
abbrev pub txns_of_piece : Option Piece → List Txn
txns_of_piece (Some (piece.Call t)) = t ∷ []
txns_of_piece _ = []

-- its configuration, if it is one
abbrev pub config_of_piece : Option Piece → Option Config
config_of_piece (Some (piece.Config c)) = Some c
config_of_piece _ = None

-- the transactions of these items, where the items of the stream carry these pieces
abbrev pub txns_named : List (Option Piece) → List ℕ → List Txn
txns_named pieces items = flat_map (λ i. txns_of_piece (get_or pieces i None)) items

-- the configuration that these items name
abbrev pub config_named : List (Option Piece) → List ℕ → Option Config
config_named pieces [] = None
config_named pieces (i ∷ rest) = option_or (config_of_piece (get_or pieces i None)) (config_named pieces rest)

-- the hash of the agreed block of the number before, if there is one
abbrev pub hash_behind : List (List ℕ) → ℕ → List ℕ
hash_behind hashes (suc (suc m)) = get_or hashes m no_hash
hash_behind hashes _ = no_hash

-- a block with these items, where the agreed blocks have these hashes: where it is left out, the previous hash is that of the number before
abbrev pub said_block : List (List ℕ) → List (Option Piece) → ℕ → Option (List ℕ) → List ℕ → Block
said_block hashes pieces number prev items = record {
  number = number;
  prev = unwrap_or prev (hash_behind hashes number);
  txns = txns_named pieces items;
  config = config_named pieces items;
}

-- its NEWBLOCK: where they are left out, the predecessors are those of the graph
abbrev pub said_newblock : Kind → Block → Option (List (List ℕ)) → Message
said_newblock kind b preds = message.NewBlock (record { block = b; preds = unwrap_or preds (graph_of kind b.txns) })
