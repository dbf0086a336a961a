-- Lawful inputs: all that the calls that are given one ask for.
use Rattle.std.specs.Prelude.{◌≡◌, ◌≤◌, ◌<◌, List, length, map, is_some, sum_by}
use Rattle.std.specs.List.{All, count_by}
use Rattle.txn_types.specs.Values.{IsValue}
use Rattle.txn_types.specs.Nodes.{rank_of}
use Rattle.txn_types.specs.Rising.{IsRising}
use Rattle.txn_types.specs.declared.block.Body.{Body}
use Rattle.txn_types.specs.declared.message.Node.{Node}
use Rattle.txn_types.specs.declared.message.Node.TheVariants.{Peer, Orderer}
use Rattle.oxii_defs.specs.State.{State}
use Rattle.oxii_defs.specs.Table.{Table}
use Rattle.oxii_defs.specs.Lawful.{IsLawfulTable}
use Rattle.node_defs.specs.Admission.{pieces_of}
use Rattle.node_defs.specs.LawfulItems.{IsLawfulItem, AreLawfulLimits}
use Rattle.node_defs.specs.Sayings.{txns_of_piece, config_of_piece}
use Rattle.node_defs.specs.Programs.{setting_of}
use Rattle.node_defs.specs.LawfulEvents.{AreLawfulEvents}
use Rattle.input_doc.specs.Inputs.{Input}

-- a node of the table
abbrev pub IsNodeOf : Table → Node → Type 0
IsNodeOf table (Peer p) = p < length table.peers
IsNodeOf table (Orderer o) = o < length table.orderers

-- what every call that is given an input asks of it
pub record IsLawfulInput (input : Input) : Type 0 where
  pub table : IsLawfulTable input.table
  pub genesis : length input.genesis ≡ length input.table.records
  pub values : All IsValue input.genesis
  pub count : length input.items ≤ 8192
  pub items : All (IsLawfulItem input.table) input.items
  pub limits : AreLawfulLimits input.limits
  -- the admitted transactions and the configurations
  pub txns : sum_by (λ p. length (txns_of_piece p)) (pieces_of input.table input.items) ≤ 4096
  pub configs : count_by (λ p. is_some (config_of_piece p)) (pieces_of input.table input.items) ≤ 256
  -- the faulty nodes are nodes of the table, each once
  pub faulty : All (IsNodeOf input.table) input.faulty
  pub faulty_count : length input.faulty ≤ 32
  pub faulty_order : IsRising (map rank_of input.faulty)
  -- whatever the state at the start and the agreed blocks
  pub schedule : (genesis : State) (bodies : List Body) → AreLawfulEvents (setting_of input.table genesis input.items bodies input.faulty) input.schedule
