-- A document as a whole, with its first fault: the checks in the order of the keys.
use Rattle.std.specs.Prelude.{ℕ, List, [], codes, length, map, Option, Some, None, Result, Ok, Err, ⊤}
use Rattle.serde_json.specs.Data.{Data, Members}
use Rattle.txn_types.specs.declared.txn.Kind.{Kind}
use Rattle.txn_types.specs.declared.stream.Item.{Item}
use Rattle.oxii_defs.specs.Table.{Table}
use Rattle.node_defs.specs.Admission.{pieces_of}
use Rattle.contract_text.specs.TextFaults.{Judge}
use Rattle.doc_forms.specs.declared.fault.Which.TheVariants as word
use Rattle.doc_forms.specs.Faults.{Fault, NotJson}
use Rattle.doc_forms.specs.Check.{◌>>=◌}
use Rattle.doc_forms.specs.Forms.{object, list_at, number_at, only}
use Rattle.doc_forms.specs.Tables.{new_name}
use Rattle.doc_tables.specs.Records.{records}
use Rattle.doc_tables.specs.Apps.{apps}
use Rattle.doc_tables.specs.AppsMeaning.{app_names}
use Rattle.doc_tables.specs.Faulty.{faulty}
use Rattle.doc_stream.specs.Stream.{stream}
use Rattle.doc_schedule.specs.declared.tables.ItemRole.{ItemRole}
use Rattle.doc_schedule.specs.Tables.{role_of}
use Rattle.doc_schedule.specs.Schedule.{schedule}
use Rattle.input_doc.specs.declared.head.Head.{Head}
use Rattle.input_doc.specs.declared.tables.DocNodes.{DocNodes}
use Rattle.input_doc.specs.declared.stream_and_schedule.FaultySchedule.{FaultySchedule}
use Rattle.input_doc.specs.Inputs.{Input}
use Rattle.input_doc.specs.Head.{version_at, graph_kind_at, cut_at}
use Rattle.input_doc.specs.Root.{root_keys, tree_of}

-- the kind of graphs, and how the stream is cut
unfoldable pub first_keys : Members → Result Head Fault
first_keys ms = do
  version ← version_at (codes "version") ms
  kind ← graph_kind_at (codes "kind") ms
  limits ← cut_at (codes "cut") ms
  Ok (record { kind = kind; limits = limits })

-- the orderers and the peers, whose names all differ, and how many NEWBLOCKs of the former make a quorum
unfoldable pub nodes : Members → Result DocNodes Fault
nodes ms = do
  orderers ← list_at (codes "orderers") 1 16 word.Orderers (new_name []) [] ms
  quorum ← number_at (codes "quorum") 1 (length orderers) word.Quorum ms
  peers ← list_at (codes "peers") 1 16 word.Peers (new_name orderers) [] ms
  Ok (record { orderers = orderers; quorum = quorum; peers = peers })

-- the table, and the value of each record at the start
pub record Tables : Type 0 where
  pub table : Table
  pub genesis : List ℕ

unfoldable pub tables : Judge → Kind → Members → Result Tables Fault
tables judge kind ms = do
  valued ← records ms
  nodes ← nodes ms
  apps ← apps judge nodes.peers ms
  Ok (record {
    table = record { kind = kind; records = valued.names; orderers = nodes.orderers; quorum = nodes.quorum; peers = nodes.peers; apps = apps };
    genesis = valued.values;
  })

-- what each item of the stream is to a block
abbrev pub roles_of : Table → List Item → List ItemRole
roles_of table items = map role_of (pieces_of table items)

-- the items of the stream, by the names of the table
unfoldable pub items_for : Table → Members → Result (List Item) Fault
items_for table ms = stream table.records (app_names table.apps) table.peers ms

unfoldable pub only_root_keys : Members → Result ⊤ Fault
only_root_keys ms = only root_keys ms

-- the faulty nodes and the schedule
unfoldable pub faulty_schedule : Table → List Item → Members → Result FaultySchedule Fault
faulty_schedule table items ms = do
  faulty ← faulty table.orderers table.peers ms
  events ← schedule table.orderers table.peers faulty (roles_of table items) ms
  rest ← only_root_keys ms
  Ok (record { faulty = faulty; schedule = events })

-- the root is an object with these keys, in this order
unfoldable pub document : Judge → Data → Result Input Fault
document judge d = do
  ms ← object (Some d)
  head ← first_keys ms
  tables ← tables judge head.kind ms
  items ← items_for tables.table ms
  faulty_schedule ← faulty_schedule tables.table items ms
  Ok (record { table = tables.table; genesis = tables.genesis; items = items; limits = head.limits; faulty = faulty_schedule.faulty; schedule = faulty_schedule.schedule })

abbrev pub read_tree : Judge → Option Data → Result Input Fault
read_tree judge None = Err NotJson
read_tree judge (Some d) = document judge d

-- what the bytes mean, or their first fault, where each contract's text comes to what the judge says
unfoldable pub reading : Judge → List ℕ → Result Input Fault
reading judge bytes = read_tree judge (tree_of bytes)
