-- What the bytes of a document mean: no order of checks, and no faults.
use Rattle.std.specs.Prelude.{◌≡◌, ℕ, List, [], length, codes, Some}
use Rattle.serde_json.specs.Data.{Data, Members, object, number, unsigned}
use Rattle.serde_json.specs.Find.{get_member}
use Rattle.node_defs.specs.Admission.{pieces_of}
use Rattle.doc_forms.specs.Meaning.{HasNumber, HasText, HasNames, HasOnly}
use Rattle.doc_tables.specs.RecordsMeaning.{SaysRecords}
use Rattle.doc_tables.specs.AppsMeaning.{app_names, SaysApps}
use Rattle.doc_tables.specs.FaultyMeaning.{SaysFaulty}
use Rattle.doc_stream.specs.StreamMeaning.{SaysStream}
use Rattle.doc_schedule.specs.ScheduleMeaning.{SaysSchedule}
use Rattle.input_doc.specs.Inputs.{Input}
use Rattle.input_doc.specs.HeadMeaning.{graph_kind_word, SaysCut}
use Rattle.input_doc.specs.Root.{root_keys, tree_of}

-- a tree says this input, key by key
pub record SaysDocument (tree : Data) (input : Input) : Type 0 where
  pub members : Members
  pub is : tree ≡ object members
  pub version : get_member (codes "version") members ≡ Some (number (unsigned 1))
  pub kind : HasText (get_member (codes "kind") members) (graph_kind_word input.table.kind)
  pub cut : SaysCut (get_member (codes "cut") members) input.limits
  pub records : SaysRecords members (record { names = input.table.records; values = input.genesis })
  pub orderers : HasNames [] 1 16 (get_member (codes "orderers") members) input.table.orderers
  pub quorum : HasNumber 1 (length input.table.orderers) (get_member (codes "quorum") members) input.table.quorum
  pub peers : HasNames input.table.orderers 1 16 (get_member (codes "peers") members) input.table.peers
  pub apps : SaysApps input.table.peers members input.table.apps
  pub stream : SaysStream input.table.records (app_names input.table.apps) input.table.peers members input.items
  pub faulty : SaysFaulty input.table.orderers input.table.peers members input.faulty
  pub schedule : SaysSchedule input.table.orderers input.table.peers input.faulty (pieces_of input.table input.items) members input.schedule
  pub only : HasOnly root_keys members

-- the bytes are JSON, and their tree says this input
pub record Means (bytes : List ℕ) (input : Input) : Type 0 where
  pub tree : Data
  pub read : tree_of bytes ≡ Some tree
  pub says : SaysDocument tree input
