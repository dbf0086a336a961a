-- The faulty nodes that a document says are nodes of its table, each once.
use Rattle.std.proofs.Common.{◌≤◌, ℕ, List, length, map}
use Rattle.std.specs.Prelude.{codes}
use Rattle.std.specs.List.{All}
use Rattle.std.proofs.lemmas.Option.{slice_get_within}
use Rattle.std.proofs.lemmas.List.Elements.{All-weaker}
use Rattle.serde_json.specs.Data.{Members}
use Rattle.serde_json.specs.Find.{get_member}
use Rattle.txn_types.specs.Nodes.{rank_of}
use Rattle.txn_types.specs.declared.message.Node.{Node}
use Rattle.txn_types.specs.declared.message.Node.TheVariants.{Peer, Orderer}
use Rattle.oxii_defs.specs.Table.{Table}
use Rattle.doc_forms.specs.Meaning.{IsNodeName}
use Rattle.doc_forms.proofs.SetsMeant.{set_count, set_found}
use Rattle.doc_tables.specs.FaultyMeaning.{SaysFaulty}
use Rattle.input_doc.specs.LawfulInputs.{IsNodeOf}

module _ (table : Table) where
  named_is_there : (node : Node) → (text : List ℕ) × IsNodeName table.orderers table.peers text node → IsNodeOf table node
  named_is_there (Peer p) h = slice_get_within table.peers p h.0 h.1
  named_is_there (Orderer o) h = slice_get_within table.orderers o h.0 h.1

  pub faulty_are_nodes : (ms : Members) (faulty : List Node) → SaysFaulty table.orderers table.peers ms faulty → All (IsNodeOf table) faulty
  faulty_are_nodes ms faulty s =
      All-weaker (λ e. (text : List ℕ) × IsNodeName table.orderers table.peers text e) (IsNodeOf table) named_is_there faulty
      (set_found rank_of (IsNodeName table.orderers table.peers) 0 32 (get_member (codes "faulty") ms) faulty s)

  pub faulty_are_few : (ms : Members) (faulty : List Node) → SaysFaulty table.orderers table.peers ms faulty → length faulty ≤ 32
  faulty_are_few ms faulty s = (set_count rank_of (IsNodeName table.orderers table.peers) 0 32 (get_member (codes "faulty") ms) faulty s).1
