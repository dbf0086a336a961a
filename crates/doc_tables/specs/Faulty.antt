-- The nodes that a document lets fail, with their first fault.
use Rattle.std.specs.Prelude.{ℕ, List, [], codes, Result}
use Rattle.serde_json.specs.Data.{Members}
use Rattle.txn_types.specs.declared.message.Node.{Node}
use Rattle.txn_types.specs.Nodes.{rank_of}
use Rattle.doc_forms.specs.declared.fault.Which.TheVariants as word
use Rattle.doc_forms.specs.Faults.{Fault}
use Rattle.doc_forms.specs.Forms.{list_at}
use Rattle.doc_forms.specs.Tables.{node_named, new_reference}

-- the faulty nodes, among these orderers and peers
unfoldable pub faulty : List (List ℕ) → List (List ℕ) → Members → Result (List Node) Fault
faulty orderers peers ms = list_at (codes "faulty") 0 32 word.Faulty (new_reference rank_of (node_named orderers peers)) [] ms
