-- The faulty nodes are read exactly where the document says them.
use Rattle.std.proofs.Common.{◌≡◌, ◌≤◌, ℕ, List, length, map, Ok, codes}
use Rattle.serde_json.specs.Data.{Members}
use Rattle.serde_json.specs.Find.{get_member}
use Rattle.txn_types.specs.declared.message.Node.{Node}
use Rattle.txn_types.specs.Nodes.{rank_of}
use Rattle.txn_types.specs.Rising.{IsRising}
use Rattle.doc_forms.specs.declared.fault.Which.TheVariants as word
use Rattle.doc_forms.specs.Tables.{node_named}
use Rattle.doc_forms.specs.Meaning.{IsNodeName}
use Rattle.doc_forms.proofs.LookUps.{NodesDiffer, nodes_find, finds_itself}
use Rattle.doc_forms.proofs.SetsMeant.{set_at_means, set_at_reads, set_count}
use Rattle.doc_tables.specs.Faulty.{faulty}
use Rattle.doc_tables.specs.FaultyMeaning.{SaysFaulty}

pub faulty_means : (orderers peers : List (List ℕ)) → NodesDiffer orderers peers → (ms : Members) (nodes : List Node) → faulty orderers peers ms ≡ Ok nodes → SaysFaulty orderers peers ms nodes
unfolding faulty
faulty_means orderers peers differ ms nodes e = set_at_means rank_of (node_named orderers peers) (IsNodeName orderers peers) (nodes_find orderers peers differ) (codes "faulty") 0 32 word.Faulty ms nodes e

pub faulty_reads : (orderers peers : List (List ℕ)) → NodesDiffer orderers peers → (ms : Members) (nodes : List Node) → SaysFaulty orderers peers ms nodes → faulty orderers peers ms ≡ Ok nodes
unfolding faulty
faulty_reads orderers peers differ ms nodes s = set_at_reads rank_of (node_named orderers peers) (IsNodeName orderers peers) (nodes_find orderers peers differ) (codes "faulty") 0 32 word.Faulty ms nodes s

-- they fit into a set of nodes
pub faulty_fit : (orderers peers : List (List ℕ)) (ms : Members) (nodes : List Node) → faulty orderers peers ms ≡ Ok nodes → (length nodes ≤ 32) × IsRising (map rank_of nodes)
unfolding faulty
faulty_fit orderers peers ms nodes e =
    let s = set_at_means rank_of (node_named orderers peers) _ (finds_itself (node_named orderers peers)) (codes "faulty") 0 32 word.Faulty ms nodes e in
    ((set_count rank_of _ 0 32 (get_member (codes "faulty") ms) nodes s).1, s.rising)
