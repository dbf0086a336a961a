-- What a document says of its faulty nodes: no order of checks, and no faults.
use Rattle.std.specs.Prelude.{ℕ, List, codes}
use Rattle.serde_json.specs.Data.{Members}
use Rattle.serde_json.specs.Find.{get_member}
use Rattle.txn_types.specs.declared.message.Node.{Node}
use Rattle.txn_types.specs.Nodes.{rank_of}
use Rattle.doc_forms.specs.Meaning.{IsNodeName, HasSet}

-- up to 32 orderers and peers, each once
abbrev pub SaysFaulty : List (List ℕ) → List (List ℕ) → Members → List Node → Type 0
SaysFaulty orderers peers ms nodes = HasSet rank_of (IsNodeName orderers peers) 0 32 (get_member (codes "faulty") ms) nodes
