-- What events speak of: the faulty nodes by their names, and the items of the stream.
use Rattle.std.specs.Prelude.{ℕ, Bool, List, Option, Some, None, option_and_then, Result, codes, if◌then◌else◌}
use Rattle.std.specs.List.{list_any}
use Rattle.txn_types.specs.declared.message.Node.{Node}
use Rattle.txn_types.specs.declared.stream.Piece.{Piece}
use Rattle.txn_types.specs.declared.stream.Piece.TheVariants as piece
use Rattle.node_defs.specs.Same.{same_node}
use Rattle.serde_json.specs.Data.{Members}
use Rattle.doc_forms.specs.Faults.{Fault}
use Rattle.doc_forms.specs.Forms.{at}
use Rattle.doc_forms.specs.Tables.{node_named, reference}
use Rattle.doc_schedule.specs.declared.tables.ItemRole.{ItemRole}
use Rattle.doc_schedule.specs.declared.tables.ItemRole.TheVariants.{Barred, Call, Config}

-- what a stream item is to a block: a mark or a rejected request carries nothing
abbrev pub role_of : Option Piece → ItemRole
role_of None = Barred
role_of (Some (piece.Call t)) = Call
role_of (Some (piece.Config c)) = Config

abbrev pub is_among : List Node → Node → Bool
is_among nodes node = list_any (same_node node) nodes

abbrev pub if_faulty : List Node → Node → Option Node
if_faulty faulty node = if is_among faulty node then Some node else None

-- the node of this name, where it is a faulty one
unfoldable pub faulty_named : List (List ℕ) → List (List ℕ) → List Node → List ℕ → Option Node
faulty_named orderers peers faulty text = option_and_then (if_faulty faulty) (node_named orderers peers text)

-- the faulty node that an event names
unfoldable pub faulty_at : List (List ℕ) → List (List ℕ) → List Node → Members → Result Node Fault
faulty_at orderers peers faulty ms = at (codes "from") ms (reference (faulty_named orderers peers faulty))
