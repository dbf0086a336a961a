-- What a document says first, key by key: no order of checks, and no faults.
use Rattle.std.specs.Prelude.{◌≡◌, ℕ, List, [], ◌∷◌, codes, Option, Some}
use Rattle.serde_json.specs.Data.{Data, Members, object}
use Rattle.serde_json.specs.Find.{get_member}
use Rattle.txn_types.specs.declared.txn.Kind.{Kind}
use Rattle.txn_types.specs.declared.txn.Kind.TheVariants.{Full, Raw}
use Rattle.txn_types.specs.declared.stream.CutLimits.{CutLimits}
use Rattle.doc_forms.specs.Meaning.{HasNumber, HasOnly}

abbrev pub graph_kind_word : Kind → List ℕ
graph_kind_word Full = codes "full"
graph_kind_word Raw = codes "raw"

-- an object with the two limits
pub record SaysCut (v : Option Data) (limits : CutLimits) : Type 0 where
  pub members : Members
  pub is : v ≡ Some (object members)
  pub txns : HasNumber 1 256 (get_member (codes "txns") members) limits.txns
  pub bytes : HasNumber 2048 1048576 (get_member (codes "bytes") members) limits.bytes
  pub only : HasOnly (codes "txns" ∷ codes "bytes" ∷ []) members
