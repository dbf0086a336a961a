-- What a document says of its records: no order of checks, and no faults.
use Rattle.std.specs.Prelude.{◌≡◌, ◌↔◌, ℕ, List, codes, map, length, Some}
use Rattle.std.specs.List.{Contains, zip}
use Rattle.serde_json.specs.Data.{Data, array, item, no_items, Members}
use Rattle.serde_json.specs.Find.{get_member}
use Rattle.txn_types.specs.Values.{max_value}
use Rattle.oxii_defs.specs.NameLists.{AllDiffer, AreInOrder}
use Rattle.doc_forms.specs.Meaning.{HasName, HasNumber, HasList}

-- names, and the value of each
pub record Valued : Type 0 where
  pub names : List (List ℕ)
  pub values : List ℕ

-- a pair of a name and a value
pub record SaysRecord (d : Data) (given : List ℕ × ℕ) : Type 0 where
  pub first : Data
  pub second : Data
  pub is : d ≡ array (item first (item second no_items))
  pub named : HasName (Some first) given.0
  pub valued : HasNumber 0 max_value (Some second) given.1

-- pairs with different names; the records are these, in byte order of their names
pub record SaysRecords (ms : Members) (records : Valued) : Type 0 where
  pub given : List (List ℕ × ℕ)
  pub list : HasList SaysRecord 0 4096 (get_member (codes "records") ms) given
  pub differ : AllDiffer (map (λ pair. pair.0) given)
  pub order : AreInOrder records.names
  pub count : length records.values ≡ length records.names
  pub same : (pair : List ℕ × ℕ) → Contains (zip records.names records.values) pair ↔ Contains given pair
