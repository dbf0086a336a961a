-- The records, with their first fault: names in byte order, each with its value.
use Rattle.std.specs.Prelude.{ℕ, ◌==◌, List, [], codes, Option, Some, None, Result, Ok, Err, if◌then◌else◌, ⊤}
use Rattle.std.specs.List.{insert}
use Rattle.serde_json.specs.Data.{Data, Members}
use Rattle.serde_json.specs.Find.{as_array}
use Rattle.serde_json.specs.Find as find
use Rattle.serde_json.specs.Events.{items_len}
use Rattle.txn_types.specs.Values.{max_value}
use Rattle.doc_forms.specs.declared.fault.Which.TheVariants as word
use Rattle.doc_forms.specs.Faults.{Fault, Field, Double}
use Rattle.doc_forms.specs.Check.{◌>>=◌}
use Rattle.doc_forms.specs.Forms.{wanted, name, number_in, list_at}
use Rattle.doc_forms.specs.Tables.{place_of}
use Rattle.doc_forms.specs.Sorted.{gap_of}
use Rattle.doc_tables.specs.RecordsMeaning.{Valued}

-- an array of two
unfoldable pub pair : Data → Result ⊤ Fault
pair d = do
  ds ← wanted (as_array d)
  if items_len ds == 2 then Ok tt else Err (Field [])

-- no such name is there
abbrev pub no_place : Option ℕ → Result ⊤ Fault
no_place (Some i) = Err (Double [])
no_place None = Ok tt

-- a record among those before it, by its name
abbrev pub with_record : Valued → List ℕ → ℕ → Valued
with_record before text n = record { names = insert before.names (gap_of before.names text) text; values = insert before.values (gap_of before.names text) n }

-- an array of two, a new name and a value; a fault in either part is at the array
unfoldable pub next_record : Valued → Data → Result Valued Fault
next_record before d = do
  two ← pair d
  text ← name (find.at 0 d)
  new ← no_place (place_of before.names text)
  n ← number_in 0 max_value word.Value (find.at 1 d)
  Ok (with_record before text n)

unfoldable pub records : Members → Result Valued Fault
records ms = list_at (codes "records") 0 4096 word.Records next_record (record { names = []; values = [] }) ms
