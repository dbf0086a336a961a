-- The forms that a document's values have, each with its first fault.
use Rattle.std.specs.Prelude.{ℕ, suc, ◌==◌, ◌&&◌, ◌||◌, Bool, false, List, [], ◌∷◌, length, Option, Some, None, option_and_then, Result, Ok, Err, nat_le, if◌then◌else◌, ⊤}
use Rattle.std.specs.List.{list_all, list_any}
use Rattle.std.specs.Borrow.{Bor}
use Rattle.std.specs.Str.{bytes_eq}
use Rattle.serde_json.specs.Data.{Data, Items, no_items, item, Members, no_members, member}
use Rattle.serde_json.specs.Find.{as_number, as_u64, as_str, as_array, as_object, get_member}
use Rattle.serde_json.specs.Events.{items_len}
use Rattle.serde_json.specs.View.{view}
use Rattle.serde_json.specs.declared.value.Value.{Value}
use Rattle.doc_forms.specs.declared.fault.Step.TheVariants.{Key, Index}
use Rattle.doc_forms.specs.declared.fault.Which.{Which}
use Rattle.doc_forms.specs.Faults.{Fault, Field, Limit, Name}
use Rattle.doc_forms.specs.Check.{◌>>=◌, within}

-- a value that may be missing, without where it lies in memory
abbrev pub seen : Option (Bor Value) → Option Data
seen None = None
seen (Some v) = Some (view v.now)

-- what is wanted, else a Field fault here
abbrev pub wanted : {A : Type 0} → Option A → Result A Fault
wanted (Some x) = Ok x
wanted None = Err (Field [])

-- a whole number; a value that is missing is none
abbrev pub whole : Option Data → Option ℕ
whole v = option_and_then as_u64 (option_and_then as_number v)

-- a whole number, and it is in range
unfoldable pub number_in : ℕ → ℕ → Which → Option Data → Result ℕ Fault
number_in low high which v = do
  n ← wanted (whole v)
  if nat_le low n && nat_le n high then Ok n else Err (Limit which high)

-- a to z
abbrev pub is_lower : ℕ → Bool
is_lower b = nat_le 97 b && nat_le b 122

-- a lower-case letter, a digit or `_`
unfoldable pub is_name_byte : ℕ → Bool
is_name_byte b = is_lower b || ((nat_le 48 b && nat_le b 57) || (b == 95))

abbrev pub begins_lower : List ℕ → Bool
begins_lower [] = false
begins_lower (first ∷ rest) = is_lower first

-- 1 to 32 bytes, the first a lower-case letter, the others lower-case letters, digits or `_`
unfoldable pub is_name : List ℕ → Bool
is_name bs = nat_le (length bs) 32 && (begins_lower bs && list_all is_name_byte bs)

-- a string that is a name
unfoldable pub name : Option Data → Result (List ℕ) Fault
name v = do
  text ← wanted (option_and_then as_str v)
  if is_name text then Ok text else Err (Name [])

-- an array with so many items
unfoldable pub list_in : ℕ → ℕ → Which → Option Data → Result Items Fault
list_in low high which v = do
  ds ← wanted (option_and_then as_array v)
  if nat_le low (items_len ds) && nat_le (items_len ds) high then Ok ds else Err (Limit which high)

-- each item in turn, from the one with this index on; done is what the items before it made
unfoldable pub each : {S : Type 0} → (S → Data → Result S Fault) → ℕ → S → Items → Result S Fault
each step i done no_items = Ok done
each step i done (item d ds) = within (Index i) (step done d) >>= λ more. each step (suc i) more ds

-- an object's members
abbrev pub object : Option Data → Result Members Fault
object v = wanted (option_and_then as_object v)

-- a check of what the object has at a key
abbrev pub at : {A : Type 0} → List ℕ → Members → (Option Data → Result A Fault) → Result A Fault
at k ms check = within (Key k) (check (get_member k ms))

-- one of the texts
unfoldable pub is_listed : List (List ℕ) → List ℕ → Bool
is_listed texts text = list_any (λ other. bytes_eq other text) texts

-- no key but these: the members are in byte order of their keys, so the fault is at the first other one
unfoldable pub only : List (List ℕ) → Members → Result ⊤ Fault
only keys no_members = Ok tt
only keys (member k d ms) = if is_listed keys k then only keys ms else Err (Field (Key k ∷ []))

-- a list: its length, and then each item in turn
unfoldable pub items : {S : Type 0} → ℕ → ℕ → Which → (S → Data → Result S Fault) → S → Option Data → Result S Fault
items low high which step start v = do
  ds ← list_in low high which v
  each step 0 start ds

unfoldable pub list_at : {S : Type 0} → List ℕ → ℕ → ℕ → Which → (S → Data → Result S Fault) → S → Members → Result S Fault
list_at k low high which step start ms = at k ms (items low high which step start)

unfoldable pub number_at : List ℕ → ℕ → ℕ → Which → Members → Result ℕ Fault
number_at k low high which ms = at k ms (number_in low high which)

unfoldable pub name_at : List ℕ → Members → Result (List ℕ) Fault
name_at k ms = at k ms name
