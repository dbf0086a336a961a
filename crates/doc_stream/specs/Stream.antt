-- The stream, with its first fault: items, of which at most 4,096 are requests and at most 256 configurations.
use Rattle.std.specs.Prelude.{ℕ, ◌+◌, List, [], ◌∷◌, ◌++◌, codes, Option, Some, None, Result, Ok, Err, nat_le, if◌then◌else◌}
use Rattle.std.specs.Str.{bytes_eq}
use Rattle.serde_json.specs.Data.{Data, Members}
use Rattle.serde_json.specs.Find.{as_str, as_object, get_member}
use Rattle.txn_types.specs.declared.stream.Item.{Item}
use Rattle.txn_types.specs.declared.stream.Item.TheVariants.{Ask, Mark, Config}
use Rattle.doc_forms.specs.declared.fault.Which.TheVariants as word
use Rattle.doc_forms.specs.Faults.{Fault, Field, Limit}
use Rattle.doc_forms.specs.Check.{◌>>=◌}
use Rattle.doc_forms.specs.Forms.{list_at}
use Rattle.doc_stream.specs.declared.reading.Made.{Made}
use Rattle.doc_stream.specs.Requests.{stream_request}
use Rattle.doc_stream.specs.Configs.{stream_config}

-- before the first item
abbrev pub no_items_yet : Made
no_items_yet = record { items = []; requests = 0; configs = 0 }

-- a request: the count comes before the keys
unfoldable pub add_request : List (List ℕ) → Made → Members → Result Made Fault
add_request records made ms = if nat_le 4096 made.requests then Err (Limit word.Transactions 4096) else (do
  r ← stream_request records ms
  Ok (record { items = made.items ++ Ask r ∷ []; requests = made.requests + 1; configs = made.configs }))

-- a configuration: the count comes before the keys
unfoldable pub add_config : List (List ℕ) → List (List ℕ) → Made → Members → Result Made Fault
add_config apps peers made ms = if nat_le 256 made.configs then Err (Limit word.Configs 256) else (do
  c ← stream_config apps peers ms
  Ok (record { items = made.items ++ Config c ∷ []; requests = made.requests; configs = made.configs + 1 }))

abbrev pub add_mark : Made → Made
add_mark made = record { items = made.items ++ Mark ∷ []; requests = made.requests; configs = made.configs }

-- an object with the key `config` is a configuration, one without it a request
abbrev pub by_key : List (List ℕ) → List (List ℕ) → List (List ℕ) → Made → Members → Option Data → Result Made Fault
by_key records apps peers made ms (Some d) = add_config apps peers made ms
by_key records apps peers made ms None = add_request records made ms

unfoldable pub add_object : List (List ℕ) → List (List ℕ) → List (List ℕ) → Made → Members → Result Made Fault
add_object records apps peers made ms = by_key records apps peers made ms (get_member (codes "config") ms)

-- no string but `cut`
unfoldable pub add_text : Made → List ℕ → Result Made Fault
add_text made text = if bytes_eq text (codes "cut") then Ok (add_mark made) else Err (Field [])

-- a string or an object, nothing else
abbrev pub by_kind : List (List ℕ) → List (List ℕ) → List (List ℕ) → Made → Option (List ℕ) → Option Members → Result Made Fault
by_kind records apps peers made (Some text) ms = add_text made text
by_kind records apps peers made None (Some ms) = add_object records apps peers made ms
by_kind records apps peers made None None = Err (Field [])

unfoldable pub next_item : List (List ℕ) → List (List ℕ) → List (List ℕ) → Made → Data → Result Made Fault
next_item records apps peers made d = by_kind records apps peers made (as_str d) (as_object d)

unfoldable pub stream : List (List ℕ) → List (List ℕ) → List (List ℕ) → Members → Result (List Item) Fault
stream records apps peers ms = do
  made ← list_at (codes "stream") 0 8192 word.Items (next_item records apps peers) no_items_yet ms
  Ok made.items
