-- What is first in a document, with its first fault: its version, the kind of graphs, and how the stream is cut.
use Rattle.std.specs.Prelude.{ℕ, ◌==◌, List, [], ◌∷◌, codes, Option, Some, None, option_and_then, Result, Ok, Err, if◌then◌else◌, ⊤}
use Rattle.std.specs.Str.{bytes_eq}
use Rattle.serde_json.specs.Data.{Data, Members, object}
use Rattle.serde_json.specs.Find.{as_str}
use Rattle.txn_types.specs.declared.txn.Kind.{Kind}
use Rattle.txn_types.specs.declared.txn.Kind.TheVariants.{Full, Raw}
use Rattle.txn_types.specs.declared.stream.CutLimits.{CutLimits}
use Rattle.doc_forms.specs.declared.fault.Which.TheVariants as word
use Rattle.doc_forms.specs.Faults.{Fault, Field}
use Rattle.doc_forms.specs.Check.{◌>>=◌}
use Rattle.doc_forms.specs.Forms.{wanted, whole, at, number_at, only}
use Rattle.doc_forms.specs.Forms as form

-- the number 1
unfoldable pub version : Option Data → Result ⊤ Fault
version v = do
  n ← wanted (whole v)
  if n == 1 then Ok tt else Err (Field [])

unfoldable pub version_at : List ℕ → Members → Result ⊤ Fault
version_at k ms = at k ms version

unfoldable pub kind_named : List ℕ → Option Kind
kind_named text = if bytes_eq text (codes "full") then Some Full else (if bytes_eq text (codes "raw") then Some Raw else None)

-- the word of a kind
unfoldable pub kind : Option Data → Result Kind Fault
kind v = do
  text ← wanted (option_and_then as_str v)
  wanted (kind_named text)

unfoldable pub graph_kind_at : List ℕ → Members → Result Kind Fault
graph_kind_at k ms = at k ms kind

-- a block's greatest count of transactions, and of their bytes together
unfoldable pub cut : Option Data → Result CutLimits Fault
cut v = do
  ms ← form.object v
  txns ← number_at (codes "txns") 1 256 word.Cut ms
  bytes ← number_at (codes "bytes") 2048 1048576 word.Cut ms
  rest ← only (codes "txns" ∷ codes "bytes" ∷ []) ms
  Ok (record { txns = txns; bytes = bytes })

unfoldable pub cut_at : List ℕ → Members → Result CutLimits Fault
cut_at k ms = at k ms cut
