-- The previous hash that a false message names.
use Rattle.std.specs.Prelude.{ℕ, codes, List, Option, Some, None, Result, Ok, Err, if◌then◌else◌}
use Rattle.std.specs.Str.{bytes_eq}
use Rattle.serde_json.specs.Data.{Data, Members}
use Rattle.serde_json.specs.Find.{as_str}
use Rattle.hex.specs.Hex.{decode_sized, encode_lower}
use Rattle.hex.specs.declared.error.FromHexError.{FromHexError}
use Rattle.doc_forms.specs.Faults.{Fault}
use Rattle.doc_forms.specs.Check.{◌>>=◌}
use Rattle.doc_forms.specs.Forms.{wanted, at}

-- bytes whose lower-case digits are the text again
abbrev pub if_lower : List ℕ → Result (List ℕ) FromHexError → Option (List ℕ)
if_lower text (Ok bytes) = if bytes_eq (encode_lower bytes) text then Some bytes else None
if_lower text (Err e) = None

-- 32 bytes from 64 lower-case hexadecimal digits
unfoldable pub hash_of : List ℕ → Option (List ℕ)
hash_of text = if_lower text (decode_sized text 32)

-- a hash, which may be left out
unfoldable pub prev : Option Data → Result (Option (List ℕ)) Fault
prev None = Ok None
prev (Some d) = do
  text ← wanted (as_str d)
  bytes ← wanted (hash_of text)
  Ok (Some bytes)

-- the previous hash of a `block` event
unfoldable pub prev_at : Members → Result (Option (List ℕ)) Fault
prev_at ms = at (codes "prev") ms prev
