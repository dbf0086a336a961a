-- Bytes that are no text, or no document, have no tree.
use Rattle.std.proofs.Common.{◌≡◌, ℕ, List, Bool, true, false, cond, Option, Some, None, refl}
use Rattle.std.specs.Str.{IsUtf8, is_utf8}
use Rattle.std.proofs.lemmas.Str.{IsUtf8-from_is_utf8, is_utf8-from_IsUtf8}
use Rattle.serde_json.specs.Data.{Data}
use Rattle.serde_json.specs.Read.{read}
use Rattle.input_doc.specs.Root.{tree_of}

pub tree_from_read : (bytes : List ℕ) (d : Data) → IsUtf8 bytes → read bytes ≡ Some d → tree_of bytes ≡ Some d
unfolding tree_of
tree_from_read bytes d text is = rw (is_utf8-from_IsUtf8 bytes text) is

by_test : (b : Bool) (r : Option Data) → (b ≡ true → r ≡ None) → cond b r None ≡ None
by_test true r h = h refl
by_test false r h = refl

pub no_tree : (bytes : List ℕ) → (IsUtf8 bytes → read bytes ≡ None) → tree_of bytes ≡ None
unfolding tree_of
no_tree bytes h = by_test (is_utf8 bytes) (read bytes) (λ is. h (IsUtf8-from_is_utf8 bytes is))
