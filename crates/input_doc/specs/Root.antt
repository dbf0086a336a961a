-- The root of a document: the tree of its bytes, and its keys.
use Rattle.std.specs.Prelude.{ℕ, List, [], ◌∷◌, codes, Option, None, if◌then◌else◌}
use Rattle.std.specs.Str.{is_utf8}
use Rattle.serde_json.specs.Data.{Data}
use Rattle.serde_json.specs.Read.{read}

-- the keys of the root
abbrev pub root_keys : List (List ℕ)
root_keys =
    codes "version" ∷ codes "kind" ∷ codes "cut" ∷ codes "records" ∷ codes "orderers" ∷ codes "quorum" ∷ codes "peers"
    ∷ codes "apps" ∷ codes "stream" ∷ codes "faulty" ∷ codes "schedule" ∷ []

-- the tree of the bytes, where they are UTF-8 and JSON of at most 127 levels
unfoldable pub tree_of : List ℕ → Option Data
tree_of bytes = if is_utf8 bytes then read bytes else None
