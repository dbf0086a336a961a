-- Lists by key: the keys with their lists, in the keys' order.
use Rattle.std.specs.Prelude.{◌≡◌, Bool, if◌then◌else◌, List, [], ◌∷◌, ◌++◌, unwrap_or}
use Rattle.std.specs.declared.cmp.Ordering.{Ordering}
use Rattle.std.specs.Ordering.{eq_by_cmp}
use Rattle.std.specs.Map.{lookup}

-- the list at the key that passes a test, or nothing where none does
abbrev pub list_at : {K T : Type 0} → (K → Bool) → List (K × List T) → List T
list_at test lists = unwrap_or (lookup test lists) []

-- the items of all lists, key by key
abbrev pub items_of : {K T : Type 0} → List (K × List T) → List T
items_of [] = []
items_of (l ∷ rest) = l.1 ++ items_of rest

-- the same with one item more, which is somewhere among them
pub record IsPutAmong {T : Type 0} (xs : List T) (x : T) (ys : List T) : Type 0 where
  pub before : List T
  pub behind : List T
  pub were : xs ≡ before ++ behind
  pub are : ys ≡ before ++ x ∷ behind

-- the item is at the end of the list at its key, and the lists at other keys are as they were
pub record IsPushed {K T : Type 0} (cmp : K → K → Ordering) (old : List (K × List T)) (key : K) (item : T) (new : List (K × List T)) : Type 0 where
  pub at : (q : K) → list_at (eq_by_cmp cmp q) new ≡ (if eq_by_cmp cmp key q then list_at (eq_by_cmp cmp key) old ++ item ∷ [] else list_at (eq_by_cmp cmp q) old)
  pub among : IsPutAmong (items_of old) item (items_of new)
