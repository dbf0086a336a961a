-- Lists of marks, in rising order.
use Rattle.std.specs.Prelude.{◌≡◌, Bool, true, false, ◌||◌, List, Option, Some, None}
use Rattle.std.specs.declared.cmp.Ordering.{Ordering}
use Rattle.std.specs.Ordering.{eq_by_cmp}
use Rattle.std.specs.List.{list_any}
use Rattle.std.specs.List.Sorted.{IsStrictlySortedBy}

-- the mark is among these
abbrev pub is_marked : {M : Type 0} → (M → M → Ordering) → List M → M → Bool
is_marked order marks m = list_any (eq_by_cmp order m) marks

-- in rising order the marks of which this is so, and no others
pub record AreMarks {M : Type 0} (order : M → M → Ordering) (is_so : M → Bool) (marks : List M) : Type 0 where
  pub rising : IsStrictlySortedBy order marks
  pub are : (m : M) → is_marked order marks m ≡ is_so m

-- with one mark more, where it belongs
pub record IsMarkedWith {M : Type 0} (order : M → M → Ordering) (old : List M) (mark : M) (new : List M) : Type 0 where
  pub rising : IsStrictlySortedBy order new
  pub are : (m : M) → is_marked order new m ≡ (eq_by_cmp order m mark || is_marked order old m)

-- with one mark more, unless the same was said
abbrev pub MarksUnless : {M : Type 0} → (M → M → Ordering) → Bool → List M → M → List M → Type 0
MarksUnless order true old mark new = new ≡ old
MarksUnless order false old mark new = IsMarkedWith order old mark new

-- what a saying of x makes of marks, where this was kept of what was said before: the mark is put where it differs
abbrev pub MarksBehind : {A M : Type 0} → (A → A → Bool) → (M → M → Ordering) → List M → M → Option A → A → List M → Type 0
MarksBehind same order old mark None x new = new ≡ old
MarksBehind same order old mark (Some a) x new = MarksUnless order (same a x) old mark new
