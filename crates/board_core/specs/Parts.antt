-- What the parts of a finish make of a pass: publishing, writing and counting.
use Rattle.std.specs.Prelude.{◌≡◌, ◌≢◌, ℕ, ◌+◌, ◌<◌, ◌≤◌, List, slice_index, slice_index_or, Option, Some, None}
use Rattle.board_core.specs.declared.view.View.{View}
use Rattle.board_core.specs.Counts.{times, times_pair, times_first}
use Rattle.board_core.specs.Steps.{writing}

-- the pass has published the first n parts of t
pub record Published (n t : ℕ) (v w : View) : Type 0 where
  pub same : w ≡ record v { published = w.published }
  pub all : (k : ℕ) → k < n → 0 < times_pair t k w.published
  pub rest : (k : ℕ) → n ≤ k → times_pair t k w.published ≡ times_pair t k v.published
  pub others : (x : ℕ) → x ≢ t → times_first x w.published ≡ times_first x v.published

-- one entry is written, where there is one
abbrev pub Entered : Option ℕ → ℕ → ℕ → View → View → Type 0
Entered (Some x) t r v w = w ≡ writing t r v
Entered None t r v w = w ≡ v

-- the pass has written the first n entries of t
pub record Wrote (n t : ℕ) (records : List ℕ) (cells : List (Option ℕ)) (v w : View) : Type 0 where
  pub same : w ≡ record v { written = w.written }
  pub all : (k x : ℕ) → k < n → slice_index_or cells k None ≡ Some x → 0 < times_pair t (slice_index records k) w.written
  pub others : (x : ℕ) → x ≢ t → times_first x w.written ≡ times_first x v.written

-- the pass has counted the edges from s to each of the row, and some of these have become duties: what was made before, and after
pub record Counts (row : List ℕ) (s : ℕ) (v w : View) (made made' : List ℕ) : Type 0 where
  pub same : w ≡ record v { duties = w.duties; counted = w.counted }
  pub counted : (y : ℕ) → times_pair s y w.counted ≡ times y row + times_pair s y v.counted
  pub others : (x y : ℕ) → x ≢ s → times_pair x y w.counted ≡ times_pair x y v.counted
  pub duties : (y : ℕ) → times y w.duties + times y made ≡ times y made' + times y v.duties
  pub made_of : (y : ℕ) → times y made' ≤ times y row + times y made
