-- What each theme of the rule is about: the lists of one pass, and their totals over all passes.
use Rattle.std.specs.Prelude.{ℕ, nat_lt, ◌+◌, List, if◌then◌else◌}
use Rattle.board_core.specs.declared.view.View.{View}
use Rattle.board_core.specs.Counts.{times, times_pair, times_first, times_second, total}

-- THE COUNTERS

-- what a pass knows of them
pub record CounterPart : Type 0 where
  pub ready : List ℕ
  pub tried : List ℕ
  pub taken : List ℕ
  pub duties : List ℕ
  pub counted : List (ℕ × ℕ)

abbrev pub counter_part : View → CounterPart
counter_part v = record { ready = v.ready; tried = v.tried; taken = v.taken; duties = v.duties; counted = v.counted }

-- how often each stands in the lists of all passes
pub record CounterSums : Type 0 where
  pub ready : ℕ → ℕ
  pub tried : ℕ → ℕ
  pub taken : ℕ → ℕ
  pub duties : ℕ → ℕ
  pub counted : ℕ → ℕ → ℕ

abbrev pub counters_of : List View → CounterSums
counters_of vs = record {
  ready = λ t. total (λ v. times t v.ready) vs;
  tried = λ t. total (λ v. times t v.tried) vs;
  taken = λ t. total (λ v. times t v.taken) vs;
  duties = λ t. total (λ v. times t v.duties) vs;
  counted = λ s t. total (λ v. times_pair s t v.counted) vs;
}

-- THE STAMPS

-- what a pass knows of them
pub record StampPart : Type 0 where
  pub begins : List (ℕ × ℕ)
  pub finishes : List (ℕ × ℕ)

abbrev pub stamp_part : View → StampPart
stamp_part v = record { begins = v.begins; finishes = v.finishes }

-- how often each stamp, and each position with a stamp, is in the lists of all passes
pub record StampSums : Type 0 where
  pub begins : ℕ → ℕ → ℕ
  pub finishes : ℕ → ℕ → ℕ
  pub begun : ℕ → ℕ
  pub finished : ℕ → ℕ
  pub stamps : ℕ → ℕ

-- how often x is a stamp of the pass
abbrev pub both_stamps : ℕ → StampPart → ℕ
both_stamps x v = times_second x v.begins + times_second x v.finishes

abbrev pub stamps_of : ℕ → View → ℕ
stamps_of x v = both_stamps x (stamp_part v)

abbrev pub stamp_sums : List View → StampSums
stamp_sums vs = record {
  begins = λ t x. total (λ v. times_pair t x v.begins) vs;
  finishes = λ t x. total (λ v. times_pair t x v.finishes) vs;
  begun = λ t. total (λ v. times_first t v.begins) vs;
  finished = λ t. total (λ v. times_first t v.finishes) vs;
  stamps = λ x. total (stamps_of x) vs;
}

-- THE NUMBERS OF THE PASSES

-- what a pass knows of them
pub record NumberPart : Type 0 where
  pub numbers : List ℕ
  pub passes : ℕ

abbrev pub number_part : View → NumberPart
number_part v = record { numbers = v.numbers; passes = v.passes }

-- how often each number is taken in, and how many passes may make passes
pub record NumberSums : Type 0 where
  pub numbers : ℕ → ℕ
  pub makers : ℕ

-- 1 where the pass may make passes
abbrev pub fewer : ℕ → ℕ
fewer passes = if nat_lt passes 16 then 1 else 0

abbrev pub number_sums : List View → NumberSums
number_sums vs = record {
  numbers = λ k. total (λ v. times k v.numbers) vs;
  makers = total (λ v. fewer v.passes) vs;
}

-- THE CELLS: OUTCOME WORDS, RESULT WORDS AND VALUE WORDS

-- what a pass knows of them
pub record CellPart : Type 0 where
  pub published : List (ℕ × ℕ)
  pub written : List (ℕ × ℕ)

abbrev pub cell_part : View → CellPart
cell_part v = record { published = v.published; written = v.written }

-- how often each part and each record stands in the lists of all passes
pub record CellSums : Type 0 where
  pub published : ℕ → ℕ → ℕ
  pub written : ℕ → ℕ → ℕ

abbrev pub cell_sums : List View → CellSums
cell_sums vs = record {
  published = λ t k. total (λ v. times_pair t k v.published) vs;
  written = λ t r. total (λ v. times_pair t r v.written) vs;
}
