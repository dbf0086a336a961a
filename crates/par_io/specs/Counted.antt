-- A reader or a writer of std beside its count of faults.
use Rattle.std.specs.Prelude.{ℕ}

-- what is inside, and how often it failed
pub record Counted (T : Type 0) : Type 0 where
  pub inner : T
  pub faults : ℕ
