-- Entries of lists, and entries that may be none.
use Rattle.std.specs.Prelude.{ℕ, zero, suc, ◌≡◌, ◌<◌, Bool, true, false, List, length, get_or, replicate, refl, Option, Some, None, is_some}
use Rattle.std.proofs.Common.{sym, ◌∙◌, ⊎_elim}
use Rattle.std.proofs.lemmas.Bool.{false≢true, cases_lt}
use Rattle.std.proofs.lemmas.Option.{none-some}
use Rattle.std.proofs.lemmas.List.{get_or_past}

-- a list of one thing has it at each place, and beyond
pub all_same : {A : Type 0} (n t : ℕ) (x : A) → get_or (replicate n x) t x ≡ x
all_same zero t x = refl
all_same (suc n) zero x = refl
all_same (suc n) (suc t) x = all_same n t x

-- what is some, and what is none
pub some_of : {A : Type 0} (o : Option A) → is_some o ≡ true → (x : A) × (o ≡ Some x)
some_of (Some x) h = (x, refl)
some_of None h = absurd (false≢true h)

pub none_of : {A : Type 0} (o : Option A) → is_some o ≡ false → o ≡ None
none_of (Some x) h = absurd (false≢true (sym h))
none_of None h = refl

-- only a place of the list has something
pub has_place : {A : Type 0} (xs : List (Option A)) (t : ℕ) (x : A) → get_or xs t None ≡ Some x → t < length xs
has_place xs t x h = ⊎_elim (λ c. c) (λ c. absurd (none-some x (sym (get_or_past xs t None c) ∙ h))) (cases_lt t (length xs))
