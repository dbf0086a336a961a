-- An outcome read back from its words.
use Rattle.std.proofs.Common.{◌≡◌, ◌≢◌, ℕ, zero, suc, ne_eqb, cond, ◌+◌, ◌*◌, ◌-◌, ◌<◌, ◌≤◌, List, [], ◌∷◌, ◌++◌, length, take, get_or, sym, refl, ap, ◌∙◌, subst, arith, Option, Some, None}
use mathlib.Core.Option.{some, some-injective, some-ne-none}
use lib.ListN.{get_elem?}
use Rattle.std.proofs.lemmas.List.{take_more, take_all}
use Rattle.txn_types.specs.declared.txn.Reason.{Reason}
use Rattle.txn_types.specs.declared.txn.Reason.TheVariants.{Require, Overflow, Underflow, ZeroDivisor, Undeclared}
use Rattle.txn_types.specs.declared.txn.Outcome.{Outcome}
use Rattle.txn_types.specs.declared.txn.Outcome.TheVariants.{Abort, Commit}
use Rattle.board_core.specs.Words.{part}
use Rattle.board_work.specs.Scripts.{word_of, reason_word, cell_word}
use Rattle.board_words.specs.Words.{cell_back, reason_back, cells_of}

pub word_zero : (o : Option Outcome) → word_of o 0 ≡ 0 → None ≡ o
word_zero None e = refl
word_zero (Some (Abort Require)) e = absurd (omega arith)
word_zero (Some (Abort Overflow)) e = absurd (omega arith)
word_zero (Some (Abort Underflow)) e = absurd (omega arith)
word_zero (Some (Abort ZeroDivisor)) e = absurd (omega arith)
word_zero (Some (Abort Undeclared)) e = absurd (omega arith)
word_zero (Some (Commit cells)) e = absurd (omega arith)

word_one : (o : Option Outcome) → word_of o 0 ≡ 1 → o ≡ Some (Commit (cells_of o))
word_one None e = absurd (omega arith)
word_one (Some (Abort Require)) e = absurd (omega arith)
word_one (Some (Abort Overflow)) e = absurd (omega arith)
word_one (Some (Abort Underflow)) e = absurd (omega arith)
word_one (Some (Abort ZeroDivisor)) e = absurd (omega arith)
word_one (Some (Abort Undeclared)) e = absurd (omega arith)
word_one (Some (Commit cells)) e = refl

-- where the first word is 1, it commits
pub commits : (ws : List ℕ) (o : Option Outcome) (t first : ℕ) → part ws t 0 ≡ word_of o 0 → first ≡ get_or ws (38 * t + 5) 0 → first ≡ 1 → o ≡ Some (Commit (cells_of o))
commits ws o t first means is one = word_one o (sym means ∙ (ap (λ i. get_or ws i 0) {y = 38 * t + 5} (omega arith) ∙ (sym is ∙ one)))

reason_is : (r : Reason) → reason_back (reason_word r) ≡ r
reason_is Require = refl
reason_is Overflow = refl
reason_is Underflow = refl
reason_is ZeroDivisor = refl
reason_is Undeclared = refl

pub word_more : (o : Option Outcome) (n : ℕ) → n ≡ word_of o 0 → n ≢ 0 → n ≢ 1 → Some (Abort (reason_back n)) ≡ o
word_more None n e a b = absurd (a e)
word_more (Some (Abort r)) n e a b = ap (λ k. Some (Abort k)) (ap reason_back e ∙ reason_is r)
word_more (Some (Commit cells)) n e a b = absurd (b e)

pub cell_is : (c : Option ℕ) → cell_back (cell_word c) ≡ c
cell_is (Some x) = ap (λ b. cond b None (Some (x + 2 - 2))) (ne_eqb (x + 2) 1 (λ e. absurd (omega arith))) ∙ ap Some (omega arith)
cell_is None = refl

pub word_cell : (o : Option Outcome) (k w : ℕ) → o ≡ Some (Commit (cells_of o)) → w ≡ word_of o (k + 1) → (0 < w) × (cell_back w ≡ get_or (cells_of o) k None)
word_cell o k w is e = let same : w ≡ cell_word (get_or (cells_of o) k None) = e ∙ (ap (λ z. word_of z (k + 1)) is ∙ ap (λ j. word_of (Some (Commit (cells_of o))) j) {y = suc k} (omega arith)) in
    (subst (λ z. 0 < z) (sym same) (positive (get_or (cells_of o) k None)), ap cell_back same ∙ cell_is (get_or (cells_of o) k None))
  where
    positive : (c : Option ℕ) → 0 < cell_word c
    positive (Some x) = omega arith
    positive None = omega arith

pub at_or : (xs : List ℕ) (i x : ℕ) → get_elem? xs i ≡ some x → get_or xs i 0 ≡ x
at_or [] i x e = absurd (some-ne-none x (sym e))
at_or (y ∷ ys) zero x e = some-injective y x e
at_or (y ∷ ys) (suc i) x e = at_or ys i x e

-- one more entry is read
pub read_more : (o : Option Outcome) (k w : ℕ) (cells new : List (Option ℕ)) (cell : Option ℕ) → o ≡ Some (Commit (cells_of o)) → k < length (cells_of o) → w ≡ word_of o (k + 1) → cell ≡ cell_back w → cells ≡ take k (cells_of o) → new ≡ cells ++ cell ∷ [] → new ≡ take (k + 1) (cells_of o)
read_more o k w cells new cell is l word c old e = e ∙ ((λ i. old i ++ (c ∙ (word_cell o k w is word).1) i ∷ []) ∙ sym (take_more (cells_of o) k None l))

pub read_whole : (o : Option Outcome) (k : ℕ) (cells : List (Option ℕ)) → o ≡ Some (Commit (cells_of o)) → length (cells_of o) ≤ k → cells ≡ take k (cells_of o) → Some (Commit cells) ≡ o
read_whole o k cells is l e = ap (λ y. Some (Commit y)) (e ∙ take_all k (cells_of o) l) ∙ sym is
