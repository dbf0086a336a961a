-- Sums over a ledger, in its order and the latest first.
use Rattle.std.proofs.Common.{◌≡◌, ◌<◌, ◌≤◌, ℕ, zero, suc, ◌+◌, List, [], ◌∷◌, length, map, reverse, take, Some, slice_get, refl, sym, ap, ◌∙◌, arith}
use Rattle.std.specs.List.{sum_by}
use Rattle.std.proofs.lemmas.List.{reverse-append, take_all}
use Rattle.txn_types.specs.declared.txn.Outcome.{Outcome}
use Rattle.std.proofs.lemmas.List.Sums.{sum_by-cons, sum_by_push}
use Rattle.oxii_defs.specs.Lines as lines
use Rattle.hash_ledger.specs.declared.entry.Entry.{Entry}
use Rattle.hash_ledger.specs.Ledgers.{completed_of, entry_of, entries_of}

module _ (f : lines.Entry → ℕ) where
  -- the order doesn't matter
  reversed : (xs : List lines.Entry) → sum_by f (reverse xs) ≡ sum_by f xs
  reversed [] = refl
  reversed (x ∷ xs) = ap (sum_by f) (reverse-append (x ∷ []) xs) ∙ sum_by_push f (reverse xs) x ∙ (let more = reversed xs in omega (arith, more, sum_by-cons f x xs))

  by_entries : (es : List Entry) → sum_by f (entries_of es) ≡ sum_by (λ e. f (entry_of e)) es
  by_entries [] = refl
  by_entries (e ∷ es) = let more = by_entries es in omega (arith, more, sum_by-cons f (entry_of e) (entries_of es), sum_by-cons (λ (x : Entry). f (entry_of x)) e es)

  pub over_completed : (es : List Entry) → sum_by f (completed_of es) ≡ sum_by (λ e. f (entry_of e)) es
  over_completed es = reversed (entries_of es) ∙ by_entries es

same_outcomes : (os ps : List Outcome) → Some os ≡ Some ps → os ≡ ps
same_outcomes os ps h = cc

module _ (g : List Outcome → ℕ) where
  one_more : (es : List Entry) (i : ℕ) (os : List Outcome) → i < length es → slice_get (map (λ e. e.outcomes) es) i ≡ Some os →
      sum_by (λ e. g e.outcomes) (take (suc i) es) ≡ sum_by (λ e. g e.outcomes) (take i es) + g os
  one_more [] i os lt is = absurd (omega arith)
  one_more (e ∷ es) zero os lt is = ap (λ (ps : List Outcome). 0 + g ps) (same_outcomes e.outcomes os is)
  one_more (e ∷ es) (suc i) os lt is =
      let f = λ (x : Entry). g x.outcomes in
      let more = one_more es i os (omega arith) is in
      omega (arith, more, sum_by-cons f e (take (suc i) es), sum_by-cons f e (take i es))

  -- the count goes on with one entry more
  pub counted_more : (es : List Entry) (i : ℕ) (os ps : List Outcome) (count n : ℕ) → i < length es → slice_get (map (λ e. e.outcomes) es) i ≡ Some os → ps ≡ os → n ≡ g ps →
      count ≡ sum_by (λ e. g e.outcomes) (take i es) → count + n ≡ sum_by (λ e. g e.outcomes) (take (i + 1) es)
  counted_more es i os ps count n lt is same one so_far =
      let next : suc i ≡ i + 1 = omega arith in
      ap (λ k. k + n) so_far ∙ ap (λ k. sum_by (λ (e : Entry). g e.outcomes) (take i es) + k) (one ∙ ap g same)
      ∙ sym (one_more es i os lt is) ∙ ap (λ k. sum_by (λ (e : Entry). g e.outcomes) (take k es)) next

  -- all entries are counted
  pub counted_all : (es : List Entry) (i count : ℕ) → length es ≤ i → count ≡ sum_by (λ e. g e.outcomes) (take i es) → count ≡ sum_by (λ e. g e.outcomes) (completed_of es)
  counted_all es i count all so_far =
      so_far ∙ ap (sum_by (λ (e : Entry). g e.outcomes)) (take_all i es all) ∙ sym (over_completed (λ e. g e.outcomes) es)
