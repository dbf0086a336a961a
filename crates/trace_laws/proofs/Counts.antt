-- How often a stamp stands in a list.
use Rattle.std.specs.Prelude.{ℕ, zero, suc, ◌≡◌, ◌<◌, ◌≤◌, ◌+◌, ◌*◌, ◌==◌, nat_lt, Bool, true, false, cond, List, [], ◌∷◌, ◌++◌, length, map, count_by, refl, ◌⊎◌}
use Rattle.std.proofs.Common.{◌∙◌, ap, inl, inr, arith}
use Rattle.std.proofs.lemmas.Bool.{eqb-true}
use Rattle.std.proofs.lemmas.Bool.Decides.{nat_tests}
use Rattle.std.proofs.lemmas.List.Sums.{sum_by-append, count_by-le-length}
use Rattle.node_defs.proofs.CountingLemmas.{count_by-cons}
use Rattle.board_defs.specs.Trace.{Span, stamps}
use Rattle.board_defs.specs.Rounds.{raised_span}
use Rattle.trace_laws.proofs.Members.{Has}

abbrev pub times : ℕ → List ℕ → ℕ
times k xs = count_by (λ x. x == k) xs

pub times_append : (k : ℕ) (xs ys : List ℕ) → times k (xs ++ ys) ≡ times k xs + times k ys
times_append k xs ys = sum_by-append (λ x. cond (x == k) 1 0) xs ys

pub absent : (k : ℕ) (xs : List ℕ) → ((x : ℕ) → Has x xs → x ≡ k → ⊥) → times k xs ≡ 0
absent k [] f = refl
absent k (x ∷ xs) f = one (x == k) refl (absent k xs (λ y h. f y (inr h)))
  where
    one : (b : Bool) → (x == k) ≡ b → times k xs ≡ 0 → times k (x ∷ xs) ≡ 0
    one true e h = absurd (f x (inl refl) (eqb-true x k e))
    one false e h = let c = count_by-cons (λ y. y == k) x xs in let d : ◌≡◌ {A = ℕ} (cond (x == k) 1 0) 0 = ap (λ b. cond b 1 0) e in omega arith

-- all pass, where as many pass as there are
pub all_pass : {A : Type 0} (p : A → Bool) (xs : List A) → length xs ≤ count_by p xs → (x : A) → Has x xs → p x ≡ true
all_pass p [] l x h = absurd h
all_pass {A} p (y ∷ ys) l x h = one (p y) refl h (λ m. all_pass p ys m x)
  where
    one : (b : Bool) → p y ≡ b → Has x (y ∷ ys) → (length ys ≤ count_by p ys → Has x ys → p x ≡ true) → p x ≡ true
    one true e (inl i) more = ap p i ∙ e
    one true e (inr i) more = let c = count_by-cons p y ys in let d : ◌≡◌ {A = ℕ} (cond (p y) 1 0) 1 = ap (λ b. cond b 1 0) e in more (omega arith) i
    one false e i more = let c = count_by-cons p y ys in let d : ◌≡◌ {A = ℕ} (cond (p y) 1 0) 0 = ap (λ b. cond b 1 0) e in let m = count_by-le-length p ys in absurd (omega arith)

one_more : (m x : ℕ) → ◌≡◌ {A = ℕ} (cond (nat_lt x (suc m)) 1 0) (cond (nat_lt x m) 1 0 + cond (x == m) 1 0)
one_more m x = grind (arith, nat_tests)

count_below : (m : ℕ) (xs : List ℕ) → count_by (λ x. nat_lt x (suc m)) xs ≡ count_by (λ x. nat_lt x m) xs + times m xs
count_below m [] = refl
count_below m (x ∷ xs) =
    let a = count_by-cons (λ y. nat_lt y (suc m)) x xs in let b = count_by-cons (λ y. nat_lt y m) x xs in let c = count_by-cons (λ y. y == m) x xs in
    let d = one_more m x in let e = count_below m xs in omega arith

-- m stamps, each once, fill m places
pub fill : (m : ℕ) (xs : List ℕ) → ((k : ℕ) → k < m → times k xs ≡ 1) → m ≤ count_by (λ x. nat_lt x m) xs
fill zero xs f = omega arith
fill (suc m) xs f = let a = fill m xs (λ k l. f k (omega arith)) in let b = count_below m xs in let c = f m (omega arith) in omega arith

-- STAMPS

pub length_stamps : (spans : List Span) → length (stamps spans) ≡ 2 * length spans
length_stamps [] = refl
length_stamps (s ∷ rest) = let h = length_stamps rest in omega arith

pub times_span : (k : ℕ) (s : Span) (rest : List Span) → times k (stamps (s ∷ rest)) ≡ cond (s.begin == k) 1 0 + (cond (s.finish == k) 1 0 + times k (stamps rest))
times_span k s rest = count_by-cons (λ x. x == k) s.begin (s.finish ∷ stamps rest) ∙ ap (λ n. cond (s.begin == k) 1 0 + n) (count_by-cons (λ x. x == k) s.finish (stamps rest))

pub stamps_append : (k : ℕ) (xs ys : List Span) → times k (stamps (xs ++ ys)) ≡ times k (stamps xs) + times k (stamps ys)
stamps_append k [] ys = omega arith
stamps_append k (s ∷ xs) ys = let a = times_span k s (xs ++ ys) in let b = times_span k s xs in let c = stamps_append k xs ys in omega arith

pub stamps_have : (spans : List Span) (s : Span) → Has s spans → Has s.begin (stamps spans) × Has s.finish (stamps spans)
stamps_have [] s h = absurd h
stamps_have (x ∷ rest) s (inl e) = (inl (ap (λ z. z.begin) e), inr (inl (ap (λ z. z.finish) e)))
stamps_have (x ∷ rest) s (inr h) = let r = stamps_have rest s h in (inr (inr r.0), inr (inr r.1))

pub stamp_of : (spans : List Span) (x : ℕ) → Has x (stamps spans) → (s : Span) × Has s spans × ((x ≡ s.begin) ⊎ (x ≡ s.finish))
stamp_of [] x h = absurd h
stamp_of (s ∷ rest) x (inl e) = (s, inl refl, inl e)
stamp_of (s ∷ rest) x (inr (inl e)) = (s, inl refl, inr e)
stamp_of (s ∷ rest) x (inr (inr h)) = let r = stamp_of rest x h in (r.0, inr r.1, r.2)

same_test : (n k x : ℕ) → ◌≡◌ {A = ℕ} (cond (n + x == n + k) 1 0) (cond (x == k) 1 0)
same_test n k x = grind (arith, nat_tests)

pub times_raised : (n k : ℕ) (spans : List Span) → times (n + k) (stamps (map (raised_span n) spans)) ≡ times k (stamps spans)
times_raised n k [] = refl
times_raised n k (s ∷ rest) =
    let a = times_span (n + k) (raised_span n s) (map (raised_span n) rest) in let b = times_span k s rest in
    let c = same_test n k s.begin in let d = same_test n k s.finish in let e = times_raised n k rest in omega arith
