-- Totals over the passes, counts in lists, and sums below a number.
use Rattle.std.proofs.Common.{◌≡◌, ◌≢◌, ℕ, zero, suc, Bool, true, false, ◌&&◌, cond, eqb, eq-eqb, ne_eqb, ◌+◌, ◌*◌, ◌<◌, ◌≤◌, ◌⊎◌, inl, inr, ⊎_elim, List, [], ◌∷◌, ◌++◌, set, sym, refl, ap, ◌∙◌, arith}
use mathlib.Core.Option.{some, some-injective, some-ne-none}
use mathlib.Core.Logic.{dite}
use native.Mathlib.Decide.{ℕ_discrete}
use lib.ListN.{get_elem?}
use Rattle.board_core.specs.declared.view.View.{View}
use Rattle.board_core.specs.Counts.{Run, times_run, hit_pair, times_pair, times_first, times_second, total, below, once_below, noted, hit, times}

-- hits
pub hit_same : (t x : ℕ) → x ≡ t → hit t x ≡ 1
hit_same t x e = ap (λ b. cond b 1 0) (eq-eqb x t e)

pub hit_else : (t x : ℕ) → x ≢ t → hit t x ≡ 0
hit_else t x n = ap (λ b. cond b 1 0) (ne_eqb x t n)

pub hits : (t x : ℕ) → ((x ≡ t) × (hit t x ≡ 1)) ⊎ ((x ≢ t) × (hit t x ≡ 0))
hits t x = dite (ℕ_discrete x t) (λ e. inl (e, hit_same t x e)) (λ n. inr (n, hit_else t x n))

pub hit_is : (t x : ℕ) → 0 < hit t x → x ≡ t
hit_is t x h = ⊎_elim (λ p. p.0) (λ p. let z = p.1 in absurd (omega arith)) (hits t x)

pub hit_pair_same : (s t : ℕ) → hit_pair s t (s, t) ≡ 1
hit_pair_same s t = ap (λ b. cond (b && eqb t t) 1 0) (eq-eqb s s refl) ∙ ap (λ b. cond b 1 0) (eq-eqb t t refl)

pub pair_hits : (s t : ℕ) (x : ℕ × ℕ) → ((x.0 ≡ s) × (x.1 ≡ t) × (hit_pair s t x ≡ 1)) ⊎ (((x.0 ≡ s) → (x.1 ≡ t) → ⊥) × (hit_pair s t x ≡ 0))
pair_hits s t x = dite (ℕ_discrete x.0 s)
    (λ e. dite (ℕ_discrete x.1 t) (λ f. inl (e, f, ap (λ b. cond (b && eqb x.1 t) 1 0) (eq-eqb x.0 s e) ∙ ap (λ b. cond b 1 0) (eq-eqb x.1 t f)))
    (λ n. inr ((λ _ f. n f), ap (λ b. cond (b && eqb x.1 t) 1 0) (eq-eqb x.0 s e) ∙ ap (λ b. cond b 1 0) (ne_eqb x.1 t n))))
    (λ n. inr ((λ e _. n e), ap (λ b. cond (b && eqb x.1 t) 1 0) (ne_eqb x.0 s n)))

-- what a note adds to a count
abbrev pub extra : Bool → ℕ → ℕ → ℕ
extra true x t = hit x t
extra false x t = 0

pub times-noted : (b : Bool) (x t : ℕ) (xs : List ℕ) → times x (noted b t xs) ≡ extra b x t + times x xs
times-noted true x t xs = refl
times-noted false x t xs = omega arith

pub extra_is : (b : Bool) (x t : ℕ) → 0 < extra b x t → (b ≡ true) × (t ≡ x)
extra_is true x t h = (refl, hit_is x t h)
extra_is false x t h = absurd (omega arith)

-- counts in lists
pub times-append : (t : ℕ) (xs ys : List ℕ) → times t (xs ++ ys) ≡ times t xs + times t ys
times-append t [] ys = omega arith
times-append t (x ∷ xs) ys = let h = times-append t xs ys in omega arith

pub times_pair-append : (s t : ℕ) (xs ys : List (ℕ × ℕ)) → times_pair s t (xs ++ ys) ≡ times_pair s t xs + times_pair s t ys
times_pair-append s t [] ys = omega arith
times_pair-append s t (x ∷ xs) ys = let h = times_pair-append s t xs ys in omega arith

pub times_first-append : (t : ℕ) (xs ys : List (ℕ × ℕ)) → times_first t (xs ++ ys) ≡ times_first t xs + times_first t ys
times_first-append t [] ys = omega arith
times_first-append t (x ∷ xs) ys = let h = times_first-append t xs ys in omega arith

pub times_run-append : (t : ℕ) (xs ys : List Run) → times_run t (xs ++ ys) ≡ times_run t xs + times_run t ys
times_run-append t [] ys = omega arith
times_run-append t (x ∷ xs) ys = let h = times_run-append t xs ys in omega arith

pub times_second-append : (t : ℕ) (xs ys : List (ℕ × ℕ)) → times_second t (xs ++ ys) ≡ times_second t xs + times_second t ys
times_second-append t [] ys = omega arith
times_second-append t (x ∷ xs) ys = let h = times_second-append t xs ys in omega arith

pub pair_le_first : (s t : ℕ) (xs : List (ℕ × ℕ)) → times_pair s t xs ≤ times_first s xs
pair_le_first s t [] = omega arith
pair_le_first s t (x ∷ xs) = let h = pair_le_first s t xs in
    ⊎_elim (λ p. let a = p.2 in let b = hit_same s x.0 p.0 in omega arith) (λ p. let a = p.1 in omega arith) (pair_hits s t x)

pub pair_le_second : (s t : ℕ) (xs : List (ℕ × ℕ)) → times_pair s t xs ≤ times_second t xs
pair_le_second s t [] = omega arith
pair_le_second s t (x ∷ xs) = let h = pair_le_second s t xs in
    ⊎_elim (λ p. let a = p.2 in let b = hit_same t x.1 p.1 in omega arith) (λ p. let a = p.1 in omega arith) (pair_hits s t x)

-- totals
pub total_set : (f : View → ℕ) (vs : List View) (i : ℕ) (v w : View) → get_elem? vs i ≡ some v → total f (set vs i w) + f v ≡ total f vs + f w
total_set f [] i v w at = absurd (some-ne-none v (sym at))
total_set f (x ∷ xs) zero v w at = let e : f x ≡ f v = ap f (some-injective x v at) in omega arith
total_set f (x ∷ xs) (suc i) v w at = let h = total_set f xs i v w at in omega arith

-- the total grows by what the pass adds
pub grown : (f : View → ℕ) (vs : List View) (i : ℕ) (v w : View) (d : ℕ) → get_elem? vs i ≡ some v → f w ≡ d + f v → total f (set vs i w) ≡ d + total f vs
grown f vs i v w d at e = let h = total_set f vs i v w at in omega arith

pub kept : (f : View → ℕ) (vs : List View) (i : ℕ) (v w : View) → get_elem? vs i ≡ some v → f w ≡ f v → total f (set vs i w) ≡ total f vs
kept f vs i v w at e = let h = total_set f vs i v w at in omega arith

pub total_at : (f : View → ℕ) (vs : List View) (i : ℕ) (v : View) → get_elem? vs i ≡ some v → f v ≤ total f vs
total_at f [] i v at = absurd (some-ne-none v (sym at))
total_at f (x ∷ xs) zero v at = let e : f x ≡ f v = ap f (some-injective x v at) in omega arith
total_at f (x ∷ xs) (suc i) v at = let h = total_at f xs i v at in omega arith

pub total_snoc : (f : View → ℕ) (vs : List View) (w : View) → total f (vs ++ w ∷ []) ≡ total f vs + f w
total_snoc f [] w = omega arith
total_snoc f (x ∷ xs) w = let h = total_snoc f xs w in omega arith

pub total_le : (f h : View → ℕ) (vs : List View) → ((i : ℕ) (v : View) → get_elem? vs i ≡ some v → f v ≤ h v) → total f vs ≤ total h vs
total_le f h [] le = omega arith
total_le f h (x ∷ xs) le = let a = le 0 x refl in let b = total_le f h xs (λ i v at. le (suc i) v at) in omega arith

pub total_some : (f h : View → ℕ) (vs : List View) → ((i : ℕ) (v : View) → get_elem? vs i ≡ some v → 0 < f v → 0 < h v) → 0 < total f vs → 0 < total h vs
total_some f h [] imp pos = pos
total_some f h (x ∷ xs) imp pos = dite (ℕ_discrete (f x) 0)
    (λ z. let b = total_some f h xs (λ i v at. imp (suc i) v at) (omega arith) in omega arith) (λ n. let a = imp 0 x refl (omega arith) in omega arith)

total_none : (f h : View → ℕ) (vs : List View) → ((i : ℕ) (v : View) → get_elem? vs i ≡ some v → 0 < f v → 0 < h v) → total h vs ≡ 0 → total f vs ≡ 0
total_none f h [] imp z = refl
total_none f h (x ∷ xs) imp z = let b = total_none f h xs (λ i v at. imp (suc i) v at) (omega arith) in
    dite (ℕ_discrete (f x) 0) (λ e. omega arith) (λ n. let a = imp 0 x refl (omega arith) in absurd (omega arith))

-- where one pass alone has what f asks for, the total of f is what this pass has
pub only : (f h : View → ℕ) (vs : List View) (i : ℕ) (v : View) → get_elem? vs i ≡ some v → 0 < h v → total h vs ≤ 1 → ((j : ℕ) (u : View) → get_elem? vs j ≡ some u → 0 < f u → 0 < h u) → total f vs ≡ f v
only f h [] i v at has one imp = absurd (some-ne-none v (sym at))
only f h (x ∷ xs) zero v at has one imp = let e : x ≡ v = some-injective x v at in let e' = ap f e in let e'' = ap h e in
    let z = total_none f h xs (λ j u a. imp (suc j) u a) (omega arith) in omega arith
only f h (x ∷ xs) (suc i) v at has one imp = let t = total_at h xs i v at in let b = only f h xs i v at has (omega arith) (λ j u a. imp (suc j) u a) in
    dite (ℕ_discrete (f x) 0) (λ e. omega arith) (λ n. let a = imp 0 x refl (omega arith) in absurd (omega arith))

-- sums below a number
pub below-add : (n : ℕ) (f h : ℕ → ℕ) → below n (λ x. f x + h x) ≡ below n f + below n h
below-add zero f h = refl
below-add (suc n) f h = let e = below-add n f h in omega arith

pub below_zero : (n : ℕ) (f : ℕ → ℕ) → ((x : ℕ) → x < n → f x ≡ 0) → below n f ≡ 0
below_zero zero f z = refl
below_zero (suc n) f z = let e = below_zero n f (λ x l. z x (omega arith)) in let a = z n (omega arith) in omega arith

-- a sum whose terms but one are 0
pub below_one : (n t : ℕ) (f : ℕ → ℕ) → t < n → ((x : ℕ) → x ≢ t → f x ≡ 0) → below n f ≡ f t
below_one zero t f l z = absurd (omega arith)
below_one (suc n) t f l z = dite (ℕ_discrete n t)
    (λ e. let a = below_zero n f (λ x h. z x (omega arith)) in let b = ap f e in omega arith)
    (λ ne. let a = below_one n t f (omega arith) z in let b = z n ne in omega arith)

pub below_le : (n : ℕ) (f h : ℕ → ℕ) → ((x : ℕ) → x < n → f x ≤ h x) → below n f ≤ below n h
below_le zero f h le = omega arith
below_le (suc n) f h le = let e = below_le n f h (λ x l. le x (omega arith)) in let a = le n (omega arith) in omega arith

pub below_lt : (n t : ℕ) (f h : ℕ → ℕ) → t < n → ((x : ℕ) → x < n → f x ≤ h x) → f t < h t → below n f < below n h
below_lt zero t f h l le lt = absurd (omega arith)
below_lt (suc n) t f h l le lt = dite (ℕ_discrete n t)
    (λ e. let a = below_le n f h (λ x k. le x (omega arith)) in let b = ap f e in let c = ap h e in omega arith)
    (λ ne. let a = below_lt n t f h (omega arith) (λ x k. le x (omega arith)) lt in let b = le n (omega arith) in omega arith)

pub below_most : (n m : ℕ) (f : ℕ → ℕ) → ((x : ℕ) → x < n → f x ≤ m) → below n f ≤ n * m
below_most zero m f le = omega arith
below_most (suc n) m f le = let e = below_most n m f (λ x l. le x (omega arith)) in let a = le n (omega arith) in grind arith

pub once_is_below : (n x : ℕ) → 0 < once_below n x → x < n
once_is_below zero x h = absurd (omega arith)
once_is_below (suc n) x h = dite (ℕ_discrete (once_below n x) 0) (λ z. let e = hit_is x n (omega arith) in omega arith)
    (λ p. let l = once_is_below n x (omega arith) in omega arith)

pub extra_yes : (b : Bool) (x t : ℕ) → b ≡ true → extra b x t ≡ hit x t
extra_yes true x t e = refl
extra_yes false x t e = absurd (cc)

pub extra_no : (b : Bool) (x t : ℕ) → b ≡ false → extra b x t ≡ 0
extra_no true x t e = absurd (cc)
extra_no false x t e = refl

pub extra_le : (b : Bool) (x t : ℕ) → extra b x t ≤ hit x t
extra_le true x t = omega arith
extra_le false x t = omega arith

pub total_two : (f : View → ℕ) (vs : List View) (i j : ℕ) (v u : View) → j ≢ i → get_elem? vs i ≡ some v → get_elem? vs j ≡ some u → f v + f u ≤ total f vs
total_two f [] i j v u other at too = absurd (some-ne-none v (sym at))
total_two f (x ∷ xs) zero zero v u other at too = absurd (other refl)
total_two f (x ∷ xs) zero (suc j) v u other at too = let e : f x ≡ f v = ap f (some-injective x v at) in let a = total_at f xs j u too in omega arith
total_two f (x ∷ xs) (suc i) zero v u other at too = let e : f x ≡ f u = ap f (some-injective x u too) in let a = total_at f xs i v at in omega arith
total_two f (x ∷ xs) (suc i) (suc j) v u other at too = let a = total_two f xs i j v u (λ e. other (ap suc e)) at too in omega arith

all_zero : (f : View → ℕ) (vs : List View) → ((j : ℕ) (u : View) → get_elem? vs j ≡ some u → f u ≡ 0) → total f vs ≡ 0
all_zero f [] z = refl
all_zero f (x ∷ xs) z = let a = z 0 x refl in let b = all_zero f xs (λ j u at. z (suc j) u at) in omega arith

pub lone : (f : View → ℕ) (vs : List View) (i : ℕ) (v : View) → get_elem? vs i ≡ some v → ((j : ℕ) (u : View) → j ≢ i → get_elem? vs j ≡ some u → f u ≡ 0) → total f vs ≡ f v
lone f [] i v at z = absurd (some-ne-none v (sym at))
lone f (x ∷ xs) zero v at z = let e : f x ≡ f v = ap f (some-injective x v at) in let b = all_zero f xs (λ j u a. z (suc j) u (λ q. absurd (omega arith)) a) in omega arith
lone f (x ∷ xs) (suc i) v at z = let a = z 0 x (λ q. absurd (omega arith)) refl in let b = lone f xs i v at (λ j u ne q. z (suc j) u (λ e. ne (omega arith)) q) in omega arith

pub snoc_grown : (f : View → ℕ) (vs : List View) (i : ℕ) (v w u : View) (d : ℕ) → get_elem? vs i ≡ some v → f w ≡ f v → f u ≡ d → total f (set vs i w ++ u ∷ []) ≡ d + total f vs
snoc_grown f vs i v w u d at e z = let a = total_snoc f (set vs i w) u in let b = kept f vs i v w at e in omega arith

pub join_kept : (f : View → ℕ) (vs : List View) (i j : ℕ) (v w both gone : View) → get_elem? vs i ≡ some v → get_elem? (set vs i both) j ≡ some w → f both + f gone ≡ f v + f w → total f (set (set vs i both) j gone) ≡ total f vs
join_kept f vs i j v w both gone at too e = let a = total_set f vs i v both at in let b = total_set f (set vs i both) j w gone too in omega arith

pub snoc_kept : (f : View → ℕ) (vs : List View) (i : ℕ) (v w u : View) → get_elem? vs i ≡ some v → f w ≡ f v → f u ≡ 0 → total f (set vs i w ++ u ∷ []) ≡ total f vs
snoc_kept f vs i v w u at e z = let a = total_snoc f (set vs i w) u in let b = kept f vs i v w at e in omega arith
