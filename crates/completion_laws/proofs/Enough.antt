-- Enough entries of different senders carry one content: some content is the first to reach the count.
use Rattle.std.specs.Prelude.{ℕ, ◌==◌, ◌+◌, ◌<◌, ◌≤◌, Bool, true, false, ◌&&◌, ◌||◌, cond, List, [], ◌∷◌, map, length, Option, Some, None, is_some, if◌then◌else◌, count_by, filter, ◌≡◌, refl, ◌⊎◌}
use Rattle.std.specs.List.{list_any, IsDistinct}
use Rattle.std.specs.Option.{option_or}
use Rattle.std.specs.Bool.{Decides}
use Rattle.std.proofs.Common.{sym, ◌∙◌, ap, subst, inl, inr, arith, eqb}
use Rattle.std.proofs.lemmas.Bool.{and_from, eq-eqb, eqb-true, false≢true, cases_lt}
use Rattle.std.proofs.lemmas.Map.Made.{length-le_from_is_member}
use Rattle.std.proofs.lemmas.List.Sums.{length-filter}
use Rattle.std.proofs.lemmas.List.{length-map}
use Rattle.std.specs.Cmp.{nat_eq_equiv}
use Rattle.std.specs.Set.{is_member}
use Rattle.node_defs.specs.Counting.{first_of_each, first_to_reach}
use Rattle.node_defs.proofs.CountingLemmas.{count_by-cons}
use Rattle.node_laws.specs.Fed.{Has}
use Rattle.node_laws.proofs.Same.{or_true}
use Rattle.node_laws.proofs.Counting.{counted_through}

-- what passes stands in the filtered list
pub has_filter : {A : Type 0} (p : A → Bool) (xs : List A) (x : A) → Has x xs → p x ≡ true → Has x (filter p xs)
has_filter p [] x h k = h
has_filter {A} p (y ∷ ys) x h k = one (p y) refl h (λ i. has_filter p ys x i k)
  where
    one : (b : Bool) → p y ≡ b → Has x (y ∷ ys) → (Has x ys → Has x (filter p ys)) → Has x (cond b (y ∷ filter p ys) (filter p ys))
    one true e (inl i) more = inl i
    one true e (inr i) more = inr (more i)
    one false e (inl i) more = absurd (false≢true (sym e ∙ (ap p (sym i) ∙ k)))
    one false e (inr i) more = more i

-- a sender of a list is among its senders
pub sender_in : {A : Type 0} (es : List (ℕ × A)) (k : ℕ) (b : A) → Has (k, b) es → is_member eqb (map (λ (e : ℕ × A). e.0) es) k ≡ true
sender_in [] k b h = absurd h
sender_in {A} (e ∷ es) k b (inl i) = ap (λ c. c || is_member eqb (map (λ (f : ℕ × A). f.0) es) k) (eq-eqb k e.0 (ap (λ (f : ℕ × A). f.0) i))
sender_in {A} (e ∷ es) k b (inr i) = ap (λ c. eqb k e.0 || c) (sender_in es k b i) ∙ or_true (eqb k e.0)

-- what stands q times or more lets something be the first to stand q times
reaches : {A : Type 0} (same : A → A → Bool) → ((x y : A) → Decides (same x y) (x ≡ y)) → (q : ℕ) → 0 < q → (b : A) (xs : List A) → q ≤ count_by (same b) xs → is_some (first_to_reach same q xs) ≡ true
reaches same decides q pos b [] h = absurd (omega (arith, h, pos))
reaches {A} same decides q pos b (x ∷ xs) h = one (first_to_reach same q xs) refl (same b x) refl (λ k. reaches same decides q pos b xs k)
  where
    found : (c : Bool) → c ≡ true → is_some (if c then Some x else None) ≡ true
    found true e = refl
    found false e = absurd (false≢true e)

    one : (o : Option A) → first_to_reach same q xs ≡ o → (t : Bool) → same b x ≡ t → (q ≤ count_by (same b) xs → is_some (first_to_reach same q xs) ≡ true) → is_some (option_or o (if count_by (same x) (x ∷ xs) == q then Some x else None)) ≡ true
    one (Some y) e t k more = refl
    one None e false k more =
        let n : count_by (same b) (x ∷ xs) ≡ cond false 1 0 + count_by (same b) xs = count_by-cons (same b) x xs ∙ ap (λ c. cond c 1 0 + count_by (same b) xs) k in
        absurd (false≢true (ap is_some (sym e) ∙ more (omega (arith, n, h))))
    one None e true k more = two (below (cases_lt (count_by (same b) xs) q))
      where
        below : ((count_by (same b) xs < q) ⊎ (q ≤ count_by (same b) xs)) → count_by (same b) xs < q
        below (inl i) = i
        below (inr i) = absurd (false≢true (ap is_some (sym e) ∙ more i))

        two : count_by (same b) xs < q → is_some (if count_by (same x) (x ∷ xs) == q then Some x else None) ≡ true
        two l =
            let n : count_by (same b) (x ∷ xs) ≡ cond true 1 0 + count_by (same b) xs = count_by-cons (same b) x xs ∙ ap (λ c. cond c 1 0 + count_by (same b) xs) k in
            let full : count_by (same b) (x ∷ xs) ≡ q = omega (arith, n, h, l) in
            let same_one : count_by (same x) (x ∷ xs) ≡ q = ap (λ (z : A). count_by (same z) (x ∷ xs)) (sym ((decides b x).0 k)) ∙ full in
            found (count_by (same x) (x ∷ xs) == q) (eq-eqb _ _ same_one)

-- so many different senders carry a fitting content: some fitting content is the first to reach the count
pub enough : {A : Type 0} (same : A → A → Bool) → ((x y : A) → Decides (same x y) (x ≡ y)) → (fit : A → Bool) (q : ℕ) (es : List (ℕ × A)) (b : A) (N : List ℕ) → 0 < q → q ≤ length N → IsDistinct eqb N → fit b ≡ true →
    ((k : ℕ) → is_member eqb N k ≡ true → Has (k, b) es) → is_some (first_to_reach same q (filter fit (map (λ (e : ℕ × A). e.1) es))) ≡ true
enough {A} same decides fit q es b N pos many distinct fits each =
    let ok : ℕ × A → Bool = λ e. fit e.1 && same b e.1 in
    let in_both : (k : ℕ) → is_member eqb N k ≡ true → is_member eqb (map (λ (e : ℕ × A). e.0) (filter ok es)) k ≡ true = λ k i. sender_in (filter ok es) k b (has_filter ok es (k, b) (each k i) (and_from (fit b) (same b b) fits ((decides b b).1 refl))) in
    let few = length-le_from_is_member nat_eq_equiv N (map (λ (e : ℕ × A). e.0) (filter ok es)) distinct in_both in
    reaches same decides q pos b (filter fit (map (λ (e : ℕ × A). e.1) es))
    (omega (arith, many, few, length-map (filter ok es) (λ (e : ℕ × A). e.0), length-filter ok es, counted_through same fit b es))

-- THE FIRST OF EACH SENDER

-- a sender of a list has an entry among the first of each
pub first_has : {A : Type 0} (xs : List (ℕ × A)) (k : ℕ) (b : A) → Has (k, b) xs → (c : A) × Has (k, c) (first_of_each xs)
first_has [] k b h = absurd h
first_has {A} (x ∷ xs) k b h = one (list_any (λ y. y.0 == x.0) xs) refl h (λ c i. first_has xs k c i)
  where
    found : (ys : List (ℕ × A)) (j : ℕ) → list_any (λ y. y.0 == j) ys ≡ true → (c : A) × Has (j, c) ys
    found [] j e = absurd (false≢true e)
    found (y ∷ ys) j e = at (y.0 == j) refl e (λ i. found ys j i)
      where
        at : (t : Bool) → (y.0 == j) ≡ t → (t || list_any (λ z. z.0 == j) ys) ≡ true → (list_any (λ z. z.0 == j) ys ≡ true → (c : A) × Has (j, c) ys) → (c : A) × Has (j, c) (y ∷ ys)
        at true q r more = (y.1, inl (ap (λ n. (n, y.1)) (sym (eqb-true y.0 j q))))
        at false q r more = let z = more r in (z.0, inr z.1)

    one : (t : Bool) → list_any (λ y. y.0 == x.0) xs ≡ t → Has (k, b) (x ∷ xs) → ((c : A) → Has (k, c) xs → (d : A) × Has (k, d) (first_of_each xs)) → (c : A) × Has (k, c) (cond t (first_of_each xs) (x ∷ first_of_each xs))
    one true e (inl i) more =
        let z = found xs x.0 e in
        let n : k ≡ x.0 = ap (λ (y : ℕ × A). y.0) i in
        more z.0 (subst (λ j. Has (j, z.0) xs) (sym n) z.1)
    one true e (inr i) more = more b i
    one false e (inl i) more = (b, inl i)
    one false e (inr i) more = let z = more b i in (z.0, inr z.1)
