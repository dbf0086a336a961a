-- What is first of each sender, and what is first to reach a count, stays so for a longer list.
use Rattle.std.specs.Prelude.{ℕ, ◌==◌, ◌+◌, ◌<◌, ◌≤◌, Bool, true, false, ◌&&◌, cond, if◌then◌else◌, List, [], ◌∷◌, ◌++◌, map, length, Option, Some, None, count_by, filter, ◌≡◌, refl}
use Rattle.std.specs.List.{list_any, list_all, IsDistinct, AllByRecursion}
use Rattle.std.specs.Option.{option_or}
use Rattle.std.proofs.Common.{sym, ◌∙◌, ap, subst, inl, inr, arith, eqb, ⊎_elim, zero-add}
use Rattle.std.proofs.lemmas.Bool.{eqb-true, or_parts, and_parts, or_cases, true≢false, false≢true}
use Rattle.std.proofs.lemmas.Map.Made.{length-le_from_is_member}
use Rattle.std.proofs.lemmas.List.Sums.{length-filter}
use Rattle.std.proofs.lemmas.List.{length-map}
use Rattle.std.specs.Cmp.{nat_eq_equiv}
use Rattle.std.specs.Set.{is_member}
use Rattle.std.proofs.lemmas.Bool.Decides.{nat_tests}
use Rattle.std.proofs.lemmas.List.{map-append}
use Rattle.std.proofs.lemmas.Option.{none-some, cond_some}
use Rattle.node_defs.specs.Counting.{first_of_each, first_to_reach}
use Rattle.node_defs.proofs.CountingLemmas.{reached_stays, count_by-cons}
use Rattle.node_laws.specs.Fed.{Has}
use Rattle.node_laws.specs.Growth.{Grew}

pub grew_first_of_each : {A : Type 0} (xs new : List (ℕ × A)) → Grew (first_of_each xs) (first_of_each (new ++ xs))
grew_first_of_each xs [] = record { new = []; is = refl }
grew_first_of_each {A} xs (y ∷ new) = one (list_any (λ z. z.0 == y.0) (new ++ xs)) (grew_first_of_each xs new)
  where
    one : (b : Bool) → Grew (first_of_each xs) (first_of_each (new ++ xs)) → Grew (first_of_each xs) (cond b (first_of_each (new ++ xs)) (y ∷ first_of_each (new ++ xs)))
    one true g = g
    one false g = record { new = y ∷ g.new; is = ap (λ zs. y ∷ zs) g.is }

pub grew_map : {A B : Type 0} (f : A → B) (xs ys : List A) → Grew xs ys → Grew (map f xs) (map f ys)
grew_map f xs ys g = record { new = map f g.new; is = ap (map f) g.is ∙ map-append f g.new xs }

filter_append : {A : Type 0} (p : A → Bool) (xs ys : List A) → filter p (xs ++ ys) ≡ filter p xs ++ filter p ys
filter_append p [] ys = refl
filter_append {A} p (x ∷ xs) ys = one (p x) (filter_append p xs ys)
  where
    one : (b : Bool) → filter p (xs ++ ys) ≡ filter p xs ++ filter p ys → cond b (x ∷ filter p (xs ++ ys)) (filter p (xs ++ ys)) ≡ cond b (x ∷ filter p xs) (filter p xs) ++ filter p ys
    one true h = ap (λ zs. x ∷ zs) h
    one false h = h

pub grew_filter : {A : Type 0} (p : A → Bool) (xs ys : List A) → Grew xs ys → Grew (filter p xs) (filter p ys)
grew_filter p xs ys g = record { new = filter p g.new; is = ap (filter p) g.is ∙ filter_append p g.new xs }

pub grew_first : {A : Type 0} (xs ys : List (ℕ × A)) → Grew xs ys → Grew (first_of_each xs) (first_of_each ys)
grew_first xs ys g = rw g.is (grew_first_of_each xs g.new)

pub stays_reached : {A : Type 0} (same : A → A → Bool) (q : ℕ) (xs ys : List A) (x : A) → Grew xs ys → first_to_reach same q xs ≡ Some x → first_to_reach same q ys ≡ Some x
stays_reached same q xs ys x g h = rw g.is (reached_stays same q xs g.new x h)

-- THE QUORUM

eqb_false_sym : (a b : ℕ) → (a == b) ≡ false → eqb b a ≡ false
eqb_false_sym a b h = grind (arith, nat_tests)

abbrev senders : {A : Type 0} → List (ℕ × A) → List ℕ
senders es = map (λ (e : _ × _). e.0) es

any_apart : {A : Type 0} (s : ℕ) (xs : List (ℕ × A)) → list_any (λ y. y.0 == s) xs ≡ false → AllByRecursion (λ y. eqb s y ≡ false) (map (λ (e : ℕ × A). e.0) (first_of_each xs))
any_apart s [] h = tt
any_apart {A} s (x ∷ xs) h = one (list_any (λ y. y.0 == x.0) xs) (or_parts (x.0 == s) (list_any (λ y. y.0 == s) xs) h) (λ g. any_apart s xs g)
  where
    one : (b : Bool) → ((x.0 == s) ≡ false) × (list_any (λ y. y.0 == s) xs ≡ false) → ((list_any (λ y. y.0 == s) xs ≡ false) → AllByRecursion (λ y. eqb s y ≡ false) (map (λ (e : ℕ × A). e.0) (first_of_each xs))) → AllByRecursion (λ y. eqb s y ≡ false) (map (λ (e : ℕ × A). e.0) (cond b (first_of_each xs) (x ∷ first_of_each xs)))
    one true p g = g p.1
    one false p g = (eqb_false_sym x.0 s p.0, g p.1)

-- no sender stands twice
pub distinct_senders : {A : Type 0} (xs : List (ℕ × A)) → IsDistinct eqb (map (λ (e : ℕ × A). e.0) (first_of_each xs))
unfolding IsDistinct
distinct_senders [] = tt
distinct_senders {A} (x ∷ xs) = one (list_any (λ y. y.0 == x.0) xs) refl (distinct_senders xs)
  where
    one : (b : Bool) → list_any (λ y. y.0 == x.0) xs ≡ b → IsDistinct eqb (map (λ (e : ℕ × A). e.0) (first_of_each xs)) → IsDistinct eqb (map (λ (e : ℕ × A). e.0) (cond b (first_of_each xs) (x ∷ first_of_each xs)))
    one true e h = h
    one false e h = (any_apart x.0 xs e, h)

count_more : {A : Type 0} (p : A → Bool) (y : A) (ys : List A) → count_by p ys ≤ count_by p (y ∷ ys)
count_more p y ys = omega (arith, count_by-cons p y ys)

-- what reached the count stands so many times
pub reached_count : {A : Type 0} (same : A → A → Bool) (q : ℕ) (xs : List A) (x : A) → first_to_reach same q xs ≡ Some x → q ≤ count_by (same x) xs
reached_count same q [] x h = absurd (none-some x h)
reached_count {A} same q (y ∷ before) x h = one (first_to_reach same q before) refl h (reached_count same q before x)
  where
    one : (o : Option A) → first_to_reach same q before ≡ o → option_or o (if count_by (same y) (y ∷ before) == q then Some y else None) ≡ Some x → (first_to_reach same q before ≡ Some x → q ≤ count_by (same x) before) → q ≤ count_by (same x) (y ∷ before)
    one (Some z) e h r = let k : q ≤ count_by (same x) before = r (e ∙ h) in omega (arith, k, count_more (same x) y before)
    one None e h r =
        let c = cond_some (count_by (same y) (y ∷ before) == q) y x h in
        let n : count_by (same y) (y ∷ before) ≡ q = eqb-true _ _ c.0 in
        subst (λ z. q ≤ count_by (same z) (y ∷ before)) c.1 (omega (arith, n))

pub keep_member : {A : Type 0} (p : A → Bool) (xs : List A) (x : A) → Has x (filter p xs) → Has x xs × (p x ≡ true)
keep_member p [] x h = absurd h
keep_member {A} p (y ∷ ys) x h = one (p y) refl h (keep_member p ys x)
  where
    one : (b : Bool) → p y ≡ b → Has x (cond b (y ∷ filter p ys) (filter p ys)) → (Has x (filter p ys) → Has x ys × (p x ≡ true)) → Has x (y ∷ ys) × (p x ≡ true)
    one true e (inl i) r = (inl i, ap p i ∙ e)
    one true e (inr i) r = (inr (r i).0, (r i).1)
    one false e i r = (inr (r i).0, (r i).1)

-- some element fails the test, where not all pass
some_fails : {A : Type 0} (p : A → Bool) (xs : List A) → list_all p xs ≡ false → (x : A) × Has x xs × (p x ≡ false)
some_fails p [] h = absurd (true≢false h)
some_fails {A} p (x ∷ xs) h = one (p x) refl h (some_fails p xs)
  where
    one : (b : Bool) → p x ≡ b → (b && list_all p xs) ≡ false → (list_all p xs ≡ false → (y : A) × Has y xs × (p y ≡ false)) → (y : A) × Has y (x ∷ xs) × (p y ≡ false)
    one false e i more = (x, inl refl, e)
    one true e i more = let r = more i in (r.0, inr r.1, r.2)

pub distinct_filter : {A : Type 0} (p : ℕ × A → Bool) (es : List (ℕ × A)) → IsDistinct eqb (map (λ (e : ℕ × A). e.0) es) → IsDistinct eqb (map (λ (e : ℕ × A). e.0) (filter p es))
unfolding IsDistinct
distinct_filter p [] h = tt
distinct_filter {A} p (e ∷ es) h = one (p e) (distinct_filter p es h.1)
  where
    apart : (fs : List (ℕ × A)) → AllByRecursion (λ y. eqb e.0 y ≡ false) (map (λ (f : ℕ × A). f.0) fs) → AllByRecursion (λ y. eqb e.0 y ≡ false) (map (λ (f : ℕ × A). f.0) (filter p fs))
    apart [] k = tt
    apart (f ∷ fs) k = elim (p f) as (λ b. AllByRecursion (λ y. eqb e.0 y ≡ false) (map (λ (g : ℕ × A). g.0) (cond b (f ∷ filter p fs) (filter p fs)))) [ true ↦ (k.0, apart fs k.1) | false ↦ apart fs k.1 ]

    one : (b : Bool) → IsDistinct eqb (map (λ (f : ℕ × A). f.0) (filter p es)) → IsDistinct eqb (map (λ (f : ℕ × A). f.0) (cond b (e ∷ filter p es) (filter p es)))
    one true more = (apart es h.0, more)
    one false more = more

member_of : {A : Type 0} (F : List ℕ) (es : List (ℕ × A)) → list_all (λ e. is_member eqb F e.0) es ≡ true → (k : ℕ) → is_member eqb (map (λ (e : ℕ × A). e.0) es) k ≡ true → is_member eqb F k ≡ true
member_of F [] h k m = absurd (false≢true m)
member_of {A} F (e ∷ es) h k m =
    let parts = and_parts (is_member eqb F e.0) (list_all (λ f. is_member eqb F f.0) es) h in
    ⊎_elim (λ i. subst (λ z. is_member eqb F z ≡ true) (sym (eqb-true k e.0 i)) parts.0) (λ i. member_of F es parts.1 k i) (or_cases (eqb k e.0) (is_member eqb (map (λ (f : ℕ × A). f.0) es) k) m)

-- More than `length F` entries of different senders pass a test: one of them is of a sender outside F.
pub one_outside : {A : Type 0} (p : ℕ × A → Bool) (es : List (ℕ × A)) (F : List ℕ) → IsDistinct eqb (map (λ (e : ℕ × A). e.0) es) → length F < count_by p es → (e : ℕ × A) × Has e es × (p e ≡ true) × (is_member eqb F e.0 ≡ false)
one_outside {A} p es F d l = one (list_all (λ e. is_member eqb F e.0) (filter p es)) refl
  where
    one : (b : Bool) → list_all (λ e. is_member eqb F e.0) (filter p es) ≡ b → (e : ℕ × A) × Has e es × (p e ≡ true) × (is_member eqb F e.0 ≡ false)
    one false h = let r = some_fails (λ e. is_member eqb F e.0) (filter p es) h in let k = keep_member p es r.0 r.1 in (r.0, k.0, k.1, r.2)
    one true h =
        let few = length-le_from_is_member nat_eq_equiv (map (λ (e : ℕ × A). e.0) (filter p es)) F (distinct_filter p es d) (member_of F (filter p es) h) in
        absurd (omega (arith, few, l, length-map (filter p es) (λ (e : ℕ × A). e.0), length-filter p es))

-- how many of the items that pass a test are the same as one
pub counted_through : {A : Type 0} (same : A → A → Bool) (fit : A → Bool) (b : A) (es : List (ℕ × A)) → count_by (same b) (filter fit (map (λ (e : ℕ × A). e.1) es)) ≡ count_by (λ e. fit e.1 && same b e.1) es
counted_through same fit b [] = refl
counted_through {A} same fit b (e ∷ es) = one (fit e.1) (counted_through same fit b es) ∙ sym (count_by-cons (λ (f : ℕ × A). fit f.1 && same b f.1) e es)
  where
    one : (t : Bool) → count_by (same b) (filter fit (map (λ (f : ℕ × A). f.1) es)) ≡ count_by (λ f. fit f.1 && same b f.1) es → count_by (same b) (cond t (e.1 ∷ filter fit (map (λ (f : ℕ × A). f.1) es)) (filter fit (map (λ (f : ℕ × A). f.1) es))) ≡ cond (t && same b e.1) 1 0 + count_by (λ f. fit f.1 && same b f.1) es
    one true h = count_by-cons (same b) e.1 (filter fit (map (λ (f : ℕ × A). f.1) es)) ∙ ap (λ n. cond (same b e.1) 1 0 + n) h
    one false h = h ∙ sym (zero-add (count_by (λ (f : ℕ × A). fit f.1 && same b f.1) es))

-- A content that q different senders carried was carried by one outside F, where F has fewer than q.
-- At NEWBLOCKs F is the faulty orderers and `fit` the right previous hash; at votes F is the faulty agents and `fit` that the outcome fits.
pub honest_among : {A : Type 0} (same : A → A → Bool) (fit : A → Bool) (q : ℕ) (es : List (ℕ × A)) (F : List ℕ) (b : A) → IsDistinct eqb (map (λ (e : ℕ × A). e.0) es) → length F < q → first_to_reach same q (filter fit (map (λ (e : ℕ × A). e.1) es)) ≡ Some b → (e : ℕ × A) × Has e es × (is_member eqb F e.0 ≡ false) × (fit e.1 ≡ true) × (same b e.1 ≡ true)
honest_among {A} same fit q es F b d l h =
    let n = reached_count same q (filter fit (map (λ (e : ℕ × A). e.1) es)) b h in
    let r = one_outside (λ (e : ℕ × A). fit e.1 && same b e.1) es F d (omega (arith, n, l, counted_through same fit b es)) in
    let k = and_parts (fit r.0.1) (same b r.0.1) r.2 in
    (r.0, r.1, r.3, k.0, k.1)
