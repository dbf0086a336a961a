-- The fields of a pass fit what its seat knows, after each call.
use Rattle.std.proofs.Common.{◌≡◌, ◌≢◌, ℕ, zero, suc, Bool, true, false, ◌+◌, ◌<◌, ◌≤◌, ◌⊎◌, inl, inr, ⊎_elim, List, [], ◌∷◌, ◌++◌, length, set, get_or, sym, refl, ap, ◌∙◌, subst, arith, length-set, get_or-set_other, get_or-set_same}
use mathlib.Core.Logic.{dite}
use native.Mathlib.Decide.{ℕ_discrete, dec_lt}
use Rattle.board_core.specs.declared.view.View.{View}
use Rattle.board_core.specs.Counts.{Run, IsAmong, times_run, times_pair, times_first, hit_pair, hit, times}
use Rattle.board_core.specs.Script.{Script}
use Rattle.board_core.specs.Steps.{publishing, writing, loaded, swapped, begun, finished, counted_down, joined}
use Rattle.board_core.specs.Parts.{Counts, Published, Entered, Wrote}
use Rattle.board_core.specs.Passes.{AreRuns, Fits, IsSettled, AreFlags}
use Rattle.std.proofs.Common.{Option, Some, None, eqb, eq-eqb, ne_eqb, take, cond, ◌||◌}
use Rattle.std.specs.Prelude.{is_some, if◌then◌else◌}
use Rattle.std.proofs.lemmas.List.{take_more}
use Rattle.board_core.proofs.Totals.{times-append, times_pair-append, times_first-append, times_run-append, times-noted, extra_yes, extra_no, hit_same, hit_else, hit_pair_same, hits, pair_hits}

-- a place of a list of flags that is set
set_flag : (flags : List Bool) (xs : List ℕ) (t : ℕ) → t < length flags → ((x : ℕ) → x < length flags → (get_or flags x false ≡ true → 0 < times x xs) × (0 < times x xs → get_or flags x false ≡ true))
    → (x : ℕ) → x < length flags → (get_or (set flags t true) x false ≡ true → 0 < times x (t ∷ xs)) × (0 < times x (t ∷ xs) → get_or (set flags t true) x false ≡ true)
set_flag flags xs t l old x lx = dite (ℕ_discrete x t)
    (λ e. let h = hit_same x t (sym e) in ((λ _. omega arith), λ _. subst (λ y. get_or (set flags t true) y false ≡ true) (sym e) (get_or-set_same flags t true false l)))
    (λ ne. let same = get_or-set_other flags t x true false ne in (
      (λ is. let a = (old x lx).0 (sym same ∙ is) in omega arith),
      λ pos. same ∙ (old x lx).1 (⊎_elim (λ p. absurd (ne (sym p.0))) (λ p. let z = p.1 in omega arith) (hits x t)),
    ))

pub flag_set : (flags : List Bool) (xs : List ℕ) (t : ℕ) → t < length flags → AreFlags xs flags → AreFlags (t ∷ xs) (set flags t true)
flag_set flags xs t l old x lx = set_flag flags xs t l old x (let e = length-set flags t true in omega arith)

-- a place of a list of stamps that is set
stamped : (stamps : List ℕ) (xs : List (ℕ × ℕ)) (t b : ℕ) → t < length stamps → ((x y : ℕ) → get_or stamps x 0 ≡ y + 1 → 0 < times_pair x y xs)
    → (x y : ℕ) → get_or (set stamps t (b + 1)) x 0 ≡ y + 1 → 0 < times_pair x y ((t, b) ∷ xs)
stamped stamps xs t b l old x y is = dite (ℕ_discrete x t)
    (λ e. let a = get_or-set_same stamps t (b + 1) 0 l in let c : get_or (set stamps t (b + 1)) x 0 ≡ get_or (set stamps t (b + 1)) t 0 = ap (λ k. get_or (set stamps t (b + 1)) k 0) e in
    ⊎_elim (λ p. let d = p.2 in omega arith) (λ p. absurd (p.0 (sym e) (omega arith))) (pair_hits x y (t, b)))
    (λ ne. let a = get_or-set_other stamps t x (b + 1) 0 ne in let c = old x y (sym a ∙ is) in omega arith)

has_stamp : (stamps : List ℕ) (xs : List (ℕ × ℕ)) (t b : ℕ) → t < length stamps → ((x : ℕ) → 0 < times_first x xs → 0 < get_or stamps x 0)
    → (x : ℕ) → 0 < times_first x ((t, b) ∷ xs) → 0 < get_or (set stamps t (b + 1)) x 0
has_stamp stamps xs t b l old x pos = dite (ℕ_discrete x t)
    (λ e. let a = get_or-set_same stamps t (b + 1) 0 l in let c : get_or (set stamps t (b + 1)) x 0 ≡ get_or (set stamps t (b + 1)) t 0 = ap (λ k. get_or (set stamps t (b + 1)) k 0) e in omega arith)
    (λ ne. let a = get_or-set_other stamps t x (b + 1) 0 ne in let z = hit_else x t (λ e. ne (sym e)) in let c = old x (omega arith) in omega arith)

pub fits_taken : (v : View) (duty tried : List Bool) (begins : List ℕ) (run_at : ℕ → Option Run) (t b : ℕ) → t < length duty → Fits v duty tried begins run_at
    → Fits (begun t b (swapped t 0 (loaded t 0 v))) duty (set tried t true) (set begins t (b + 1)) run_at
fits_taken v duty tried begins run_at t b l h = record {
  live = h.live;
  as_long = (length-set tried t true ∙ h.as_long.0, length-set begins t (b + 1) ∙ h.as_long.1);
  duties = h.duties;
  marks = flag_set tried v.tried t (let a = h.as_long.0 in omega arith) h.marks;
  begun = stamped begins v.begins t b (let a = h.as_long.1 in omega arith) h.begun;
  has_begun = has_stamp begins v.begins t b (let a = h.as_long.1 in omega arith) h.has_begun;
  run = h.run;
  has_run = h.has_run;
}

some-same : (r q : Run) → Some r ≡ Some q → r ≡ q
some-same r q e = ap (λ (o : Option Run). or_run o r) e
  where
    or_run : Option Run → Run → Run
    or_run (Some x) d = x
    or_run None d = d

-- counting
pub counts_none : (s : ℕ) (v : View) (made : List ℕ) → Counts [] s v v made made
counts_none s v made = record { same = refl; counted = λ y. omega arith; others = λ x y ne. refl; duties = λ y. omega arith; made_of = λ y. omega arith }

pub counts_more : (r q : List ℕ) (s : ℕ) (v w u : View) (a b c : List ℕ) → Counts r s v w a b → Counts q s w u b c → Counts (r ++ q) s v u a c
counts_more r q s v w u a b c h k = record {
  same = k.same ∙ ap (λ (z : View). record z { duties = u.duties; counted = u.counted }) h.same;
  counted = λ y. let d = h.counted y in let e = k.counted y in let f = times-append y r q in omega arith;
  others = λ x y ne. k.others x y ne ∙ h.others x y ne;
  duties = λ y. let d = h.duties y in let e = k.duties y in omega arith;
  made_of = λ y. let d = h.made_of y in let e = k.made_of y in let f = times-append y r q in omega arith;
}

edge_hit : (s t y : ℕ) → hit_pair s y (s, t) ≡ hit y t
edge_hit s t y = ⊎_elim (λ p. let a = p.2 in let b = hit_same y t p.1 in omega arith) (λ p. let a = p.1 in ⊎_elim (λ q. absurd (p.0 refl q.0)) (λ q. let b = q.1 in omega arith) (hits y t)) (pair_hits s y (s, t))

no_edge : (s t x y : ℕ) → x ≢ s → hit_pair x y (s, t) ≡ 0
no_edge s t x y ne = ⊎_elim (λ p. absurd (ne (sym p.0))) (λ p. p.1) (pair_hits x y (s, t))

pub counts_plain : (s t n : ℕ) (v : View) (made : List ℕ) → n ≢ 1 → Counts (t ∷ []) s v (counted_down s t n v) made made
counts_plain s t n v made ne = record {
  same = refl;
  counted = λ y. let a = edge_hit s t y in omega arith;
  others = λ x y other. let a = no_edge s t x y other in omega arith;
  duties = λ y. let a = times-noted (eqb n 1) y t v.duties in let b = extra_no (eqb n 1) y t (ne_eqb n 1 ne) in omega arith;
  made_of = λ y. omega arith;
}

pub counts_duty : (s t n : ℕ) (v : View) (made : List ℕ) → n ≡ 1 → Counts (t ∷ []) s v (counted_down s t n v) made (made ++ t ∷ [])
counts_duty s t n v made is = record {
  same = refl;
  counted = λ y. let a = edge_hit s t y in omega arith;
  others = λ x y other. let a = no_edge s t x y other in omega arith;
  duties = λ y. let a = times-noted (eqb n 1) y t v.duties in let b = extra_yes (eqb n 1) y t (eq-eqb n 1 is) in let c = times-append y made (t ∷ []) in omega arith;
  made_of = λ y. let c = times-append y made (t ∷ []) in omega arith;
}

-- the part of a list that a loop has been through
pub times-take : (y i : ℕ) (xs : List ℕ) → i < length xs → times y (take (i + 1) xs) ≡ times y (take i xs) + hit y (get_or xs i 0)
times-take y i xs l = let e = take_more xs i 0 l in ap (times y) e ∙ (let a = times-append y (take i xs) (get_or xs i 0 ∷ []) in omega arith)

pub times-take-le : (y i : ℕ) (xs : List ℕ) → times y (take i xs) ≤ times y xs
times-take-le y zero xs = omega arith
times-take-le y (suc i) [] = omega arith
times-take-le y (suc i) (x ∷ xs) = let a = times-take-le y i xs in omega arith

pub times-take-lt : (y i : ℕ) (xs : List ℕ) → i < length xs → get_or xs i 0 ≡ y → times y (take i xs) < times y xs
times-take-lt y i xs l is = let a = times-take y i xs l in let b = times-take-le y (i + 1) xs in let c = hit_same y (get_or xs i 0) is in omega arith

-- the run of t at its place, and the others as before
abbrev pub HasRun : ℕ → Run → (ℕ → Option Run) → (ℕ → Option Run) → Type 0
HasRun t r before after = (after t ≡ Some r) × ((x : ℕ) → x ≢ t → after x ≡ before x)

pub fits_ended : (v w : View) (duty duty' tried : List Bool) (begins : List ℕ) (run_at run_at' : ℕ → Option Run) (t b f : ℕ) → w ≡ record (finished t b f v) { duties = w.duties; counted = w.counted; published = w.published; written = w.written }
    → AreFlags w.duties duty' → length duty' ≡ length duty → HasRun t (t, v.number, b, f) run_at run_at' → Fits v duty tried begins run_at → Fits w duty' tried begins run_at'
fits_ended v w duty duty' tried begins run_at run_at' t b f same fit size put h = subst (λ (z : View). Fits z duty' tried begins run_at') (sym same) record {
  live = h.live;
  as_long = (h.as_long.0 ∙ sym size, h.as_long.1 ∙ sym size);
  duties = fit;
  marks = h.marks;
  begun = h.begun;
  has_begun = h.has_begun;
  run = λ x r is. dite (ℕ_discrete x t)
      (λ e. let same : (t, v.number, b, f) ≡ r = some-same (t, v.number, b, f) r (sym put.0 ∙ (ap run_at' (sym e) ∙ is)) in (ap (λ (z : Run). z.0) (sym same) ∙ sym e, inl same))
      (λ ne. let old = h.run x r (sym (put.1 x ne) ∙ is) in (old.0, inr old.1));
  has_run = λ x pos. dite (ℕ_discrete x t) (λ e. ap is_some (ap run_at' e ∙ put.0))
      (λ ne. let z = hit_else x t (λ e. ne (sym e)) in ap is_some (put.1 x ne) ∙ h.has_run x (omega arith));
}

-- a list with the run put at its place
pub run_put : {A : Type 0} (run_of : Option A → Option Run) (xs : List (Option A)) (t : ℕ) (x : A) (r : Run) → t < length xs → run_of (Some x) ≡ Some r → HasRun t r (λ k. run_of (get_or xs k None)) (λ k. run_of (get_or (set xs t (Some x)) k None))
run_put run_of xs t x r l is = (ap run_of (get_or-set_same xs t (Some x) None l) ∙ is, λ k ne. ap run_of (get_or-set_other xs t k (Some x) None ne))

-- a join
or_cases : (a b : Bool) → (a || b) ≡ true → (a ≡ true) ⊎ (b ≡ true)
or_cases true b e = inl refl
or_cases false b e = inr e

or_left : (a b : Bool) → a ≡ true → (a || b) ≡ true
or_left true b e = refl
or_left false b e = absurd (cc)

or_right : (a b : Bool) → b ≡ true → (a || b) ≡ true
or_right true b e = refl
or_right false b e = e

flags_joined : (xs ys : List ℕ) (a b c : List Bool) → length c ≡ length a → length a ≡ length b → ((k : ℕ) → k < length c → get_or c k false ≡ (get_or a k false || get_or b k false)) → AreFlags xs a → AreFlags ys b → AreFlags (xs ++ ys) c
flags_joined xs ys a b c la lb each f h t l = let app = times-append t xs ys in let e = each t l in let p = f t (omega arith) in let q = h t (omega arith) in (
  (λ is. ⊎_elim (λ x. let m = p.0 x in omega arith) (λ x. let m = q.0 x in omega arith) (or_cases (get_or a t false) (get_or b t false) (sym e ∙ is))),
  (λ pos. e ∙ dite (ℕ_discrete (times t xs) 0) (λ z. or_right (get_or a t false) (get_or b t false) (q.1 (omega arith))) (λ n. or_left (get_or a t false) (get_or b t false) (p.1 (omega arith)))),
)

stamp_cases : (a b c : ℕ) → c ≡ cond (eqb b 0) a b → ((b ≡ 0) × (c ≡ a)) ⊎ ((0 < b) × (c ≡ b))
stamp_cases a b c e = dite (ℕ_discrete b 0) (λ z. inl (z, e ∙ ap (λ t. cond t a b) (eq-eqb b 0 z))) (λ n. inr (omega arith, e ∙ ap (λ t. cond t a b) (ne_eqb b 0 n)))

-- a place beyond a list is 0
beyond : (xs : List ℕ) (k : ℕ) → length xs ≤ k → get_or xs k 0 ≡ 0
beyond [] k l = refl
beyond (x ∷ xs) zero l = absurd (omega arith)
beyond (x ∷ xs) (suc k) l = beyond xs k (omega arith)

stamps_joined : (xs ys : List (ℕ × ℕ)) (a b c : List ℕ) → length c ≡ length a → ((k : ℕ) → k < length c → get_or c k 0 ≡ cond (eqb (get_or b k 0) 0) (get_or a k 0) (get_or b k 0))
    → ((t x : ℕ) → get_or a t 0 ≡ x + 1 → 0 < times_pair t x xs) → ((t x : ℕ) → get_or b t 0 ≡ x + 1 → 0 < times_pair t x ys) → (t x : ℕ) → get_or c t 0 ≡ x + 1 → 0 < times_pair t x (xs ++ ys)
stamps_joined xs ys a b c la each f h t x is = let app = times_pair-append t x xs ys in dite (dec_lt t (length c))
    (λ l. ⊎_elim (λ p. let m = f t x (sym p.1 ∙ is) in omega arith) (λ p. let m = h t x (sym p.1 ∙ is) in omega arith) (stamp_cases (get_or a t 0) (get_or b t 0) (get_or c t 0) (each t l)))
    (λ n. let z = beyond c t (let k = n in omega arith) in absurd (omega arith))

has_joined : (xs ys : List (ℕ × ℕ)) (a b c : List ℕ) → length c ≡ length a → length a ≡ length b → ((k : ℕ) → k < length c → get_or c k 0 ≡ cond (eqb (get_or b k 0) 0) (get_or a k 0) (get_or b k 0))
    → ((t : ℕ) → 0 < times_first t xs → 0 < get_or a t 0) → ((t : ℕ) → 0 < times_first t ys → 0 < get_or b t 0) → (t : ℕ) → 0 < times_first t (xs ++ ys) → 0 < get_or c t 0
has_joined xs ys a b c la lb each f h t pos = let app = times_first-append t xs ys in dite (dec_lt t (length c))
    (λ l. ⊎_elim (λ p. let q = p.0 in let r = p.1 in dite (ℕ_discrete (times_first t xs) 0) (λ z. let m = h t (omega arith) in absurd (omega arith)) (λ n. let m = f t (omega arith) in omega arith)) (λ p. let q = p.0 in let r = p.1 in omega arith) (stamp_cases (get_or a t 0) (get_or b t 0) (get_or c t 0) (each t l)))
    (λ n. let z = beyond a t (let k = n in omega arith) in let y = beyond b t (let k = n in omega arith) in dite (ℕ_discrete (times_first t xs) 0) (λ z'. let m = h t (omega arith) in absurd (omega arith)) (λ n'. let m = f t (omega arith) in absurd (omega arith)))

abbrev pub IsOr : List Bool → List Bool → List Bool → Type 0
IsOr a b c = (k : ℕ) → k < length c → get_or c k false ≡ (get_or a k false || get_or b k false)

abbrev pub IsStamps : List ℕ → List ℕ → List ℕ → Type 0
IsStamps a b c = (k : ℕ) → k < length c → get_or c k 0 ≡ cond (eqb (get_or b k 0) 0) (get_or a k 0) (get_or b k 0)

-- a place has the run of the second, where it has one there, else that of the first
abbrev pub AreEither : (ℕ → Option Run) → (ℕ → Option Run) → (ℕ → Option Run) → Type 0
AreEither a b c = (k : ℕ) → c k ≡ (if is_some (b k) then b k else a k)

either_cases : (a b c : Option Run) → c ≡ (if is_some b then b else a) → (c ≡ a) ⊎ (c ≡ b)
either_cases a (Some r) c e = inr e
either_cases a None c e = inl e

either_has : (a b c : Option Run) → c ≡ (if is_some b then b else a) → (is_some a ≡ true) ⊎ (is_some b ≡ true) → is_some c ≡ true
either_has a (Some r) c e h = ap is_some e
either_has a None c e h = ap is_some e ∙ ⊎_elim (λ x. x) (λ x. absurd (cc)) h

pub among_left : (r : Run) (xs ys : List Run) → IsAmong r xs → IsAmong r (xs ++ ys)
among_left r [] ys h = absurd h
among_left r (x ∷ xs) ys h = ⊎_elim (λ e. inl e) (λ e. inr (among_left r xs ys e)) h

pub among_right : (r : Run) (xs ys : List Run) → IsAmong r ys → IsAmong r (xs ++ ys)
among_right r [] ys h = h
among_right r (x ∷ xs) ys h = inr (among_right r xs ys h)

pub among_cases : (r : Run) (xs ys : List Run) → IsAmong r (xs ++ ys) → IsAmong r xs ⊎ IsAmong r ys
among_cases r [] ys h = inr h
among_cases r (x ∷ xs) ys h = ⊎_elim (λ e. inl (inl e)) (λ e. ⊎_elim (λ a. inl (inr a)) (λ b. inr b) (among_cases r xs ys e)) h

pub fits_joined : (v u : View) (d₁ d₂ d t₁ t₂ t : List Bool) (b₁ b₂ b : List ℕ) (r₁ r₂ r : ℕ → Option Run) → length d₁ ≡ length d₂ → length d ≡ length d₁ → length t ≡ length t₁ → length b ≡ length b₁
    → IsOr d₁ d₂ d → IsOr t₁ t₂ t → IsStamps b₁ b₂ b → AreEither r₁ r₂ r → Fits v d₁ t₁ b₁ r₁ → Fits u d₂ t₂ b₂ r₂ → Fits (joined v u) d t b r
fits_joined v u d₁ d₂ d t₁ t₂ t b₁ b₂ b r₁ r₂ r both ld lt lb ed et eb er h k = let p = h.as_long in let q = k.as_long in let p0 = p.0 in let p1 = p.1 in let q0 = q.0 in let q1 = q.1 in record {
  live = let a = times-append v.number v.numbers u.numbers in let c = h.live in omega arith;
  as_long = (omega arith, omega arith);
  duties = flags_joined v.duties u.duties d₁ d₂ d ld both ed h.duties k.duties;
  marks = flags_joined v.tried u.tried t₁ t₂ t lt (omega arith) et h.marks k.marks;
  begun = stamps_joined v.begins u.begins b₁ b₂ b lb eb h.begun k.begun;
  has_begun = has_joined v.begins u.begins b₁ b₂ b lb (omega arith) eb h.has_begun k.has_begun;
  run = λ x z is. ⊎_elim (λ e. let old = h.run x z (sym e ∙ is) in (old.0, among_left z v.spans u.spans old.1)) (λ e. let old = k.run x z (sym e ∙ is) in (old.0, among_right z v.spans u.spans old.1)) (either_cases (r₁ x) (r₂ x) (r x) (er x));
  has_run = λ x pos. let a = times_run-append x v.spans u.spans in
      either_has (r₁ x) (r₂ x) (r x) (er x) (dite (ℕ_discrete (times_run x v.spans) 0) (λ z. inr (k.has_run x (omega arith))) (λ n. inl (h.has_run x (omega arith))));
}

runs_joined : (v u : View) → AreRuns v → AreRuns u → AreRuns (joined v u)
runs_joined v u h k = record {
  numbered = λ r among. let a = times-append r.1 v.numbers u.numbers in ⊎_elim (λ x. let b = h.numbered r x in omega arith) (λ x. let b = k.numbered r x in omega arith) (among_cases r v.spans u.spans among);
  begun = λ r among. let a = times_pair-append r.0 r.2 v.begins u.begins in ⊎_elim (λ x. let b = h.begun r x in omega arith) (λ x. let b = k.begun r x in omega arith) (among_cases r v.spans u.spans among);
  finished = λ r among. let a = times_pair-append r.0 r.3 v.finishes u.finishes in ⊎_elim (λ x. let b = h.finished r x in omega arith) (λ x. let b = k.finished r x in omega arith) (among_cases r v.spans u.spans among);
  each = λ t. let a = times_run-append t v.spans u.spans in let b = times_first-append t v.finishes u.finishes in let c = h.each t in let d = k.each t in omega arith;
}

pub settled_joined : (p : Script) (v u : View) → IsSettled p v → IsSettled p u → IsSettled p (joined v u)
settled_joined p v u h k = record {
  counted = λ s t pos. let a = times_first-append s v.finishes u.finishes in let b = times_pair-append s t v.counted u.counted in
      dite (ℕ_discrete (times_first s v.finishes) 0) (λ z. let c = k.counted s t (omega arith) in omega arith) (λ n. let c = h.counted s t (omega arith) in omega arith);
  unpublished = λ t z. let a = times_first-append t v.finishes u.finishes in let b = times_first-append t v.published u.published in let c = h.unpublished t (omega arith) in let d = k.unpublished t (omega arith) in omega arith;
  unwritten = λ t z. let a = times_first-append t v.finishes u.finishes in let b = times_first-append t v.written u.written in let c = h.unwritten t (omega arith) in let d = k.unwritten t (omega arith) in omega arith;
  runs = λ t pos. let a = times_first-append t v.begins u.begins in dite (ℕ_discrete (times_first t v.begins) 0) (λ z. k.runs t (omega arith)) (λ n. h.runs t (omega arith));
  taken_begun = λ t pos. let a = times-append t v.taken u.taken in let b = times_first-append t v.begins u.begins in dite (ℕ_discrete (times t v.taken) 0) (λ z. let c = k.taken_begun t (omega arith) in omega arith) (λ n. let c = h.taken_begun t (omega arith) in omega arith);
  spans = runs_joined v u h.spans k.spans;
  duties_own = λ t pos. let a = times-append t v.duties u.duties in dite (ℕ_discrete (times t v.duties) 0) (λ z. k.duties_own t (omega arith)) (λ n. h.duties_own t (omega arith));
}

-- publishing and writing
pub published_none : (t : ℕ) (v : View) → Published 0 t v v
published_none t v = record { same = refl; all = λ k l. absurd (omega arith); rest = λ k l. refl; others = λ x ne. refl }

pub published_more : (n t : ℕ) (v w : View) → Published n t v w → Published (n + 1) t v (publishing t n w)
published_more n t v w h = record {
  same = ap (λ (z : View). record z { published = (t, n) ∷ w.published }) h.same;
  all = λ k l. dite (ℕ_discrete k n) (λ e. subst (λ z. 0 < times_pair t z ((t, n) ∷ w.published)) (sym e) (let a = hit_pair_same t n in omega arith)) (λ ne. let a = h.all k (omega arith) in omega arith);
  rest = λ k l. let b = h.rest k (omega arith) in ⊎_elim (λ q. let e = q.1 in absurd (omega arith)) (λ q. let a = q.1 in omega arith) (pair_hits t k (t, n));
  others = λ x ne. let a = hit_else x t (λ e. ne (sym e)) in let b = h.others x ne in omega arith;
}

pub wrote_none : (t : ℕ) (records : List ℕ) (cells : List (Option ℕ)) (v : View) → Wrote 0 t records cells v v
wrote_none t records cells v = record { same = refl; all = λ k x l e. absurd (omega arith); others = λ x ne. refl }

pub wrote_more : (n t : ℕ) (records : List ℕ) (cells : List (Option ℕ)) (v w : View) → Wrote n t records cells v w → Wrote (n + 1) t records cells v (writing t (get_or records n 0) w)
wrote_more n t records cells v w h = let r = get_or records n 0 in record {
  same = ap (λ (z : View). record z { written = (t, r) ∷ w.written }) h.same;
  all = λ k x l e. dite (ℕ_discrete k n) (λ is. subst (λ z. 0 < times_pair t (get_or records z 0) ((t, r) ∷ w.written)) (sym is) (let a = hit_pair_same t r in omega arith)) (λ ne. let a = h.all k x (omega arith) e in omega arith);
  others = λ x ne. let a = hit_else x t (λ e. ne (sym e)) in let b = h.others x ne in omega arith;
}

pub wrote_skip : (n t : ℕ) (records : List ℕ) (cells : List (Option ℕ)) (v w : View) → get_or cells n None ≡ None → Wrote n t records cells v w → Wrote (n + 1) t records cells v w
wrote_skip n t records cells v w empty h = record {
  same = h.same;
  all = λ k x l e. dite (ℕ_discrete k n) (λ is. absurd (none-some x (sym empty ∙ (ap (λ z. get_or cells z None) (sym is) ∙ e)))) (λ ne. h.all k x (omega arith) e);
  others = h.others;
}
  where
    none-some : (x : ℕ) → None ≡ Some x → ⊥
    none-some x e = absurd (cc)

pub wrote_entry : (n t : ℕ) (records : List ℕ) (cells : List (Option ℕ)) (v w u : View) (cell : Option ℕ) → cell ≡ get_or cells n None → Entered cell t (get_or records n 0) w u → Wrote n t records cells v w → Wrote (n + 1) t records cells v u
wrote_entry n t records cells v w u (Some x) is e h = subst (Wrote (n + 1) t records cells v) (sym e) (wrote_more n t records cells v w h)
wrote_entry n t records cells v w u None is e h = subst (Wrote (n + 1) t records cells v) (sym e) (wrote_skip n t records cells v w (sym is) h)
