-- The verdicts are those of the rule, and no others are.
use Rattle.std.proofs.Common.{◌≡◌, ◌⊎◌, inl, inr, ◌<◌, ◌≤◌, ℕ, zero, suc, ◌+◌, Bool, true, false, cond, List, [], ◌∷◌, ◌++◌, length, take, Option, Some, None, Result, Ok, Err, IfOk, slice_get, refl, sym, ap, subst, ◌∙◌, append_assoc, append-nil, arith}
use Rattle.std.proofs.lemmas.Bool.{cases_lt, true≢false}
use Rattle.std.proofs.lemmas.List.{length-append}
use Rattle.std.proofs.lemmas.Option.{none-some, same_Some}
use Rattle.txn_types.specs.declared.txn.Txn.{Txn}
use Rattle.txn_types.specs.declared.txn.Outcome.{Outcome}
use Rattle.xov_mode.specs.declared.judging.Verdict.{Verdict}
use Rattle.xov_mode.specs.declared.judging.Verdict.TheVariants.{Valid, Invalid}
use Rattle.xov_mode.specs.Verdicts.{touches, cause, verdict_for, judged, verdicts_of, IsCause, IsVerdict, AreVerdicts}
use Rattle.xov_mode.specs.Laws.{VerdictsAreMeant}

-- THE FIRST THAT TOUCHES

-- position u is valid and touches these reads
pub record Hits (reads : List ℕ) (ts : List Txn) (os : List Outcome) (vs : List Verdict) (u : ℕ) : Type 0 where
  pub valid : slice_get vs u ≡ Some Valid
  pub one : Txn
  pub outcome : Outcome
  pub is_one : slice_get ts u ≡ Some one
  pub is_outcome : slice_get os u ≡ Some outcome
  pub touches_it : touches one outcome reads ≡ true

pub record IsFirst (reads : List ℕ) (ts : List Txn) (os : List Outcome) (vs : List Verdict) (u : ℕ) : Type 0 where
  pub hits : Hits reads ts os vs u
  pub least : (x : ℕ) → x < u → Hits reads ts os vs x → ⊥

none_valid : ◌≡◌ {A = Option Verdict} None (Some Valid) → ⊥
none_valid e = cc

other_valid : (by : ℕ) → ◌≡◌ {A = Option Verdict} (Some (Invalid by)) (Some Valid) → ⊥
other_valid by e = cc

none_txn : (t : Txn) → ◌≡◌ {A = Option Txn} None (Some t) → ⊥
none_txn t e = cc

none_outcome : (o : Outcome) → ◌≡◌ {A = Option Outcome} None (Some o) → ⊥
none_outcome o e = cc

same_txn : (t u : Txn) → ◌≡◌ {A = Option Txn} (Some t) (Some u) → t ≡ u
same_txn t u e = cc

same_outcome : (t u : Outcome) → ◌≡◌ {A = Option Outcome} (Some t) (Some u) → t ≡ u
same_outcome t u e = cc

module _ (reads : List ℕ) where
  shift : (t : Txn) (ts : List Txn) (o : Outcome) (os : List Outcome) (v : Verdict) (vs : List Verdict) (u : ℕ) → Hits reads ts os vs u → Hits reads (t ∷ ts) (o ∷ os) (v ∷ vs) (suc u)
  shift t ts o os v vs u h = record { valid = h.valid; one = h.one; outcome = h.outcome; is_one = h.is_one; is_outcome = h.is_outcome; touches_it = h.touches_it }

  unshift : (t : Txn) (ts : List Txn) (o : Outcome) (os : List Outcome) (v : Verdict) (vs : List Verdict) (u : ℕ) → Hits reads (t ∷ ts) (o ∷ os) (v ∷ vs) (suc u) → Hits reads ts os vs u
  unshift t ts o os v vs u h = record { valid = h.valid; one = h.one; outcome = h.outcome; is_one = h.is_one; is_outcome = h.is_outcome; touches_it = h.touches_it }

  not_first : (t : Txn) (ts : List Txn) (o : Outcome) (os : List Outcome) (vs : List Verdict) → touches t o reads ≡ false → Hits reads (t ∷ ts) (o ∷ os) (Valid ∷ vs) 0 → ⊥
  not_first t ts o os vs miss h =
      true≢false (sym h.touches_it ∙ (ap (λ x. touches x h.outcome reads) (sym (same_txn t h.one h.is_one)) ∙ (ap (λ x. touches t x reads) (sym (same_outcome o h.outcome h.is_outcome)) ∙ miss)))

  -- the first one, counted from k
  abbrev pub Found : ℕ → List Txn → List Outcome → List Verdict → ℕ → Type 0
  Found k ts os vs w = (u : ℕ) × (w ≡ k + u) × IsFirst reads ts os vs u

  later : (k : ℕ) (t : Txn) (ts : List Txn) (o : Outcome) (os : List Outcome) (v : Verdict) (vs : List Verdict) (w : ℕ) → (Hits reads (t ∷ ts) (o ∷ os) (v ∷ vs) 0 → ⊥) → Found (suc k) ts os vs w → Found k (t ∷ ts) (o ∷ os) (v ∷ vs) w
  later k t ts o os v vs w miss (u, is, first) = (suc u, omega (arith, is), record { hits = shift t ts o os v vs u first.hits; least = least })
    where
      least : (x : ℕ) → x < suc u → Hits reads (t ∷ ts) (o ∷ os) (v ∷ vs) x → ⊥
      least zero lt h = miss h
      least (suc x) lt h = first.least x (omega (arith, lt)) (unshift t ts o os v vs x h)

  pub cause_found : (k : ℕ) (ts : List Txn) (os : List Outcome) (vs : List Verdict) (w : ℕ) → cause k ts os vs reads ≡ Some w → Found k ts os vs w
  cause_found k [] os vs w e = absurd (none-some _ e)
  cause_found k (t ∷ ts) [] vs w e = absurd (none-some _ e)
  cause_found k (t ∷ ts) (o ∷ os) [] w e = absurd (none-some _ e)
  cause_found k (t ∷ ts) (o ∷ os) (Invalid by ∷ vs) w e = later k t ts o os (Invalid by) vs w (λ h. other_valid by h.valid) (cause_found (suc k) ts os vs w e)
  cause_found k (t ∷ ts) (o ∷ os) (Valid ∷ vs) w e = by_test (touches t o reads) refl e (cause_found (suc k) ts os vs w)
    where
      by_test : (b : Bool) → touches t o reads ≡ b → cond b (Some k) (cause (suc k) ts os vs reads) ≡ Some w → (cause (suc k) ts os vs reads ≡ Some w → Found (suc k) ts os vs w) → Found k (t ∷ ts) (o ∷ os) (Valid ∷ vs) w
      by_test true is_hit e more = (
        0,
        (let same = same_Some _ _ e in omega (arith, same)),
        record {
          hits = record { valid = refl; one = t; outcome = o; is_one = refl; is_outcome = refl; touches_it = is_hit };
          least = λ x lt h. omega (arith, lt);
        },
      )
      by_test false miss e more = later k t ts o os Valid vs w (not_first t ts o os vs miss) (more e)

  pub cause_none : (k : ℕ) (ts : List Txn) (os : List Outcome) (vs : List Verdict) → cause k ts os vs reads ≡ None → (u : ℕ) → Hits reads ts os vs u → ⊥
  cause_none k [] os vs e u h = none_txn h.one h.is_one
  cause_none k (t ∷ ts) [] vs e u h = none_outcome h.outcome h.is_outcome
  cause_none k (t ∷ ts) (o ∷ os) [] e u h = none_valid h.valid
  cause_none k (t ∷ ts) (o ∷ os) (Invalid by ∷ vs) e zero h = other_valid by h.valid
  cause_none k (t ∷ ts) (o ∷ os) (Invalid by ∷ vs) e (suc u) h = cause_none (suc k) ts os vs e u (unshift t ts o os (Invalid by) vs u h)
  cause_none k (t ∷ ts) (o ∷ os) (Valid ∷ vs) e u h = by_test (touches t o reads) refl e (cause_none (suc k) ts os vs) u h
    where
      by_test : (b : Bool) → touches t o reads ≡ b → cond b (Some k) (cause (suc k) ts os vs reads) ≡ None → (cause (suc k) ts os vs reads ≡ None → (x : ℕ) → Hits reads ts os vs x → ⊥) → (x : ℕ) → Hits reads (t ∷ ts) (o ∷ os) (Valid ∷ vs) x → ⊥
      by_test true is_hit e more x h = none-some _ (sym e)
      by_test false miss e more zero h = not_first t ts o os vs miss h
      by_test false miss e more (suc x) h = more e x (unshift t ts o os Valid vs x h)

-- THE VERDICTS BEFORE A POSITION

get_take : (vs : List Verdict) (t u : ℕ) → u < t → slice_get (take t vs) u ≡ slice_get vs u
get_take [] zero u lt = refl
get_take [] (suc t) u lt = refl
get_take (v ∷ vs) zero u lt = absurd (omega (arith, lt))
get_take (v ∷ vs) (suc t) zero lt = refl
get_take (v ∷ vs) (suc t) (suc u) lt = get_take vs t u (omega (arith, lt))

within_take : (vs : List Verdict) (t u : ℕ) (v : Verdict) → slice_get (take t vs) u ≡ Some v → u < t
within_take [] zero u v e = absurd (none-some _ e)
within_take [] (suc t) u v e = absurd (none-some _ e)
within_take (w ∷ vs) zero u v e = absurd (none-some _ e)
within_take (w ∷ vs) (suc t) zero v e = omega arith
within_take (w ∷ vs) (suc t) (suc u) v e = let lt = within_take vs t u v e in omega (arith, lt)

module _ (ts : List Txn) (os : List Outcome) (vs : List Verdict) (t : ℕ) (other : Txn) (is_other : slice_get ts t ≡ Some other) where
  hit_from : (u : ℕ) → IsCause ts os vs u t → Hits other.reads ts os (take t vs) u
  hit_from u c = record {
    valid = get_take vs t u c.earlier ∙ c.valid;
    one = c.one;
    outcome = c.outcome;
    is_one = c.is_one;
    is_outcome = c.is_outcome;
    touches_it = ap (λ (x : Txn). touches c.one c.outcome x.reads) (same_txn other c.other (sym is_other ∙ c.is_other)) ∙ c.touches_it;
  }

  cause_from : (u : ℕ) → Hits other.reads ts os (take t vs) u → IsCause ts os vs u t
  cause_from u h = let lt = within_take vs t u Valid h.valid in record {
    earlier = lt;
    valid = sym (get_take vs t u lt) ∙ h.valid;
    one = h.one;
    outcome = h.outcome;
    other = other;
    is_one = h.is_one;
    is_outcome = h.is_outcome;
    is_other = is_other;
    touches_it = h.touches_it;
  }

  -- what the rule says of position t
  abbrev Ruled : Verdict → Type 0
  Ruled v = v ≡ verdict_for (cause 0 ts os (take t vs) other.reads)

  ruled_from : (v : Verdict) → slice_get vs t ≡ Some v → IsVerdict ts os vs t (Some v) → Ruled v
  ruled_from Valid e h = by_cause (cause 0 ts os (take t vs) other.reads) refl
    where
      by_cause : (c : Option ℕ) → cause 0 ts os (take t vs) other.reads ≡ c → Valid ≡ verdict_for c
      by_cause None is = refl
      by_cause (Some w) is = let f = cause_found other.reads 0 ts os (take t vs) w is in absurd (h f.0 (cause_from f.0 f.2.hits))
  ruled_from (Invalid by) e h = by_cause (cause 0 ts os (take t vs) other.reads) refl
    where
      one_least : (a b : ℕ) → IsFirst other.reads ts os (take t vs) a → IsCause ts os vs b t → ((u : ℕ) → u < b → ¬ IsCause ts os vs u t) → b ≡ a
      one_least a b first c least = by_order (cases_lt a b) (cases_lt b a)
        where
          by_order : (a < b) ⊎ (b ≤ a) → (b < a) ⊎ (a ≤ b) → b ≡ a
          by_order (inl lt) o = absurd (least a lt (cause_from a first.hits))
          by_order (inr ge) (inl lt) = absurd (first.least b lt (hit_from b c))
          by_order (inr ge) (inr le) = omega (arith, ge, le)

      by_cause : (c : Option ℕ) → cause 0 ts os (take t vs) other.reads ≡ c → Invalid by ≡ verdict_for c
      by_cause None is = absurd (cause_none other.reads 0 ts os (take t vs) is by (hit_from by h.0))
      by_cause (Some w) is =
          let f = cause_found other.reads 0 ts os (take t vs) w is in
          let same = one_least f.0 by f.2 h.0 h.1 in
          ap Invalid (omega (arith, same, f.1))

  from_ruled : (c : Option ℕ) → cause 0 ts os (take t vs) other.reads ≡ c → IsVerdict ts os vs t (Some (verdict_for c))
  from_ruled None is = λ u c. cause_none other.reads 0 ts os (take t vs) is u (hit_from u c)
  from_ruled (Some w) is =
      let f = cause_found other.reads 0 ts os (take t vs) w is in
      let same : f.0 ≡ w = omega (arith, f.1) in
      (subst (λ u. IsCause ts os vs u t) same (cause_from f.0 f.2.hits), λ u lt c. f.2.least u (omega (arith, lt, same)) (hit_from u c))

-- POSITION BY POSITION

get_at : {A : Type 0} (xs : List A) (x : A) (rest : List A) → slice_get (xs ++ x ∷ rest) (length xs) ≡ Some x
get_at [] x rest = refl
get_at (y ∷ xs) x rest = get_at xs x rest

take_at : {A : Type 0} (xs rest : List A) → take (length xs) (xs ++ rest) ≡ xs
take_at [] [] = refl
take_at [] (y ∷ rest) = refl
take_at (x ∷ xs) rest = ap (λ l. x ∷ l) (take_at xs rest)

-- each position of these has the verdict of the rule
abbrev AllRuled : List Txn → List Outcome → List Verdict → Type 0
AllRuled ts os vs = (t : ℕ) (other : Txn) → slice_get ts t ≡ Some other → slice_get vs t ≡ Some (verdict_for (cause 0 ts os (take t vs) other.reads))

module _ (ts : List Txn) (os : List Outcome) where
  -- all that the rule gives behind these
  one_way : (done rest : List Txn) (ws xs : List Verdict) → done ++ rest ≡ ts → length ws ≡ length done → length xs ≡ length rest → AllRuled ts os (ws ++ xs) → judged ts os ws rest ≡ ws ++ xs
  one_way done [] ws [] is l m all = sym (append-nil ws)
  one_way done [] ws (x ∷ xs) is l m all = absurd (omega (arith, m))
  one_way done (t ∷ rest) ws [] is l m all = absurd (omega (arith, m))
  one_way done (t ∷ rest) ws (x ∷ xs) is l m all =
      let here : slice_get ts (length ws) ≡ Some t = ap (λ n. slice_get ts n) l ∙ (ap (λ l. slice_get l (length done)) (sym is) ∙ get_at done t rest) in
      let next : x ≡ verdict_for (cause 0 ts os ws t.reads) =
      same_Some _ _ (sym (get_at ws x xs) ∙ (all (length ws) t here ∙ ap (λ l. Some (verdict_for (cause 0 ts os l t.reads))) (take_at ws (x ∷ xs)))) in
      let whole : (ws ++ x ∷ []) ++ xs ≡ ws ++ x ∷ xs = append_assoc ws (x ∷ []) xs in
      ap (λ v. judged ts os (ws ++ v ∷ []) rest) (sym next)
      ∙ (one_way (done ++ t ∷ []) rest (ws ++ x ∷ []) xs (append_assoc done (t ∷ []) rest ∙ is) (length-append ws (x ∷ []) ∙ (omega (arith, l) ∙ sym (length-append done (t ∷ [])))) (omega (arith, m)) (subst (AllRuled ts os) (sym whole) all)
      ∙ whole)

  -- what is given is behind these, one for each position
  record Behind (done rest : List Txn) (ws : List Verdict) : Type 0 where
    pub xs : List Verdict
    pub is : judged ts os ws rest ≡ ws ++ xs
    pub size : length xs ≡ length rest

  behind : (done rest : List Txn) (ws : List Verdict) → Behind done rest ws
  behind done [] ws = record { xs = []; is = sym (append-nil ws); size = refl }
  behind done (t ∷ rest) ws =
      let v = verdict_for (cause 0 ts os ws t.reads) in
      let more = behind (done ++ t ∷ []) rest (ws ++ v ∷ []) in
      record { xs = v ∷ more.xs; is = more.is ∙ append_assoc ws (v ∷ []) more.xs; size = ap suc more.size }

  ruled_at : (done rest : List Txn) (ws : List Verdict) → done ++ rest ≡ ts → length ws ≡ length done → (t : ℕ) (other : Txn) → length done ≤ t → slice_get ts t ≡ Some other →
      slice_get (judged ts os ws rest) t ≡ Some (verdict_for (cause 0 ts os (take t (judged ts os ws rest)) other.reads))
  ruled_at done [] ws is l t other le e = absurd (none-some _ (sym (past ts t (omega (arith, le, ap length (sym (append-nil done) ∙ is)))) ∙ e))
    where
      past : (xs : List Txn) (n : ℕ) → length xs ≤ n → slice_get xs n ≡ None
      past [] n h = refl
      past (x ∷ xs) zero h = absurd (omega (arith, h))
      past (x ∷ xs) (suc n) h = past xs n (omega (arith, h))
  ruled_at done (x ∷ rest) ws is l t other le e =
      by_place (ruled_at (done ++ x ∷ []) rest (ws ++ verdict_for (cause 0 ts os ws x.reads) ∷ []) (append_assoc done (x ∷ []) rest ∙ is)
      (length-append ws (verdict_for (cause 0 ts os ws x.reads) ∷ []) ∙ (omega (arith, l) ∙ sym (length-append done (x ∷ [])))) t other) (cases_lt (length done) t)
    where
      v : Verdict
      v = verdict_for (cause 0 ts os ws x.reads)

      by_place : (length (done ++ x ∷ []) ≤ t → slice_get ts t ≡ Some other → slice_get (judged ts os ws (x ∷ rest)) t ≡ Some (verdict_for (cause 0 ts os (take t (judged ts os ws (x ∷ rest))) other.reads)))
          → (length done < t) ⊎ (t ≤ length done) → slice_get (judged ts os ws (x ∷ rest)) t ≡ Some (verdict_for (cause 0 ts os (take t (judged ts os ws (x ∷ rest))) other.reads))
      by_place more (inl lt) = more (let n = length-append done (x ∷ []) in omega (arith, n, lt)) e
      by_place further (inr ge) =
          let b = behind done (x ∷ rest) ws in
          let at : t ≡ length ws = omega (arith, ge, le, l) in
          let more = behind (done ++ x ∷ []) rest (ws ++ v ∷ []) in
          let whole : judged ts os ws (x ∷ rest) ≡ ws ++ v ∷ more.xs = more.is ∙ append_assoc ws (v ∷ []) more.xs in
          let here : slice_get ts t ≡ Some x = ap (λ n. slice_get ts n) (omega (arith, at, l)) ∙ (ap (λ l. slice_get l (length done)) (sym is) ∙ get_at done x rest) in
          let same : x ≡ other = same_txn x other (sym here ∙ e) in
          let before : take t (judged ts os ws (x ∷ rest)) ≡ ws = ap (λ n. take n (judged ts os ws (x ∷ rest))) at ∙ (ap (take (length ws)) whole ∙ take_at ws (v ∷ more.xs)) in
          ap (λ n. slice_get (judged ts os ws (x ∷ rest)) n) at ∙ (ap (λ l. slice_get l (length ws)) whole ∙ (get_at ws v more.xs
          ∙ (ap (λ (y : Txn). Some (verdict_for (cause 0 ts os ws y.reads))) same ∙ ap (λ l. Some (verdict_for (cause 0 ts os l other.reads))) (sym before))))

get_within : (xs : List Txn) (t : ℕ) → t < length xs → (x : Txn) × (slice_get xs t ≡ Some x)
get_within [] t lt = absurd (omega (arith, lt))
get_within (x ∷ xs) zero lt = (x, refl)
get_within (x ∷ xs) (suc t) lt = get_within xs t (omega (arith, lt))

within_get : (xs : List Txn) (t : ℕ) (x : Txn) → slice_get xs t ≡ Some x → t < length xs
within_get [] t x e = absurd (none-some _ e)
within_get (y ∷ xs) zero x e = omega arith
within_get (y ∷ xs) (suc t) x e = let lt = within_get xs t x e in omega (arith, lt)

pub are_verdicts : (ts : List Txn) (os : List Outcome) → AreVerdicts ts os (verdicts_of ts os)
are_verdicts ts os = record {
  one_each = let b = behind ts os [] ts [] in ap length b.is ∙ b.size;
  each = λ t lt.
      let x = get_within ts t lt in
      let rule = ruled_at ts os [] ts [] refl refl t x.0 (omega arith) x.1 in
      subst (IsVerdict ts os (verdicts_of ts os) t) (sym rule) (from_ruled ts os (verdicts_of ts os) t x.0 x.1 (cause 0 ts os (take t (verdicts_of ts os)) x.0.reads) refl);
}

all_ruled : (ts : List Txn) (os : List Outcome) (vs : List Verdict) → AreVerdicts ts os vs → AllRuled ts os vs
all_ruled ts os vs h t other e = by_verdict (slice_get vs t) refl (h.each t (within_get ts t other e))
  where
    by_verdict : (o : Option Verdict) → slice_get vs t ≡ o → IsVerdict ts os vs t o → o ≡ Some (verdict_for (cause 0 ts os (take t vs) other.reads))
    by_verdict None is r = absurd r
    by_verdict (Some v) is r = ap Some (ruled_from ts os vs t other e v is r)

pub verdicts_meant : VerdictsAreMeant
verdicts_meant ts os vs same = (
  λ h. sym (one_way ts os [] ts [] vs refl refl h.one_each (all_ruled ts os vs h)),
  λ e. subst (AreVerdicts ts os) (sym e) (are_verdicts ts os),
)

-- what holds of the one list holds of what was given
pub of_judged : {E : Type 0} (P : List Verdict → Type 0) (x : List Verdict) → P x → (r : Result (List Verdict) E) → IfOk r (λ vs. vs ≡ x) → IfOk r P
of_judged P x p (Ok vs) e = subst P (sym e) p
of_judged P x p (Err e) h = tt
