-- The first valid position that touches a transaction's reads is the earliest of the first writers of these records.
use Rattle.std.proofs.Common.{◌<◌, drop, slice_index_or, subst, if◌then◌else◌, Result, Ok, Err, OnOk, ◌≡◌, ◌≤◌, ℕ, zero, suc, ◌+◌, ◌==◌, min, Bool, true, false, ◌||◌, cond, List, [], ◌∷◌, ◌++◌, length, Option, Some, None, slice_get, refl, sym, ap, ◌∙◌, arith}
use Rattle.std.specs.Ordering.{eq_by_cmp, nat_cmp}
use Rattle.std.proofs.lemmas.Bool.{eqb-true}
use Rattle.std.proofs.lemmas.List.{length-append}
use Rattle.std.proofs.lemmas.Option.{none-some, same_Some, slice_get_read}
use Rattle.keyed_lists.specs.Keyed.{IsPushed, list_at}
use Rattle.keyed_lists.proofs.Numbers.{same_number}
use Rattle.txn_types.specs.declared.txn.Txn.{Txn}
use Rattle.txn_types.specs.declared.txn.Outcome.{Outcome}
use Rattle.txn_types.specs.declared.txn.Outcome.TheVariants.{Commit, Abort}
use Rattle.oxii_defs.specs.State.{contains}
use Rattle.xov_mode.specs.declared.judging.Verdict.{Verdict}
use Rattle.xov_mode.specs.declared.judging.Verdict.TheVariants.{Valid, Invalid}
use Rattle.xov_mode.specs.Verdicts.{gives, touches, cause, verdict_for, judged}
use Rattle.xov_mode.specs.Writers.{Writers, writer_of, earlier, earliest, or_else, touching, AreWriters}
use Rattle.xov_mode.proofs.Meant.{cause_found}

-- RECORD BY RECORD

or_moved : (a b c d : Bool) → ((a || b) || (c || d)) ≡ ((a || c) || (b || d))
or_moved true b c d = refl
or_moved false true true d = refl
or_moved false true false d = refl
or_moved false false c d = refl

or_none : (a : Bool) → (a || false) ≡ a
or_none true = refl
or_none false = refl

gives_nothing : (writes : List ℕ) (entries : List (Option ℕ)) → gives writes entries [] ≡ false
gives_nothing [] [] = refl
gives_nothing [] (e ∷ entries) = refl
gives_nothing (w ∷ writes) [] = refl
gives_nothing (w ∷ writes) (None ∷ entries) = gives_nothing writes entries
gives_nothing (w ∷ writes) (Some v ∷ entries) = gives_nothing writes entries

gives_more : (writes : List ℕ) (entries : List (Option ℕ)) (r : ℕ) (reads : List ℕ) → gives writes entries (r ∷ reads) ≡ (gives writes entries (r ∷ []) || gives writes entries reads)
gives_more [] [] r reads = refl
gives_more [] (e ∷ entries) r reads = refl
gives_more (w ∷ writes) [] r reads = refl
gives_more (w ∷ writes) (None ∷ entries) r reads = gives_more writes entries r reads
gives_more (w ∷ writes) (Some v ∷ entries) r reads =
    ap (λ b. ((w == r) || contains reads w) || b) (gives_more writes entries r reads)
    ∙ or_moved (w == r) (contains reads w) (gives writes entries (r ∷ [])) (gives writes entries reads)
    ∙ ap (λ b. (b || gives writes entries (r ∷ [])) || (contains reads w || gives writes entries reads)) (sym (or_none (w == r)))

touches_nothing : (t : Txn) (o : Outcome) → touches t o [] ≡ false
touches_nothing t (Commit entries) = gives_nothing t.writes entries
touches_nothing t (Abort c) = refl

touches_more : (t : Txn) (o : Outcome) (r : ℕ) (reads : List ℕ) → touches t o (r ∷ reads) ≡ (touches t o (r ∷ []) || touches t o reads)
touches_more t (Commit entries) r reads = gives_more t.writes entries r reads
touches_more t (Abort c) r reads = refl

-- THE FIRST OF THEM

cause_nothing : (k : ℕ) (ts : List Txn) (os : List Outcome) (vs : List Verdict) → cause k ts os vs [] ≡ None
cause_nothing k [] os vs = refl
cause_nothing k (t ∷ ts) [] vs = refl
cause_nothing k (t ∷ ts) (o ∷ os) [] = refl
cause_nothing k (t ∷ ts) (o ∷ os) (Invalid by ∷ vs) = cause_nothing (suc k) ts os vs
cause_nothing k (t ∷ ts) (o ∷ os) (Valid ∷ vs) = ap (λ b. cond b (Some k) (cause (suc k) ts os vs [])) (touches_nothing t o) ∙ cause_nothing (suc k) ts os vs

-- none of these is before k
abbrev From : ℕ → Option ℕ → Type 0
From k o = (w : ℕ) → o ≡ Some w → k ≤ w

cause_from : (k : ℕ) (ts : List Txn) (os : List Outcome) (vs : List Verdict) (reads : List ℕ) → From (suc k) (cause (suc k) ts os vs reads)
cause_from k ts os vs reads w e = let f = cause_found reads (suc k) ts os vs w e in omega (arith, f.1)

min_first : (k w : ℕ) → suc k ≤ w → min k w ≡ k
min_first k w le = omega (arith, le)

min_second : (k w : ℕ) → suc k ≤ w → min w k ≡ k
min_second k w le = omega (arith, le)

first_here : (k : ℕ) (b : Option ℕ) → From (suc k) b → Some k ≡ earlier (Some k) b
first_here k None h = refl
first_here k (Some w) h = ap Some (sym (min_first k w (h w refl)))

first_there : (k : ℕ) (a : Option ℕ) → From (suc k) a → Some k ≡ earlier a (Some k)
first_there k None h = refl
first_there k (Some w) h = ap Some (sym (min_second k w (h w refl)))

first_of_both : (k : ℕ) (x y : Bool) (a b c : Option ℕ) → From (suc k) a → From (suc k) b → c ≡ earlier a b →
    cond (x || y) (Some k) c ≡ earlier (cond x (Some k) a) (cond y (Some k) b)
first_of_both k true true a b c p q e = ap Some (omega arith)
first_of_both k true false a b c p q e = first_here k b q
first_of_both k false true a b c p q e = first_there k a p
first_of_both k false false a b c p q e = e

cause_more : (k : ℕ) (ts : List Txn) (os : List Outcome) (vs : List Verdict) (r : ℕ) (reads : List ℕ) → cause k ts os vs (r ∷ reads) ≡ earlier (cause k ts os vs (r ∷ [])) (cause k ts os vs reads)
cause_more k [] os vs r reads = refl
cause_more k (t ∷ ts) [] vs r reads = refl
cause_more k (t ∷ ts) (o ∷ os) [] r reads = refl
cause_more k (t ∷ ts) (o ∷ os) (Invalid by ∷ vs) r reads = cause_more (suc k) ts os vs r reads
cause_more k (t ∷ ts) (o ∷ os) (Valid ∷ vs) r reads =
    ap (λ b. cond b (Some k) (cause (suc k) ts os vs (r ∷ reads))) (touches_more t o r reads)
    ∙ first_of_both k (touches t o (r ∷ [])) (touches t o reads) (cause (suc k) ts os vs (r ∷ [])) (cause (suc k) ts os vs reads) (cause (suc k) ts os vs (r ∷ reads)) (cause_from k ts os vs (r ∷ [])) (cause_from k ts os vs reads) (cause_more (suc k) ts os vs r reads)

pub earliest_is : (ws : Writers) (ts : List Txn) (os : List Outcome) (vs : List Verdict) → AreWriters ws ts os vs → (reads : List ℕ) → earliest ws reads ≡ cause 0 ts os vs reads
earliest_is ws ts os vs h [] = sym (cause_nothing 0 ts os vs)
earliest_is ws ts os vs h (r ∷ reads) =
    ap (λ a. earlier a (earliest ws reads)) (h r) ∙ ap (earlier (cause 0 ts os vs (r ∷ []))) (earliest_is ws ts os vs h reads) ∙ sym (cause_more 0 ts os vs r reads)

-- ONE VERDICT MORE

pub cause_before : (k : ℕ) (ts : List Txn) (os : List Outcome) (reads : List ℕ) → cause k ts os [] reads ≡ None
cause_before k [] os reads = refl
cause_before k (t ∷ ts) [] reads = refl
cause_before k (t ∷ ts) (o ∷ os) reads = refl

same_touching : (k : ℕ) (t u : Txn) (o p : Outcome) (v : Verdict) (reads : List ℕ) → ◌≡◌ {A = Option Txn} (Some t) (Some u) → ◌≡◌ {A = Option Outcome} (Some o) (Some p) → touching k t o v reads ≡ touching k u p v reads
same_touching k t u o p v reads e f = cc

cond_or_else : (k : ℕ) (b : Bool) (a x : Option ℕ) → cond b (Some k) (or_else a x) ≡ or_else (cond b (Some k) a) x
cond_or_else k true a x = refl
cond_or_else k false a x = refl

pub cause_push : (k : ℕ) (ts : List Txn) (os : List Outcome) (vs : List Verdict) (t : Txn) (o : Outcome) (v : Verdict) (reads : List ℕ) → slice_get ts (length vs) ≡ Some t → slice_get os (length vs) ≡ Some o →
    cause k ts os (vs ++ v ∷ []) reads ≡ or_else (cause k ts os vs reads) (touching (k + length vs) t o v reads)
cause_push k [] os vs t o v reads e f = absurd (none-some _ e)
cause_push k (x ∷ ts) [] vs t o v reads e f = absurd (none-some _ f)
cause_push k (x ∷ ts) (p ∷ os) [] t o v reads e f = one v ∙ (same_touching k x t p o v reads e f ∙ ap (λ n. touching n t o v reads) (omega arith))
  where
    one : (v : Verdict) → cause k (x ∷ ts) (p ∷ os) (v ∷ []) reads ≡ touching k x p v reads
    one Valid = ap (cond (touches x p reads) (Some k)) (cause_before (suc k) ts os reads)
    one (Invalid by) = cause_before (suc k) ts os reads
cause_push k (x ∷ ts) (p ∷ os) (Invalid by ∷ vs) t o v reads e f =
    cause_push (suc k) ts os vs t o v reads e f ∙ ap (λ n. or_else (cause (suc k) ts os vs reads) (touching n t o v reads)) (omega arith)
cause_push k (x ∷ ts) (p ∷ os) (Valid ∷ vs) t o v reads e f =
    ap (cond (touches x p reads) (Some k)) (cause_push (suc k) ts os vs t o v reads e f)
    ∙ cond_or_else k (touches x p reads) (cause (suc k) ts os vs reads) (touching (suc k + length vs) t o v reads)
    ∙ ap (λ n. or_else (cond (touches x p reads) (Some k) (cause (suc k) ts os vs reads)) (touching n t o v reads)) (omega arith)

pub writers_push : (old new : Writers) (ts : List Txn) (os : List Outcome) (vs : List Verdict) (t : Txn) (o : Outcome) (v : Verdict) → AreWriters old ts os vs → slice_get ts (length vs) ≡ Some t → slice_get os (length vs) ≡ Some o →
    ((q : ℕ) → writer_of new q ≡ or_else (writer_of old q) (touching (length vs) t o v (q ∷ []))) → AreWriters new ts os (vs ++ v ∷ [])
writers_push old new ts os vs t o v known e f put q =
    put q ∙ ap (λ a. or_else a (touching (length vs) t o v (q ∷ []))) (known q) ∙ (ap (λ n. or_else (cause 0 ts os vs (q ∷ [])) (touching n t o v (q ∷ []))) (omega arith) ∙ sym (cause_push 0 ts os vs t o v (q ∷ []) e f))

-- ONE TURN

at_get : {A : Type 0} (xs : List A) (i : ℕ) (x : A) → i < length xs → x ≡ slice_index_or xs i x → slice_get xs i ≡ Some x
at_get xs i x lt e = slice_get_read xs (length xs) i x refl lt e

drop_get : {A : Type 0} (xs : List A) (i : ℕ) (x : A) → slice_get xs i ≡ Some x → drop i xs ≡ x ∷ drop (suc i) xs
drop_get [] i x e = absurd (none-some _ e)
drop_get (y ∷ xs) zero x e = ap (λ z. z ∷ xs) (same_Some _ _ e)
drop_get (y ∷ xs) (suc i) x e = drop_get xs i x e

turned_suc : (old new : Writers) (ts : List Txn) (os : List Outcome) (vs next : List Verdict) (i : ℕ) (t : Txn) (o : Outcome) (v : Verdict) → judged ts os vs (drop i ts) ≡ judged ts os [] ts → length vs ≡ i → AreWriters old ts os vs
    → i < length ts → length os ≡ length ts → t ≡ slice_index_or ts i t → o ≡ slice_index_or os i o → v ≡ verdict_for (earliest old t.reads) → ((q : ℕ) → writer_of new q ≡ or_else (writer_of old q) (touching i t o v (q ∷ []))) → next ≡ vs ++ v ∷ []
    → (judged ts os next (drop (suc i) ts) ≡ judged ts os [] ts) × (length next ≡ suc i) × AreWriters new ts os next
turned_suc old new ts os vs next i t o v same size known lt whole is_t is_o is_v put is =
    let get_t : slice_get ts i ≡ Some t = at_get ts i t lt is_t in
    let get_o : slice_get os i ≡ Some o = at_get os i o (omega (arith, lt, whole)) is_o in
    let rule : v ≡ verdict_for (cause 0 ts os vs t.reads) = is_v ∙ ap verdict_for (earliest_is old ts os vs known t.reads) in (
      ap (λ w. judged ts os w (drop (suc i) ts)) (is ∙ ap (λ v. vs ++ v ∷ []) rule) ∙ (ap (judged ts os vs) (sym (drop_get ts i t get_t)) ∙ same),
      ap length is ∙ (length-append vs (v ∷ []) ∙ omega (arith, size)),
      subst (AreWriters new ts os) (sym is) (writers_push old new ts os vs t o v known (ap (slice_get ts) size ∙ get_t) (ap (slice_get os) size ∙ get_o) (λ q. put q ∙ ap (λ n. or_else (writer_of old q) (touching n t o v (q ∷ []))) (sym size))),
    )

pub turned : (old new : Writers) (ts : List Txn) (os : List Outcome) (vs next : List Verdict) (i : ℕ) (t : Txn) (o : Outcome) (v : Verdict) → judged ts os vs (drop i ts) ≡ judged ts os [] ts → length vs ≡ i → AreWriters old ts os vs
    → i < length ts → length os ≡ length ts → t ≡ slice_index_or ts i t → o ≡ slice_index_or os i o → v ≡ verdict_for (earliest old t.reads) → ((q : ℕ) → writer_of new q ≡ or_else (writer_of old q) (touching i t o v (q ∷ []))) → next ≡ vs ++ v ∷ []
    → (judged ts os next (drop (i + 1) ts) ≡ judged ts os [] ts) × (length next ≡ i + 1) × AreWriters new ts os next
turned old new ts os vs next i t o v same size known lt whole is_t is_o is_v put is =
    let one : suc i ≡ i + 1 = omega arith in
    subst (λ n. (judged ts os next (drop n ts) ≡ judged ts os [] ts) × (length next ≡ n) × AreWriters new ts os next) one (turned_suc old new ts os vs next i t o v same size known lt whole is_t is_o is_v put is)

-- A RECORD MORE

put_one : (old new : Writers) (r place : ℕ) → IsPushed nat_cmp old r place new → (q : ℕ) → writer_of new q ≡ or_else (writer_of old q) (if r == q then Some place else None)
put_one old new r place pushed q = ap (λ l. slice_get l 0) (pushed.at q) ∙ (ap (λ b. slice_get (cond b (list_at (eq_by_cmp nat_cmp r) old ++ place ∷ []) (list_at (eq_by_cmp nat_cmp q) old)) 0) (same_number r q) ∙ by_test (r == q) refl)
  where
    behind : (xs : List ℕ) → slice_get (xs ++ place ∷ []) 0 ≡ or_else (slice_get xs 0) (Some place)
    behind [] = refl
    behind (x ∷ xs) = refl

    nothing : (a : Option ℕ) → a ≡ or_else a None
    nothing None = refl
    nothing (Some u) = refl

    by_test : (b : Bool) → (r == q) ≡ b → slice_get (cond b (list_at (eq_by_cmp nat_cmp r) old ++ place ∷ []) (list_at (eq_by_cmp nat_cmp q) old)) 0 ≡ or_else (writer_of old q) (cond b (Some place) None)
    by_test true e = behind (list_at (eq_by_cmp nat_cmp r) old) ∙ ap (λ k. or_else (writer_of old k) (Some place)) (eqb-true r q e)
    by_test false e = nothing (writer_of old q)

pub put_at : {A E : Type 0} (old new : Writers) (r place : ℕ) (answer : Result A E) → OnOk answer (IsPushed nat_cmp old r place new) → OnOk answer ((q : ℕ) → writer_of new q ≡ or_else (writer_of old q) (if r == q then Some place else None))
put_at old new r place (Ok x) h = put_one old new r place h
put_at old new r place (Err e) h = tt
