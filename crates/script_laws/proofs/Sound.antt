-- The script of a lawful plan is sound.
use Rattle.std.proofs.Common.{◌≡◌, ℕ, zero, suc, Bool, true, false, not, cond, ◌==◌, ◌&&◌, ◌||◌, ◌+◌, ◌<◌, ◌≤◌, ◌⊎◌, inl, inr, ⊎_elim, List, [], ◌∷◌, length, take, get_or, sym, refl, ap, ◌∙◌, subst, arith, Option, Some, None}
use Rattle.std.specs.Prelude.{is_some, nat_lt}
use mathlib.Core.Logic.{dite}
use native.Mathlib.Decide.{ℕ_discrete, dec_lt}
use Rattle.std.specs.List.{AllByRecursion}
use Rattle.std.proofs.lemmas.List.{get_or_past, get_or-take, length-take-le}
use Rattle.std.proofs.lemmas.Bool.{false≢true, ltb-true, lt-ltb, eqb-true, and_parts, and_from, not-true, or_cases, or_left, or_right, cases_Bool}
use Rattle.txn_types.specs.declared.txn.Kind.{Kind}
use Rattle.txn_types.specs.declared.txn.Kind.TheVariants.{Full, Raw}
use Rattle.txn_types.specs.declared.txn.Outcome.{Outcome}
use Rattle.txn_types.specs.declared.txn.Outcome.TheVariants.{Abort, Commit}
use Rattle.txn_types.specs.declared.txn.Txn.{Txn}
use Rattle.oxii_defs.specs.State.{contains}
use Rattle.oxii_defs.specs.Lawful.{IsRecord}
use Rattle.oxii_defs.specs.Dependency.{depends, meets}
use Rattle.known_defs.specs.Known.{txn_at, no_txn, knows_all}
use Rattle.board_defs.specs.Closure.{Plan, IsLawfulPlan, known_at, is_own, can_run, run_of, comes_to, closure_upto}
use Rattle.board_core.specs.Script.{IsSound, Runs}
use Rattle.board_core.specs.Traces.{one_if}
use Rattle.script_laws.specs.Laws.{IsFullPlan, IsPlanFor}
use Rattle.board_work.specs.declared.layout.Layout.{Layout}
use Rattle.board_work.specs.declared.layout.Layout.TheVariants.{Values, Versions}
use Rattle.board_work.specs.Scripts.{AreHeld, reads_at, writes_at, outcome_at, is_edge, given, gives, later, waits, uses_at, script, script_of}
use Rattle.script_laws.proofs.States.{at_earlier, outcome_is}
use Rattle.trace_laws.proofs.Entries.{some_of, none_of}
use Rattle.trace_laws.proofs.Known.{knows_from}
use Rattle.trace_laws.proofs.Plans.{length_closure, knows_at}

-- LISTS

pub within : {A : Type 0} (xs : List A) (k : ℕ) (d e : A) (f : A → Bool) → f d ≡ false → f (get_or xs k d) ≡ true → k < length xs
within xs k d e f no_d h = go (dec_lt k (length xs))
  where
    go : Dec (k < length xs) → k < length xs
    go (yes l) = l
    go (no n) = absurd (false≢true (sym no_d ∙ (ap f (sym (get_or_past xs k d (omega arith))) ∙ h)))

not_some : (o : Option Outcome) → o ≡ None → is_some o ≡ true → ⊥
not_some (Some x) e h = absurd (cc)
not_some None e h = false≢true h

pub one_of : (b : Bool) → b ≡ true → 0 < one_if b
one_of true e = omega arith
one_of false e = absurd (false≢true e)

pub of_one : (b : Bool) → 0 < one_if b → b ≡ true
of_one true l = refl
of_one false l = absurd (omega arith)

pub of_none : (b : Bool) → (b ≡ true → ⊥) → one_if b ≡ 0
of_none true no_b = absurd (no_b refl)
of_none false no_b = refl

-- RECORDS

meets_from : (r : ℕ) (xs ys : List ℕ) → contains xs r ≡ true → contains ys r ≡ true → meets xs ys ≡ true
meets_from r [] ys a b = absurd (false≢true a)
meets_from r (x ∷ xs) ys a b = ⊎_elim (λ e. or_left (contains ys x) (meets xs ys) (subst (λ q. contains ys q ≡ true) (eqb-true r x e) b)) (λ e. or_right (contains ys x) (meets xs ys) (meets_from r xs ys e b)) (or_cases (r == x) (contains xs r) a)

pub given_is : (ws : List ℕ) (cells : List (Option ℕ)) (r : ℕ) → is_some (given ws cells r) ≡ true → contains ws r ≡ true
given_is [] cells r h = absurd (false≢true h)
given_is (w ∷ ws) [] r h = absurd (false≢true h)
given_is (w ∷ ws) (c ∷ cells) r h = go (given ws cells r) (given_is ws cells r) (r == w) h
  where
    go : (g : Option ℕ) → (is_some g ≡ true → contains ws r ≡ true) → (b : Bool) → is_some (later g (cond b c None)) ≡ true → (b || contains ws r) ≡ true
    go (Some x) i b e = or_right b (contains ws r) (i refl)
    go None i true e = refl
    go None i false e = absurd (false≢true e)

pub gives_is : (o : Option Outcome) (ws : List ℕ) (r : ℕ) → is_some (gives o ws r) ≡ true → contains ws r ≡ true
gives_is (Some (Commit cells)) ws r h = given_is ws cells r h
gives_is (Some (Abort why)) ws r h = absurd (false≢true h)
gives_is None ws r h = absurd (false≢true h)

in_all : (P : ℕ → Type 0) (xs : List ℕ) (r : ℕ) → AllByRecursion P xs → contains xs r ≡ true → P r
in_all P [] r all h = absurd (false≢true h)
in_all P (x ∷ xs) r all h = ⊎_elim (λ e. subst P (sym (eqb-true r x e)) all.0) (λ e. in_all P xs r all.1 e) (or_cases (r == x) (contains xs r) h)

-- a reader of what an earlier one writes depends on it, in graphs of both kinds
reads_edge : (kind : Kind) (s t : Txn) → meets s.writes t.reads ≡ true → depends kind s t ≡ true
reads_edge Full s t m = or_left (meets s.reads t.writes || meets s.writes t.reads) (meets s.writes t.writes) (or_right (meets s.reads t.writes) (meets s.writes t.reads) m)
reads_edge Raw s t m = m

module _ (plan : Plan) (h : IsLawfulPlan plan) where
  pub edge_is : (s t : ℕ) → 0 < one_if (waits plan s t) → (is_own plan t ≡ true) × (known_at plan s ≡ None) × (s < t) × (depends plan.table.kind (txn_at plan.txns s) (txn_at plan.txns t) ≡ true)
  edge_is s t pos =
      let a = and_parts (is_own plan t) (not (is_some (known_at plan s)) && is_edge plan s t) (of_one (waits plan s t) pos) in
      let b = and_parts (not (is_some (known_at plan s))) (is_edge plan s t) a.1 in
      let c = and_parts (nat_lt s t) (depends plan.table.kind (txn_at plan.txns s) (txn_at plan.txns t)) b.1 in
      (a.0, none_of (known_at plan s) (not-true (is_some (known_at plan s)) b.0), ltb-true s t c.0, c.1)

  pub edge_of : (s t : ℕ) → is_own plan t ≡ true → known_at plan s ≡ None → is_edge plan s t ≡ true → 0 < one_if (waits plan s t)
  edge_of s t own unknown e = one_of (waits plan s t) (and_from (is_own plan t) (not (is_some (known_at plan s)) && is_edge plan s t) own
      (and_from (not (is_some (known_at plan s))) (is_edge plan s t) (ap (λ o. not (is_some o)) unknown) e))

  pub own_below : (t : ℕ) → is_own plan t ≡ true → t < length plan.txns
  own_below t own = subst (λ n. t < n) h.own_long (within plan.own t false false (λ b. b) refl own)

  pub known_below : (t : ℕ) → is_some (known_at plan t) ≡ true → t < length plan.txns
  known_below t known = subst (λ n. t < n) h.known_long (within plan.known t None None is_some refl known)

  known_comes : (t : ℕ) (o : Outcome) → known_at plan t ≡ Some o → outcome_at plan t ≡ Some o
  known_comes t o k = outcome_is plan t (known_below t (ap is_some k)) ∙ ap (λ x. comes_to plan t x (closure_upto plan t)) k

  pub known_is : (t : ℕ) → is_some (known_at plan t) ≡ true → outcome_at plan t ≡ known_at plan t
  known_is t known = go (known_at plan t) refl known
    where
      go : (o : Option Outcome) → known_at plan t ≡ o → is_some o ≡ true → outcome_at plan t ≡ known_at plan t
      go (Some x) e _ = known_comes t x e ∙ sym e
      go None e k = absurd (false≢true k)

  unknown_comes : (t : ℕ) → t < length plan.txns → known_at plan t ≡ None → outcome_at plan t ≡ cond (can_run plan t (closure_upto plan t)) (Some (run_of plan t (closure_upto plan t))) None
  unknown_comes t l unknown = outcome_is plan t l ∙ ap (λ x. comes_to plan t x (closure_upto plan t)) unknown

  some_cond : (b : Bool) (o : Outcome) → is_some (cond b (Some o) None) ≡ true → b ≡ true
  some_cond true o e = refl
  some_cond false o e = absurd (false≢true e)

  cond_some : (b : Bool) (o : Outcome) → b ≡ true → cond b (Some o) None ≡ Some o
  cond_some true o e = refl
  cond_some false o e = absurd (false≢true e)

  abbrev can : ℕ → Bool
  can t = can_run plan t (closure_upto plan t)

  -- what has an outcome and isn't known, runs
  pub has_run : (t : ℕ) → t < length plan.txns → known_at plan t ≡ None → is_some (outcome_at plan t) ≡ true → can t ≡ true
  has_run t l unknown some = some_cond (can t) (run_of plan t (closure_upto plan t)) (subst (λ o. is_some o ≡ true) (unknown_comes t l unknown) some)

  -- what a position that runs comes to
  pub runs_comes : (t : ℕ) → Runs (script plan) t → outcome_at plan t ≡ Some (run_of plan t (closure_upto plan t))
  runs_comes t runs =
      let p = and_parts (is_own plan t) (is_some (outcome_at plan t)) runs in
      let l = own_below t p.0 in let u = h.own_unknown t p.0 in
      unknown_comes t l u ∙ cond_some (can t) (run_of plan t (closure_upto plan t)) (has_run t l u p.1)

  runs_where : (t : ℕ) → is_own plan t ≡ true → ((s : ℕ) → 0 < one_if (waits plan s t) → Runs (script plan) s) → Runs (script plan) t
  runs_where t own each =
      let l = own_below t own in let u = h.own_unknown t own in let len = length_closure plan t in
      let k = knows_from plan.table.kind (txn_at plan.txns t) plan.txns (closure_upto plan t) (λ s a b d. some_of (get_or (closure_upto plan t) s None) (subst (λ o. is_some o ≡ true) (sym (at_earlier plan t s (omega arith) (omega arith)))
      (⊎_elim (λ known. subst (λ o. is_some o ≡ true) (sym (known_is s known)) known)
      (λ unknown. (and_parts (is_own plan s) (is_some (outcome_at plan s)) (each s (edge_of s t own (none_of (known_at plan s) unknown) (and_from (nat_lt s t) (depends plan.table.kind (txn_at plan.txns s) (txn_at plan.txns t)) (lt-ltb s t (omega arith)) d)))).1)
      (cases_Bool (is_some (known_at plan s)))))) in
      and_from (is_own plan t) (is_some (outcome_at plan t)) own (ap is_some (unknown_comes t l u ∙ cond_some (can t) (run_of plan t (closure_upto plan t)) (and_from (is_own plan t) (knows_all plan.table.kind (txn_at plan.txns t) plan.txns (closure_upto plan t)) own k)))

  runs_only : (t : ℕ) → Runs (script plan) t → (is_own plan t ≡ true) × ((s : ℕ) → 0 < one_if (waits plan s t) → Runs (script plan) s)
  runs_only t runs =
      let p = and_parts (is_own plan t) (is_some (outcome_at plan t)) runs in
      let l = own_below t p.0 in let u = h.own_unknown t p.0 in let len = length_closure plan t in
      let k = (and_parts (is_own plan t) (knows_all plan.table.kind (txn_at plan.txns t) plan.txns (closure_upto plan t)) (has_run t l u p.1)).1 in (
        p.0,
        λ s pos. let e = edge_is s t pos in let lt = e.2 in
            let some = subst (λ o. is_some o ≡ true) (at_earlier plan t s lt (omega arith)) (ap is_some (knows_at plan.table.kind (txn_at plan.txns t) plan.txns (closure_upto plan t) s (omega arith) (omega arith) k e.3).1) in
            let c = has_run s (omega arith) e.1 some in
            and_from (is_own plan s) (is_some (outcome_at plan s)) (and_parts (is_own plan s) (knows_all plan.table.kind (txn_at plan.txns s) plan.txns (closure_upto plan s)) c).0 some,
      )

  -- each record of a position is the table's
  pub lawful_at : (t : ℕ) → AllByRecursion (IsRecord plan.table) (reads_at plan t) × AllByRecursion (IsRecord plan.table) (writes_at plan t)
  lawful_at t = go (dec_lt t (length plan.txns))
    where
      Both : Txn → Type 0
      Both x = AllByRecursion (IsRecord plan.table) x.reads × AllByRecursion (IsRecord plan.table) x.writes

      go : Dec (t < length plan.txns) → Both (txn_at plan.txns t)
      go (yes l) = let a = h.txns t no_txn l in (a.reads, a.writes)
      go (no n) = subst Both (sym (get_or_past plan.txns t no_txn (omega arith))) (tt, tt)

  pub used_below : (t r : ℕ) → uses_at plan t r ≡ true → r < length plan.table.records
  used_below t r u = ⊎_elim (in_all (IsRecord plan.table) (reads_at plan t) r (lawful_at t).0) (in_all (IsRecord plan.table) (writes_at plan t) r (lawful_at t).1) (or_cases (contains (reads_at plan t) r) (contains (writes_at plan t) r) u)

  writes_of : (s r : ℕ) → is_some (gives (outcome_at plan s) (writes_at plan s) r) ≡ true → contains (writes_at plan s) r ≡ true
  writes_of s r g = gives_is (outcome_at plan s) (writes_at plan s) r g

  -- what a known position depends on is known
  pub known_closed : (t s : ℕ) → is_edge plan t s ≡ true → is_some (known_at plan s) ≡ true → is_some (known_at plan t) ≡ true
  known_closed t s e known =
      let c = and_parts (nat_lt t s) (depends plan.table.kind (txn_at plan.txns t) (txn_at plan.txns s)) e in
      let l = ltb-true t s c.0 in let below = known_below s known in let len = h.known_long in
      let a = length-take-le s plan.known (omega arith) in
      let is = some_of (known_at plan s) known in
      let k = knows_at plan.table.kind (txn_at plan.txns s) plan.txns (take s plan.known) t (omega arith) (omega arith) (h.known_closed s is.0 is.1) c.1 in
      subst (λ o. is_some o ≡ true) (get_or-take s plan.known t None l) (ap is_some k.1)

  -- an earlier writer of what an own position reads is known, or is waited for
  pub writer_comes : (s t r : ℕ) → is_own plan t ≡ true → s < t → contains (writes_at plan s) r ≡ true → contains (reads_at plan t) r ≡ true → (is_some (known_at plan s) ≡ true) ⊎ (0 < one_if (waits plan s t))
  writer_comes s t r own l w u = ⊎_elim (λ known. inl known)
      (λ unknown. inr (edge_of s t own (none_of (known_at plan s) unknown) (and_from (nat_lt s t) (depends plan.table.kind (txn_at plan.txns s) (txn_at plan.txns t)) (lt-ltb s t l)
      (reads_edge plan.table.kind (txn_at plan.txns s) (txn_at plan.txns t) (meets_from r (writes_at plan s) (reads_at plan t) w u)))))
      (cases_Bool (is_some (known_at plan s)))

  -- where the words keep versions, nothing is asked of readers and of later writers
  sound_versions : AreHeld plan → IsSound (script_of Versions plan)
  sound_versions held = record {
    few = h.few;
    runs_where = runs_where;
    runs_only = runs_only;
    own_is_below = own_below;
    edge_is_forward = λ s t pos. let e = edge_is s t pos in (e.2, e.0);
    parts_few = λ t. let w = held.writes t in omega arith;
    fixed_is_part = λ t k is. let a = and_parts (is_some (known_at plan t)) _ is in let b = and_parts (nat_lt 0 k) (nat_lt k (1 + length (writes_at plan t))) a.1 in
        (⊎_elim (λ own. absurd (not_some (known_at plan t) (h.own_unknown t own) a.0)) (λ other. other) (cases_Bool (is_own plan t)), ltb-true k (1 + length (writes_at plan t)) b.1);
    used_is_record = λ t r u. absurd (false≢true u);
    gives_is_use = λ t r g. absurd (nothing_given g.0 g.1);
    before = λ s t r own l g u. absurd (false≢true u);
    later_unknown = λ s t r own l u. refl;
    later = λ s t r own own_s l u g. absurd (false≢true u);
  }
    where
      nothing_given : (x : ℕ) → None ≡ Some x → ⊥
      nothing_given x e = absurd (cc)

module _ (plan : Plan) (h : IsFullPlan plan) where
  -- an edge of the graph of kind full
  full_edge : (s t : ℕ) → s < t → (meets (reads_at plan s) (writes_at plan t) ≡ true) ⊎ ((meets (writes_at plan s) (reads_at plan t) ≡ true) ⊎ (meets (writes_at plan s) (writes_at plan t) ≡ true)) → is_edge plan s t ≡ true
  full_edge s t l m = and_from (nat_lt s t) (depends plan.table.kind (txn_at plan.txns s) (txn_at plan.txns t)) (lt-ltb s t l) (subst (λ k. depends k (txn_at plan.txns s) (txn_at plan.txns t) ≡ true) (sym (h.full))
      (⊎_elim (λ a. or_left (rw_ || rr_) ww_ (or_left rw_ rr_ a)) (⊎_elim (λ a. or_left (rw_ || rr_) ww_ (or_right rw_ rr_ a)) (λ a. or_right (rw_ || rr_) ww_ a)) m))
    where
      rw_ : Bool
      rw_ = meets (reads_at plan s) (writes_at plan t)

      rr_ : Bool
      rr_ = meets (writes_at plan s) (reads_at plan t)

      ww_ : Bool
      ww_ = meets (writes_at plan s) (writes_at plan t)

  -- a later position that uses what an earlier one writes depends on it, and one that writes what an earlier one uses
  pub writer_before : (s t r : ℕ) → s < t → contains (writes_at plan s) r ≡ true → uses_at plan t r ≡ true → is_edge plan s t ≡ true
  writer_before s t r l w u = ⊎_elim (λ a. full_edge s t l (inr (inl (meets_from r (writes_at plan s) (reads_at plan t) w a)))) (λ a. full_edge s t l (inr (inr (meets_from r (writes_at plan s) (writes_at plan t) w a)))) (or_cases (contains (reads_at plan t) r) (contains (writes_at plan t) r) u)

  pub writer_after : (t s r : ℕ) → t < s → uses_at plan t r ≡ true → contains (writes_at plan s) r ≡ true → is_edge plan t s ≡ true
  writer_after t s r l u w = ⊎_elim (λ a. full_edge t s l (inl (meets_from r (reads_at plan t) (writes_at plan s) a w))) (λ a. full_edge t s l (inr (inr (meets_from r (writes_at plan t) (writes_at plan s) a w)))) (or_cases (contains (reads_at plan t) r) (contains (writes_at plan t) r) u)

  pub sound : AreHeld plan → IsSound (script plan)
  sound held = record {
    few = h.lawful.few;
    runs_where = runs_where plan h.lawful;
    runs_only = runs_only plan h.lawful;
    own_is_below = own_below plan h.lawful;
    edge_is_forward = λ s t pos. let e = edge_is plan h.lawful s t pos in (e.2, e.0);
    parts_few = λ t. let w = held.writes t in omega arith;
    fixed_is_part = λ t k is. absurd (false≢true is);
    used_is_record = used_below plan h.lawful;
    gives_is_use = λ t r g. or_right (contains (reads_at plan t) r) (contains (writes_at plan t) r) (writes_of plan h.lawful t r (ap is_some g.1));
    before = λ s t r own l g u. let w = writes_of plan h.lawful s r (ap is_some g.1) in
        ⊎_elim (λ known. inl (one_of (is_some (known_at plan s) && is_some (gives (outcome_at plan s) (writes_at plan s) r)) (and_from (is_some (known_at plan s)) (is_some (gives (outcome_at plan s) (writes_at plan s) r)) known (ap is_some g.1))))
        (λ unknown. inr (edge_of plan h.lawful s t own (none_of (known_at plan s) unknown) (writer_before s t r l w u))) (cases_Bool (is_some (known_at plan s)));
    later_unknown = λ s t r own l u. of_none (is_some (known_at plan s) && is_some (gives (outcome_at plan s) (writes_at plan s) r)) (λ b. let p = and_parts (is_some (known_at plan s)) (is_some (gives (outcome_at plan s) (writes_at plan s) r)) b in
        dite (ℕ_discrete s t) (λ e. not_some (known_at plan s) (h.lawful.own_unknown s (subst (λ x. is_own plan x ≡ true) (sym e) own)) p.0)
        (λ ne. not_some (known_at plan t) (h.lawful.own_unknown t own) (known_closed plan h.lawful t s (writer_after t s r (omega arith) u (writes_of plan h.lawful s r p.1)) p.0)));
    later = λ s t r own own_s l u g. edge_of plan h.lawful t s own_s (h.lawful.own_unknown t own) (writer_after t s r l u (writes_of plan h.lawful s r (ap is_some g.1)));
  }

-- for a plan of each layout
pub sound_for : (layout : Layout) (plan : Plan) → IsPlanFor layout plan → AreHeld plan → IsSound (script_of layout plan)
sound_for Values plan h held = sound plan (record { lawful = h.lawful; full = h.full refl }) held
sound_for Versions plan h held = sound_versions plan h.lawful held
