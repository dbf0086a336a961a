-- The runs by place are a lawful trace of what a run of the plan gives an outcome.
use Rattle.std.proofs.Common.{◌≡◌, ℕ, zero, suc, Bool, true, false, ◌==◌, ◌+◌, ◌*◌, ◌<◌, ◌≤◌, inl, inr, ⊎_elim, List, [], ◌∷◌, ◌++◌, length, map, sym, refl, ap, ◌∙◌, subst, arith, Option, Some, None, Contains}
use Rattle.std.specs.Prelude.{is_some, nat_lt}
use Rattle.std.specs.List.{count_by}
use mathlib.Core.Logic.{dite}
use native.Mathlib.Decide.{ℕ_discrete}
use Rattle.std.proofs.lemmas.List.{length-append, map-append}
use Rattle.std.proofs.lemmas.Bool.{false≢true, and_parts, and_from, lt-ltb, cases_Bool}
use Rattle.txn_types.specs.declared.txn.Outcome.{Outcome}
use Rattle.known_defs.specs.Known.{txn_at}
use Rattle.oxii_defs.specs.Dependency.{depends}
use Rattle.board_core.specs.declared.view.View.{View}
use Rattle.board_core.specs.Counts.{hit, below, once_below, Run, IsAmong}
use Rattle.board_core.specs.Script.{Runs}
use Rattle.board_core.specs.Traces.{IsTrace, one_if, count_of, stamp_hits}
use Rattle.board_core.proofs.Totals.{hit_same, hit_else, below_one}
use Rattle.board_defs.specs.Closure.{Plan, IsLawfulPlan, known_at, is_own, unless_known, run_outcome, with_position, ran_upto, ran_positions}
use Rattle.board_defs.specs.Trace.{Span, stamps, IsLawfulTrace}
use Rattle.board_work.specs.declared.layout.Layout.{Layout}
use Rattle.board_work.specs.Scripts.{script, script_of, outcome_at}
use Rattle.script_laws.specs.Laws.{IsLawfulClose, TracesAreLawful}
use Rattle.script_laws.specs.Placed.{span_of_run, with_run, placed}
use Rattle.script_laws.proofs.Sound.{own_below, edge_of, has_run}
use Rattle.trace_laws.proofs.Counts.{times_span, stamps_append}
use Rattle.trace_laws.proofs.Entries.{some_of}
use Rattle.trace_laws.proofs.Members.{Has, has_of, contains_of, all_of, has_left, has_right, has_cases, has_map, map_has}
use Rattle.trace_laws.proofs.Plans.{closes_law}

-- a member of either kind
among_has : (r : Run) (xs : List Run) → IsAmong r xs → Has r xs
among_has r [] h = absurd h
among_has r (x ∷ xs) h = ⊎_elim (λ e. inl (sym e)) (λ e. inr (among_has r xs e)) h

has_among : (r : Run) (xs : List Run) → Has r xs → IsAmong r xs
has_among r [] h = absurd h
has_among r (x ∷ xs) h = ⊎_elim (λ e. inl (sym e)) (λ e. inr (has_among r xs e)) h

once_at : (n x : ℕ) → x < n → once_below n x ≡ 1
once_at n x l = below_one n x (hit x) l (λ t ne. hit_else x t ne) ∙ hit_same x x refl

module _ (plan : Plan) (h : IsLawfulPlan plan) where
  -- what an own position comes to is what a run gives it, and a run gives nothing to another
  pub run_own : (t : ℕ) → is_own plan t ≡ true → run_outcome plan t ≡ outcome_at plan t
  run_own t own = ap (λ k. unless_known k (outcome_at plan t)) (h.own_unknown t own)

  pub run_other : (t : ℕ) → t < length plan.txns → is_own plan t ≡ false → run_outcome plan t ≡ None
  run_other t l other = go (known_at plan t) refl
    where
      nothing : (o : Option Outcome) → (is_some o ≡ true → ⊥) → o ≡ None
      nothing (Some x) never = absurd (never refl)
      nothing None never = refl

      go : (k : Option Outcome) → known_at plan t ≡ k → unless_known k (outcome_at plan t) ≡ None
      go (Some x) e = refl
      go None e = nothing (outcome_at plan t) (λ some. false≢true (sym other ∙ (and_parts (is_own plan t) _ (has_run plan h t l e some)).0))

  -- a run gives an outcome exactly to what runs
  gives_runs : (t : ℕ) (o : Outcome) → t < length plan.txns → run_outcome plan t ≡ Some o → Runs (script plan) t
  gives_runs t o l e = ⊎_elim
      (λ own. and_from (is_own plan t) (is_some (outcome_at plan t)) own (ap is_some (sym (run_own t own) ∙ e)))
      (λ other. absurd (false≢true (ap is_some (sym (run_other t l other) ∙ e))))
      (cases_Bool (is_own plan t))

  runs_gives : (t : ℕ) → run_outcome plan t ≡ None → Runs (script plan) t → ⊥
  runs_gives t e runs = let p = and_parts (is_own plan t) (is_some (outcome_at plan t)) runs in false≢true (ap is_some (sym e ∙ run_own t p.0) ∙ p.1)

  module _ (v : View) (run_at : ℕ → Option Run) (trace : IsTrace (script plan) v run_at) where
    runs_at : (t : ℕ) (r : Run) → run_at t ≡ Some r → Runs (script plan) t
    runs_at t r is = ⊎_elim (λ runs. runs) (λ rests. absurd (false≢true (ap is_some (sym (trace.rested t (λ runs. false≢true (sym rests ∙ runs))) ∙ is)))) (cases_Bool ((script plan).runs t))

    -- one span for each position that runs
    positions : (m : ℕ) → m ≤ length plan.txns → map (λ s. s.position) (placed run_at m) ≡ ran_upto plan m
    positions zero l = refl
    positions (suc m) l = go (positions m (omega arith)) (run_outcome plan m) refl
      where
        go : map (λ s. s.position) (placed run_at m) ≡ ran_upto plan m → (o : Option Outcome) → run_outcome plan m ≡ o → map (λ s. s.position) (with_run (placed run_at m) (run_at m)) ≡ with_position (ran_upto plan m) m (run_outcome plan m)
        go old (Some o) e = let q = some_of (run_at m) (trace.ran m (gives_runs m o (omega arith) e)) in
            ap (λ z. map (λ s. s.position) (with_run (placed run_at m) z)) q.1
            ∙ (map-append (λ s. s.position) (placed run_at m) (span_of_run q.0 ∷ [])
            ∙ ((λ i. old i ++ (trace.place m q.0 q.1).0 i ∷ []) ∙ sym (ap (with_position (ran_upto plan m) m) e)))
        go old None e = ap (λ z. map (λ s. s.position) (with_run (placed run_at m) z)) (trace.rested m (runs_gives m e)) ∙ (old ∙ sym (ap (with_position (ran_upto plan m) m) e))

    -- as many as run, and the stamps of all
    length_placed : (m : ℕ) → length (placed run_at m) ≡ below m (λ t. one_if ((script plan).runs t))
    length_placed zero = refl
    length_placed (suc m) = go (length_placed m) (run_at m) ((script plan).runs m) refl refl
      where
        go : length (placed run_at m) ≡ below m (λ t. one_if ((script plan).runs t)) → (o : Option Run) (b : Bool) → run_at m ≡ o → (script plan).runs m ≡ b → length (with_run (placed run_at m) o) ≡ below m (λ t. one_if ((script plan).runs t)) + one_if b
        go old (Some r) true e f = let a = length-append (placed run_at m) (span_of_run r ∷ []) in omega arith
        go old (Some r) false e f = absurd (false≢true (sym f ∙ runs_at m r e))
        go old None true e f = absurd (false≢true (ap is_some (sym e) ∙ trace.ran m f))
        go old None false e f = omega arith

    times_placed : (k m : ℕ) → count_by (λ x. x == k) (stamps (placed run_at m)) ≡ below m (λ t. stamp_hits k (run_at t))
    times_placed k zero = refl
    times_placed k (suc m) = go (times_placed k m) (run_at m)
      where
        go : count_by (λ x. x == k) (stamps (placed run_at m)) ≡ below m (λ t. stamp_hits k (run_at t)) → (o : Option Run) → count_by (λ x. x == k) (stamps (with_run (placed run_at m) o)) ≡ below m (λ t. stamp_hits k (run_at t)) + stamp_hits k o
        go old (Some r) = let a = stamps_append k (placed run_at m) (span_of_run r ∷ []) in let b = times_span k (span_of_run r) [] in omega arith
        go old None = omega arith

    -- what stands in the list
    placed_has : (m : ℕ) (s : Span) → Has s (placed run_at m) → (r : Run) × (run_at r.0 ≡ Some r) × (s ≡ span_of_run r)
    placed_has zero s has = absurd has
    placed_has (suc m) s has = go (placed_has m s) (run_at m) refl has
      where
        go : (Has s (placed run_at m) → (r : Run) × (run_at r.0 ≡ Some r) × (s ≡ span_of_run r)) → (o : Option Run) → run_at m ≡ o → Has s (with_run (placed run_at m) o) → (r : Run) × (run_at r.0 ≡ Some r) × (s ≡ span_of_run r)
        go more (Some r) e i = ⊎_elim more (λ new. ⊎_elim (λ is. (r, ap run_at (trace.place m r e).0 ∙ e, is)) (λ none. absurd none) new) (has_cases (placed run_at m) (span_of_run r ∷ []) s i)
        go more None e i = more i

    has_placed : (m t : ℕ) (r : Run) → t < m → run_at t ≡ Some r → Has (span_of_run r) (placed run_at m)
    has_placed zero t r l e = absurd (omega arith)
    has_placed (suc m) t r l e = dite (ℕ_discrete t m)
        (λ is. subst (λ o. Has (span_of_run r) (with_run (placed run_at m) o)) (sym (ap run_at (sym is) ∙ e)) (has_right (placed run_at m) (span_of_run r ∷ []) (span_of_run r) (inl refl)))
        (λ ne. stays (run_at m) (has_placed m t r (omega arith) e))
      where
        stays : (o : Option Run) → Has (span_of_run r) (placed run_at m) → Has (span_of_run r) (with_run (placed run_at m) o)
        stays (Some x) i = has_left (placed run_at m) (span_of_run x ∷ []) (span_of_run r) i
        stays None i = i

    abbrev spans : List Span
    spans = placed run_at (length plan.txns)

    behind : (a b : Span) → Contains spans a → Contains spans b → a.position < b.position → depends plan.table.kind (txn_at plan.txns a.position) (txn_at plan.txns b.position) ≡ true → a.finish < b.begin
    behind a b ha hb l d =
        let p = placed_has (length plan.txns) a (has_of spans a ha) in let q = placed_has (length plan.txns) b (has_of spans b hb) in
        let own_a = (and_parts (is_own plan p.0.0) (is_some (outcome_at plan p.0.0)) (runs_at p.0.0 p.0 p.1)).0 in
        let own_b = (and_parts (is_own plan q.0.0) (is_some (outcome_at plan q.0.0)) (runs_at q.0.0 q.0 q.1)).0 in
        let l' : p.0.0 < q.0.0 = subst (λ (x : Span). x.position < q.0.0) p.2 (subst (λ (x : Span). a.position < x.position) q.2 l) in
        let d' : depends plan.table.kind (txn_at plan.txns p.0.0) (txn_at plan.txns q.0.0) ≡ true = subst (λ (x : Span). depends plan.table.kind (txn_at plan.txns x.position) (txn_at plan.txns q.0.0) ≡ true) p.2 (subst (λ (x : Span). depends plan.table.kind (txn_at plan.txns a.position) (txn_at plan.txns x.position) ≡ true) q.2 d) in
        let e = edge_of plan h p.0.0 q.0.0 own_b (h.own_unknown p.0.0 own_a) (and_from (nat_lt p.0.0 q.0.0) (depends plan.table.kind (txn_at plan.txns p.0.0) (txn_at plan.txns q.0.0)) (lt-ltb p.0.0 q.0.0 l') d') in
        subst (λ (x : Span). x.finish < b.begin) (sym p.2) (subst (λ (x : Span). p.0.3 < x.begin) (sym q.2) (trace.ordered p.0.0 q.0.0 p.0 q.0 e p.1 q.1))

    of_each : (P : Span → Type 0) → ((t : ℕ) (r : Run) → run_at t ≡ Some r → P (span_of_run r)) → (s : Span) → Has s spans → P s
    of_each P each s has = let p = placed_has (length plan.txns) s has in subst P (sym p.2) (each p.0.0 p.0 p.1)

    lawful_trace : IsLawfulTrace plan.table.kind plan.txns 16 (ran_positions plan) spans
    lawful_trace = record {
      rising = (closes_law plan 1 (omega arith)).trace.rising;
      one_each = positions (length plan.txns) (omega arith);
      each_stamp = λ k l. let a = length_placed (length plan.txns) in times_placed k (length plan.txns) ∙ (trace.each_once k ∙ once_at (2 * count_of (script plan)) k (omega arith));
      forward = all_of (λ s. s.begin < s.finish) spans (of_each (λ s. s.begin < s.finish) trace.forward);
      behind = behind;
      by_workers = all_of (λ s. s.worker < 16) spans (of_each (λ s. s.worker < 16) (λ t r is. (trace.by_pass t r is).1));
    }

    pub lawful_close : IsLawfulClose plan v spans
    lawful_close = record {
      trace = lawful_trace;
      same = λ s. (
        (λ c. let p = placed_has (length plan.txns) s (has_of spans s c) in contains_of (map span_of_run v.spans) s
            (subst (λ x. Has x (map span_of_run v.spans)) (sym p.2) (map_has span_of_run v.spans p.0 (among_has p.0 v.spans (trace.place p.0.0 p.0 p.1).1)))),
        λ c. let p = has_map span_of_run v.spans s (has_of (map span_of_run v.spans) s c) in
            let at = trace.known p.0 (has_among p.0 v.spans p.1) in
            contains_of spans s (subst (λ x. Has x spans) (sym p.2) (has_placed (length plan.txns) p.0.0 p.0
            (own_below plan h p.0.0 (and_parts (is_own plan p.0.0) (is_some (outcome_at plan p.0.0)) (runs_at p.0.0 p.0 at)).0) at)),
      );
    }

-- the runs are those of the plan, whatever the words keep
pub trace_for : (layout : Layout) (plan : Plan) (v : View) (run_at : ℕ → Option Run) → IsTrace (script_of layout plan) v run_at → IsTrace (script plan) v run_at
trace_for layout plan v run_at h = record { ran = h.ran; rested = h.rested; place = h.place; known = h.known; by_pass = h.by_pass; forward = h.forward; ordered = h.ordered; each_once = h.each_once }

pub traces_law : TracesAreLawful
traces_law layout plan v run_at h trace = lawful_close plan h v run_at (trace_for layout plan v run_at trace)
