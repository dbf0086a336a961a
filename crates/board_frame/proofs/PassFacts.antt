-- What a pass keeps, after a take and after a finish.
use Rattle.std.proofs.Common.{◌≡◌, ◌≢◌, ℕ, true, cond, ◌+◌, ◌<◌, ◌≤◌, ⊎_elim, List, [], ◌∷◌, length, get_or, sym, refl, ap, ◌∙◌, subst, arith, Option, Some, None}
use Rattle.std.specs.Prelude.{is_some}
use mathlib.Core.Logic.{dite}
use native.Mathlib.Decide.{ℕ_discrete}
use Rattle.std.proofs.lemmas.Bool.{ne_eqb}
use Rattle.board_core.specs.declared.view.View.{View}
use Rattle.board_core.specs.Counts.{times_pair, times_first, noted, times, hit, Run, IsAmong, times_run}
use Rattle.board_core.specs.Rule.{IsLive}
use Rattle.board_core.specs.Script.{Script, Runs}
use Rattle.board_core.specs.Steps.{begun, swapped, loaded, finished}
use Rattle.board_core.specs.Parts.{Counts}
use Rattle.board_core.specs.Passes.{IsSettled, AreRuns}
use Rattle.board_core.proofs.Totals.{hits, hit_pair_same}
use native.Mathlib.Decide.{dec_lt}
use Rattle.std.proofs.lemmas.List.{get_or_past}
use Rattle.board_work.specs.declared.plan.Span.{Span}
use Rattle.board_words.specs.Runs.{run_of, run_at}
use Rattle.board_core.proofs.PassFits.{AreEither}

-- what stays settled
pub settled_taken : (p : Script) (v w : View) (t b : ℕ) → Runs p t → w ≡ begun t b (swapped t 0 (loaded t 0 v)) → IsSettled p v → IsSettled p w
settled_taken p v w t b runs e h = subst (IsSettled p) (sym e) record { counted = h.counted; unpublished = h.unpublished; unwritten = h.unwritten; runs = λ x pos. ⊎_elim (λ q. subst (Runs p) q.0 runs) (λ q. let z = q.1 in h.runs x (omega arith)) (hits x t); duties_own = h.duties_own; spans = record { numbered = h.spans.numbered; begun = λ r among. let z = h.spans.begun r among in omega arith; finished = h.spans.finished; each = h.spans.each }; taken_begun = λ x pos. ⊎_elim (λ q. let z = q.1 in omega arith) (λ q. let z = q.1 in let y = h.taken_begun x (omega arith) in omega arith) (hits x t) }

pub settled_loaded : (p : Script) (v w : View) (t n : ℕ) → w ≡ loaded t n v → IsSettled p v → IsSettled p w
settled_loaded p v w t n e h = subst (IsSettled p) (sym e) record { counted = h.counted; unpublished = h.unpublished; unwritten = h.unwritten; runs = h.runs; duties_own = h.duties_own; spans = record { numbered = h.spans.numbered; begun = h.spans.begun; finished = h.spans.finished; each = h.spans.each }; taken_begun = h.taken_begun }

pub settled_gone : (p : Script) (v w : View) (t n : ℕ) → n ≢ 0 → w ≡ swapped t n (loaded t 0 v) → IsSettled p v → IsSettled p w
settled_gone p v w t n ne e h = subst (IsSettled p) (sym e) record { counted = h.counted; unpublished = h.unpublished; unwritten = h.unwritten; runs = h.runs; duties_own = h.duties_own; spans = record { numbered = h.spans.numbered; begun = h.spans.begun; finished = h.spans.finished; each = h.spans.each }; taken_begun = λ x pos. h.taken_begun x (subst (λ b. 0 < times x (noted b t v.taken)) (ne_eqb n 0 ne) pos) }

-- the runs after a finish
runs_ended : (v w : View) (t begin f : ℕ) → w.numbers ≡ v.numbers → w.begins ≡ v.begins → w.finishes ≡ (t, f) ∷ v.finishes → w.spans ≡ (t, v.number, begin, f) ∷ v.spans → IsLive v → 0 < times_pair t begin v.begins → AreRuns v → AreRuns w
runs_ended v w t begin f numbers begins finishes spans live has h = record {
  numbered = λ r among. subst (λ (ns : List ℕ). 0 < times r.1 ns) (sym numbers) (⊎_elim (λ e. subst (λ (z : Run). 0 < times z.1 v.numbers) e live) (λ old. h.numbered r old) (subst (IsAmong r) spans among));
  begun = λ r among. subst (λ (bs : List (ℕ × ℕ)). 0 < times_pair r.0 r.2 bs) (sym begins) (⊎_elim (λ e. subst (λ (z : Run). 0 < times_pair z.0 z.2 v.begins) e has) (λ old. h.begun r old) (subst (IsAmong r) spans among));
  finished = λ r among. subst (λ (fs : List (ℕ × ℕ)). 0 < times_pair r.0 r.3 fs) (sym finishes) (⊎_elim (λ e. subst (λ (z : Run). 0 < times_pair z.0 z.3 ((t, f) ∷ v.finishes)) e (let a = hit_pair_same t f in omega arith)) (λ old. let a = h.finished r old in omega arith) (subst (IsAmong r) spans among));
  each = λ x. ap (times_run x) spans ∙ ((λ i. hit x t + h.each x i) ∙ sym (ap (times_first x) finishes));
}

-- a finish: published, written, stamped, counted
module _ (v a b c w : View) (t begin f : ℕ) (publish : a ≡ record v { published = a.published }) (write : b ≡ record a { written = b.written }) (stamp : c ≡ finished t begin f b) (count : w ≡ record c { duties = w.duties; counted = w.counted }) where
  abbrev pub ended : View
  ended = record (finished t begin f v) { duties = w.duties; counted = w.counted; published = a.published; written = b.written }

  pub is_ended : w ≡ ended
  is_ended = count ∙ (ap (λ (z : View). record z { duties = w.duties; counted = w.counted }) stamp ∙ (ap (λ (z : View). record (finished t begin f z) { duties = w.duties; counted = w.counted }) write
      ∙ ap (λ (z : View). record (finished t begin f z) { duties = w.duties; counted = w.counted; written = b.written }) publish))

  pub ended_same : w ≡ record (finished t begin f v) { duties = w.duties; counted = w.counted; published = w.published; written = w.written }
  ended_same = is_ended ∙ λ k. record (finished t begin f v) { duties = w.duties; counted = w.counted; published = ap (λ (z : View). z.published) (sym is_ended) k; written = ap (λ (z : View). z.written) (sym is_ended) k }

  pub ended_duties : (row made : List ℕ) → Counts row t c w [] made → (y : ℕ) → times y w.duties ≡ times y made + times y v.duties
  ended_duties row made counts y = let n = counts.duties y in let e : c.duties ≡ v.duties = ap (λ (z : View). z.duties) stamp ∙ (ap (λ (z : View). z.duties) write ∙ ap (λ (z : View). z.duties) publish) in let d = ap (times y) e in omega arith

  pub ended_settled : (p : Script) (row made : List ℕ) → ((y : ℕ) → times y row ≡ p.edge t y) → ((x : ℕ) → x ≢ t → times_first x a.published ≡ times_first x v.published) → ((x : ℕ) → x ≢ t → times_first x b.written ≡ times_first x a.written) → Counts row t c w [] made → ((y : ℕ) → 0 < times y made → p.own y ≡ true) → IsLive v → 0 < times_pair t begin v.begins → IsSettled p v → IsSettled p w
  ended_settled p row made edges elsewhere others counts made_own live has h = let finishes : w.finishes ≡ (t, f) ∷ v.finishes = ap (λ (z : View). z.finishes) is_ended in let begins : w.begins ≡ v.begins = ap (λ (z : View). z.begins) is_ended in
      let put : w.published ≡ a.published = ap (λ (z : View). z.published) is_ended in
      let writ : w.written ≡ b.written = ap (λ (z : View). z.written) is_ended in let was : a.written ≡ v.written = ap (λ (z : View). z.written) publish in
      let ec : c.counted ≡ v.counted = ap (λ (z : View). z.counted) stamp ∙ (ap (λ (z : View). z.counted) write ∙ ap (λ (z : View). z.counted) publish) in record {
        counted = λ s y pos. let fin = ap (times_first s) finishes in dite (ℕ_discrete s t)
            (λ e. subst (λ z. p.edge z y ≤ times_pair z y w.counted) (sym e) (let n = counts.counted y in let q = edges y in omega arith))
            (λ ne. let old = h.counted s y (⊎_elim (λ q. absurd (ne (sym q.0))) (λ q. let z = q.1 in omega arith) (hits s t)) in let o = counts.others s y ne in let e = ap (times_pair s y) ec in omega arith);
        unpublished = λ x z. let fin = ap (times_first x) finishes in ⊎_elim (λ q. let d = q.1 in absurd (omega arith)) (λ q. let d = q.1 in let old = h.unpublished x (omega arith) in let o = elsewhere x (λ e. q.0 (sym e)) in let g = ap (times_first x) put in omega arith) (hits x t);
        unwritten = λ x z. let fin = ap (times_first x) finishes in ⊎_elim (λ q. let d = q.1 in absurd (omega arith)) (λ q. let d = q.1 in let old = h.unwritten x (omega arith) in let o = others x (λ e. q.0 (sym e)) in let g = ap (times_first x) writ in let m = ap (times_first x) was in omega arith) (hits x t);
        runs = λ x pos. h.runs x (subst (λ xs. 0 < times_first x xs) begins pos);
        duties_own = λ y pos. let d = ended_duties row made counts y in dite (ℕ_discrete (times y made) 0) (λ z. h.duties_own y (omega arith)) (λ n. made_own y (omega arith));
        spans = runs_ended v w t begin f (ap (λ (z : View). z.numbers) is_ended) begins finishes (ap (λ (z : View). z.spans) is_ended) live has h.spans;
        taken_begun = λ x pos. let taken : w.taken ≡ v.taken = ap (λ (z : View). z.taken) is_ended in let a = ap (times x) taken in let b = ap (times_first x) begins in let c = h.taken_begun x (omega arith) in omega arith;
      }

-- the runs of two passes, place by place
pub runs_either : (a b c : List (Option Span)) → length c ≡ length a → length a ≡ length b → ((k : ℕ) → k < length c → get_or c k None ≡ cond (is_some (get_or b k None)) (get_or b k None) (get_or a k None)) → AreEither (run_at a) (run_at b) (run_at c)
runs_either a b c lc lb each k = go (dec_lt k (length c))
  where
    told : (x y : Option Span) → run_of (cond (is_some y) y x) ≡ cond (is_some (run_of y)) (run_of y) (run_of x)
    told x (Some s) = refl
    told x None = refl

    go : Dec (k < length c) → run_of (get_or c k None) ≡ cond (is_some (run_of (get_or b k None))) (run_of (get_or b k None)) (run_of (get_or a k None))
    go (yes l) = ap run_of (each k l) ∙ told (get_or a k None) (get_or b k None)
    go (no n) = ap run_of (get_or_past c k None (omega arith)) ∙ sym ((λ i. cond (is_some (run_of (get_or_past b k None (omega arith) i))) (run_of (get_or_past b k None (omega arith) i)) (run_of (get_or_past a k None (omega arith) i))))
