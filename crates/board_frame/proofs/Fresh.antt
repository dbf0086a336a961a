-- The fields of a pass that has done nothing.
use Rattle.std.proofs.Common.{◌≡◌, ℕ, false, ◌<◌, List, [], length, replicate, get_or, sym, refl, ap, ◌∙◌, subst, arith, Bool, Option, Some, None}
use Rattle.std.proofs.lemmas.List.{length-replicate}
use Rattle.std.proofs.lemmas.Option.{none-some}
use Rattle.board_core.specs.declared.view.View.{View}
use Rattle.board_core.specs.Counts.{Run, times}
use Rattle.board_core.specs.Script.{Script, IsOwn}
use Rattle.board_core.specs.Steps.{first_view, ready_below, fresh, newcomer}
use Rattle.board_core.specs.Passes.{AreFlags, Fits, IsSettled}
use Rattle.board_core.proofs.Totals.{hit_same}
use Rattle.board_work.specs.declared.plan.Span.{Span}
use Rattle.board_words.specs.Runs.{run_of, run_at}
use Rattle.board_words.proofs.Opens.{ready_low}
use Rattle.trace_laws.proofs.Entries.{all_same}

pub fresh_fits : (k passes : ℕ) (duties : List ℕ) (duty tried : List Bool) (begins : List ℕ) (runs : ℕ → Option Run) → (length tried ≡ length duty) × (length begins ≡ length duty) → AreFlags duties duty → ((t : ℕ) → get_or tried t false ≡ false) → ((t : ℕ) → get_or begins t 0 ≡ 0) → ((t : ℕ) → runs t ≡ None)
    → Fits (fresh k passes duties) duty tried begins runs
fresh_fits k passes duties duty tried begins runs long flags untried unbegun unrun = record {
  live = let a = hit_same k k refl in omega arith;
  as_long = long;
  duties = flags;
  marks = λ t l. ((λ is. let a = untried t in absurd (cc)), λ pos. absurd (omega arith));
  begun = λ t x is. absurd (let a = unbegun t in omega arith);
  has_begun = λ t pos. absurd (omega arith);
  run = λ t r is. absurd (none-some r (sym (unrun t) ∙ is));
  has_run = λ t pos. absurd (omega arith);
}

pub fresh_settled : (p : Script) (k passes : ℕ) (duties : List ℕ) → ((t : ℕ) → 0 < times t duties → IsOwn p t) → IsSettled p (fresh k passes duties)
fresh_settled p k passes duties own = record { counted = λ s t pos. absurd (omega arith); unpublished = λ t z. refl; unwritten = λ t z. refl; runs = λ t pos. absurd (omega arith); duties_own = own; taken_begun = λ t pos. absurd (omega arith); spans = record { numbered = λ r never. absurd never; begun = λ r never. absurd never; finished = λ r never. absurd never; each = λ t. refl } }

pub first_settled : (p first : Script) → ((t : ℕ) → IsOwn first t → IsOwn p t) → IsSettled p (first_view first)
first_settled p first own = fresh_settled p 0 1 (ready_below first.size first) (λ t pos. own t (ready_low first.size first t pos).0)

pub first_pass : (p : Script) (v : View) (duty tried : List Bool) (begins : List ℕ) (runs : List (Option Span)) → v ≡ first_view p → (length duty ≡ p.size) × AreFlags (ready_below p.size p) duty → tried ≡ replicate p.size false → begins ≡ replicate p.size 0 → runs ≡ replicate p.size None → Fits v duty tried begins (run_at runs)
first_pass p v duty tried begins runs is d t b f = subst (λ (w : View). Fits w duty tried begins (run_at runs)) (sym is) (fresh_fits 0 1 (ready_below p.size p) duty tried begins (run_at runs)
    (ap length t ∙ (length-replicate p.size false ∙ sym d.0), ap length b ∙ (length-replicate p.size 0 ∙ sym d.0)) d.1
    (λ k. ap (λ xs. get_or xs k false) t ∙ all_same p.size k false) (λ k. ap (λ xs. get_or xs k 0) b ∙ all_same p.size k 0) (λ k. ap (λ xs. run_of (get_or xs k None)) f ∙ ap run_of (all_same p.size k None)))

-- the pass of a split
pub new_pass : (k n : ℕ) (duty tried : List Bool) (begins : List ℕ) (runs : List (Option Span)) → duty ≡ replicate n false → tried ≡ replicate n false → begins ≡ replicate n 0 → runs ≡ replicate n None → Fits (newcomer k) duty tried begins (run_at runs)
new_pass k n duty tried begins runs d t b f = fresh_fits k 16 [] duty tried begins (run_at runs)
    (ap length t ∙ (length-replicate n false ∙ sym (ap length d ∙ length-replicate n false)), ap length b ∙ (length-replicate n 0 ∙ sym (ap length d ∙ length-replicate n false)))
    (λ x l. ((λ is. let a = ap (λ xs. get_or xs x false) d ∙ all_same n x false in absurd (cc)), λ pos. absurd (omega arith)))
    (λ x. ap (λ xs. get_or xs x false) t ∙ all_same n x false) (λ x. ap (λ xs. get_or xs x 0) b ∙ all_same n x 0) (λ x. ap (λ xs. run_of (get_or xs x None)) f ∙ ap run_of (all_same n x None))
