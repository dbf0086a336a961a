-- What the parts of a finish owe: the edges of a row, and the entries of an outcome.
use Rattle.std.proofs.Common.{◌≡◌, ℕ, zero, suc, Bool, true, false, cond, ◌==◌, ◌||◌, ◌+◌, ◌<◌, ◌≤◌, ⊎_elim, List, [], ◌∷◌, length, take, get_or, sym, refl, ap, ◌∙◌, subst, arith, Option, Some, None}
use Rattle.std.specs.Prelude.{is_some}
use Rattle.std.proofs.lemmas.Bool.{false≢true, eq-eqb, eqb-true, or_cases, or_right}
use Rattle.std.proofs.lemmas.Option.{none-some}
use Rattle.std.proofs.lemmas.List.{take_more}
use Rattle.txn_types.specs.Rising.{IsRising}
use Rattle.txn_types.specs.declared.txn.Outcome.TheVariants.{Commit}
use Rattle.oxii_defs.specs.State.{contains}
use Rattle.board_defs.specs.Closure.{Plan}
use Rattle.board_core.specs.declared.view.View.{View}
use Rattle.board_core.specs.Counts.{times_pair, times}
use Rattle.board_core.specs.Script.{Gives}
use Rattle.board_core.specs.Parts.{Counts, Wrote}
use Rattle.board_core.specs.Traces.{one_if}
use Rattle.board_core.proofs.Totals.{hit_same}
use Rattle.board_core.proofs.PassFits.{counts_more, times-take-lt}
use Rattle.board_work.specs.Scripts.{later, given, gives, outcome_at, writes_at, script}
use Rattle.script_laws.proofs.Sound.{given_is}

pub stands_in : (xs : List ℕ) (k : ℕ) → k < length xs → 0 < times (get_or xs k 0) xs
stands_in [] k l = absurd (omega arith)
stands_in (x ∷ xs) zero l = let a = hit_same x x refl in omega arith
stands_in (x ∷ xs) (suc k) l = let a = stands_in xs k (omega arith) in omega arith

pub contains_at : (xs : List ℕ) (k : ℕ) → k < length xs → contains xs (get_or xs k 0) ≡ true
contains_at [] k l = absurd (omega arith)
contains_at (x ∷ xs) zero l = ap (λ b. b || contains xs x) (eq-eqb x x refl)
contains_at (x ∷ xs) (suc k) l = or_right (get_or xs k 0 == x) (contains xs (get_or xs k 0)) (contains_at xs k (omega arith))

pub above : (w : ℕ) (ws : List ℕ) (q : ℕ) → IsRising (w ∷ ws) → contains ws q ≡ true → w < q
above w [] q rising h = absurd (false≢true h)
above w (x ∷ ws) q rising h = let l = rising.0 in ⊎_elim (λ e. let a = eqb-true q x e in omega arith) (λ e. let a = above x ws q rising.1 e in omega arith) (or_cases (q == x) (contains ws q) h)

pub rest_rises : (w : ℕ) (ws : List ℕ) → IsRising (w ∷ ws) → IsRising ws
rest_rises w [] rising = tt
rest_rises w (x ∷ ws) rising = rising.1

pub not_given : (g : Option ℕ) → (is_some g ≡ true → ⊥) → g ≡ None
not_given (Some x) h = absurd (h refl)
not_given None h = refl

-- the entry at a place is what the outcome gives the record there
given_back : (ws : List ℕ) (cells : List (Option ℕ)) (k x : ℕ) → IsRising ws → k < length ws → get_or cells k None ≡ Some x → given ws cells (get_or ws k 0) ≡ Some x
given_back [] cells k x rising l e = absurd (omega arith)
given_back (w ∷ ws) [] k x rising l e = absurd (none-some x e)
given_back (w ∷ ws) (c ∷ cells) zero x rising l e =
    ap (λ g. later g (cond (w == w) c None)) (not_given (given ws cells w) (λ h. let a = above w ws w rising (given_is ws cells w h) in absurd (omega arith)))
    ∙ (ap (λ b. cond b c None) (eq-eqb w w refl) ∙ e)
given_back (w ∷ ws) (c ∷ cells) (suc k) x rising l e =
    ap (λ g. later g (cond (get_or ws k 0 == w) c None)) (given_back ws cells k x (rest_rises w ws rising) (omega arith) e)

given_cases : (w : ℕ) (ws : List ℕ) (c : Option ℕ) (cells : List (Option ℕ)) (r x : ℕ) → (given ws cells r ≡ Some x → (k : ℕ) × (k < length ws) × (get_or ws k 0 ≡ r) × (get_or cells k None ≡ Some x))
    → (g : Option ℕ) → given ws cells r ≡ g → (b : Bool) → (r == w) ≡ b → later g (cond b c None) ≡ Some x → (k : ℕ) × (k < suc (length ws)) × (get_or (w ∷ ws) k 0 ≡ r) × (get_or (c ∷ cells) k None ≡ Some x)
given_cases w ws c cells r x rest (Some y) is b eb h = let a = rest (is ∙ h) in let l = a.1 in (suc a.0, omega arith, a.2, a.3)
given_cases w ws c cells r x rest None is true eb h = (0, omega arith, sym (eqb-true r w eb), h)
given_cases w ws c cells r x rest None is false eb h = absurd (cc)

-- and what it gives stands at a place
given_at : (ws : List ℕ) (cells : List (Option ℕ)) (r x : ℕ) → given ws cells r ≡ Some x → (k : ℕ) × (k < length ws) × (get_or ws k 0 ≡ r) × (get_or cells k None ≡ Some x)
given_at [] cells r x e = absurd (cc)
given_at (w ∷ ws) [] r x e = absurd (cc)
given_at (w ∷ ws) (c ∷ cells) r x e = given_cases w ws c cells r x (given_at ws cells r x) (given ws cells r) refl (r == w) refl e

pub entries_meant : (plan : Plan) (t : ℕ) (cells : List (Option ℕ)) (ws : List ℕ) (k x : ℕ) → outcome_at plan t ≡ Some (Commit cells) → ws ≡ writes_at plan t → IsRising ws → k < length ws → get_or cells k None ≡ Some x
    → gives (outcome_at plan t) (writes_at plan t) (get_or ws k 0) ≡ Some x
entries_meant plan t cells ws k x is e rising l at = ap (λ o. gives o (writes_at plan t) (get_or ws k 0)) is ∙ (ap (λ y. given y cells (get_or ws k 0)) (sym e) ∙ given_back ws cells k x rising l at)

pub entries_written : (plan : Plan) (t : ℕ) (cells : List (Option ℕ)) (ws : List ℕ) (v w : View) → outcome_at plan t ≡ Some (Commit cells) → ws ≡ writes_at plan t → Wrote (length ws) t ws cells v w → (r : ℕ) → Gives (script plan) t r → 0 < times_pair t r w.written
entries_written plan t cells ws v w is e h r g = let at = given_at ws cells r g.0 (ap (λ y. given y cells r) e ∙ (sym (ap (λ o. gives o (writes_at plan t) r) is) ∙ g.1)) in subst (λ z. 0 < times_pair t z w.written) at.2 (h.all at.0 g.0 at.1 at.3)

pub one_most : (b : Bool) → one_if b ≤ 1
one_most true = omega arith
one_most false = omega arith

-- an edge of the row that isn't counted yet
pub fresh_edge : (b : Bool) (s i : ℕ) (row : List ℕ) (v w : View) (a c : List ℕ) → times (get_or row i 0) row ≡ one_if b → i < length row → times_pair s (get_or row i 0) v.counted ≡ 0 → Counts (take i row) s v w a c
    → times_pair s (get_or row i 0) w.counted ≡ 0
fresh_edge b s i row v w a c one l new counts = let u = get_or row i 0 in let n = counts.counted u in let lt = times-take-lt u i row l refl in let m = one_most b in omega arith

-- the row one further
pub counts_step : (row : List ℕ) (i s : ℕ) (v w u : View) (a b c : List ℕ) → i < length row → Counts (take i row) s v w a b → Counts (get_or row i 0 ∷ []) s w u b c → Counts (take (i + 1) row) s v u a c
counts_step row i s v w u a b c l h k = subst (λ r. Counts r s v u a c) (sym (take_more row i 0 l)) (counts_more (take i row) (get_or row i 0 ∷ []) s v w u a b c h k)
