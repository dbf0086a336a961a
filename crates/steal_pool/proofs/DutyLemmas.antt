-- Why a worker ends, and that what is ready is to be run.
use Rattle.std.proofs.Common.{◌≡◌, ℕ, zero, suc, Bool, true, false, ◌+◌, ◌<◌, ◌≤◌, List, [], ◌∷◌, length, take, get_or, sym, ◌∙◌, ap, subst, arith, eqb, eq-eqb, ne_eqb, cond}
use Rattle.std.proofs.lemmas.Bool.{and_parts}
use mathlib.Core.Logic.{dite}
use native.Mathlib.Decide.{ℕ_discrete}
use Rattle.known_defs.specs.Known.{txn_at, knows_all}
use Rattle.board_defs.specs.Closure.{Plan, is_own, can_run}
use Rattle.board_core.specs.Counts.{times}

-- how many of the first n positions aren't tried
abbrev pub absent : ℕ → List ℕ → ℕ
absent x tried = cond (eqb (times x tried) 0) 1 0

abbrev pub left : ℕ → List ℕ → ℕ
left zero tried = 0
left (suc n) tried = left n tried + absent n tried

absent_yes : (x : ℕ) (xs : List ℕ) → times x xs ≡ 0 → absent x xs ≡ 1
absent_yes x xs z = ap (λ b. cond b 1 0) (eq-eqb (times x xs) 0 z)

absent_no : (x : ℕ) (xs : List ℕ) → 0 < times x xs → absent x xs ≡ 0
absent_no x xs pos = ap (λ b. cond b 1 0) (ne_eqb (times x xs) 0 (λ z. absurd (omega arith)))

absent_most : (x : ℕ) (xs : List ℕ) → absent x xs ≤ 1
absent_most x xs = dite (ℕ_discrete (times x xs) 0) (λ z. let a = absent_yes x xs z in omega arith) (λ n. let a = absent_no x xs (omega arith) in omega arith)

absent_le : (x : ℕ) (old new : List ℕ) → (0 < times x old → 0 < times x new) → absent x new ≤ absent x old
absent_le x old new more = dite (ℕ_discrete (times x old) 0) (λ z. let a = absent_yes x old z in let b = absent_most x new in omega arith)
    (λ n. let a = absent_no x new (more (omega arith)) in omega arith)

left_le : (n : ℕ) (old new : List ℕ) → ((x : ℕ) → 0 < times x old → 0 < times x new) → left n new ≤ left n old
left_le zero old new more = omega arith
left_le (suc n) old new more = let a = absent_le n old new (more n) in let b = left_le n old new more in omega arith

-- one more position is tried
pub left_falls : (n : ℕ) (old new : List ℕ) (t : ℕ) → t < n → times t old ≡ 0 → 0 < times t new → ((x : ℕ) → 0 < times x old → 0 < times x new) → left n new < left n old
left_falls zero old new t l fresh done more = absurd (omega arith)
left_falls (suc n) old new t l fresh done more = dite (ℕ_discrete t n)
    (λ e. let a = absent_yes n old (subst (λ k. times k old ≡ 0) e fresh) in let b = absent_no n new (subst (λ k. 0 < times k new) e done) in let c = left_le n old new more in omega arith)
    (λ ne. let a = absent_le n old new (more n) in let b = left_falls n old new t (omega arith) fresh done more in omega arith)

pub own_below : (own : List Bool) (t : ℕ) → get_or own t false ≡ true → t < length own
own_below [] t e = absurd (cc)
own_below (b ∷ own) zero e = omega arith
own_below (b ∷ own) (suc t) e = let a = own_below own t e in omega arith

pub ready_own : (plan : Plan) (t : ℕ) (b : Bool) → b ≡ can_run plan t (take t plan.known) → b ≡ true → is_own plan t ≡ true
ready_own plan t b same holds = (and_parts (is_own plan t) (knows_all plan.table.kind (txn_at plan.txns t) plan.txns (take t plan.known)) (sym same ∙ holds)).0
