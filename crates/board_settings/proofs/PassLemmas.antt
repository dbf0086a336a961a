-- What two passes hold and know.
use Rattle.std.proofs.Common.{◌≡◌, ◌∙◌, ◌<◌, ◌++◌, ℕ, zero, suc, List, [], ◌∷◌, refl, sym, ap, subst, arith, min, eq-eqb, cond}
use Rattle.board_core.specs.Counts.{times}
use Rattle.board_work.specs.PassStates.{PassState, IsComplete, IsFree, Ended, without, joined_state}

-- what was held alone is gone
pub alone_gone : (t : ℕ) (v w : PassState) (made : List ℕ) → v.held ≡ t ∷ [] → Ended t v w made → IsFree w
alone_gone t v w made one e = ap (λ (s : PassState). s.held) e.same ∙ ap (without t) one ∙ ap (λ b. cond b [] (t ∷ [])) (eq-eqb t t refl)

both_numbers : (k : ℕ) → k < 2 → 0 < times k (0 ∷ 1 ∷ [])
both_numbers zero l = omega arith
both_numbers (suc zero) l = omega arith
both_numbers (suc (suc k)) l = absurd (omega arith)

-- the first pass and the one that was split from it are all
pub two_passes : (v u w : PassState) → v.numbers ≡ 0 ∷ [] → u.numbers ≡ 1 ∷ [] → v.passes ≡ 2 → u.passes ≡ 16 → w ≡ joined_state v u → IsComplete w
two_passes v u w vn un vp up e k l =
    let numbers : w.numbers ≡ 0 ∷ 1 ∷ [] = ap (λ (s : PassState). s.numbers) e ∙ ap (λ ns. ns ++ u.numbers) vn ∙ ap (λ ns. 0 ∷ ns) un in
    let passes : w.passes ≡ 2 = ap (λ (s : PassState). s.passes) e ∙ ap (λ n. min n u.passes) vp ∙ ap (λ n. min 2 n) up in
    subst (λ ns. 0 < times k ns) (sym numbers) (both_numbers k (subst (λ n. k < n) passes l))
