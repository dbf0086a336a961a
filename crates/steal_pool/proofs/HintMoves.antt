-- Each move of a hint keeps the rule.
use Rattle.std.proofs.Common.{◌≡◌, ◌≢◌, ℕ, zero, suc, ◌<◌, Bool, List, [], ◌∷◌, length, get_or, set, sym, refl, ap, subst, ⊎_elim, arith}
use Rattle.std.specs.List.{Contains}
use Rattle.std.proofs.lemmas.List.Elements.{Contains-append_left, Contains-append_right, Contains-append_cases, Contains-push_cases}
use Rattle.board_core.specs.Counts.{times}
use Rattle.board_core.proofs.Totals.{hit_same}
use mathlib.Core.Option.{some, some-injective, some-ne-none}
use lib.ListN.{get_elem?}
use Rattle.crossbeam_deque.specs.Tasks.{Pushes, Takes, Pops, Admits}
use Rattle.crossbeam_deque.proofs.Lists.{at_set, at_snoc}
use Rattle.steal_pool.specs.declared.hints.HintView.{HintView}
use Rattle.steal_pool.specs.Hints.{AreHints, AllOwn, IsOwn, view_of}

views_stay : (own : List Bool) (views : List HintView) (port : ℕ) → ((j : ℕ) (u : HintView) → get_elem? views j ≡ some u → u.own ≡ own) → (j : ℕ) (u : HintView) → get_elem? (set views port (view_of own)) j ≡ some u → u.own ≡ own
views_stay own views port old j u e = ⊎_elim (λ (x : (j ≡ port) × (view_of own ≡ u)). ap (λ w. w.own) (sym x.1)) (λ (x : (j ≢ port) × (get_elem? views j ≡ some u)). old j u x.1) (at_set views port j (view_of own) u e)

pub pushes : (own : List Bool) (port : ℕ) (v : HintView) (xs : List ℕ) → AllOwn own xs → Pushes (AreHints own) port v xs (λ w. AllOwn own xs × (w ≡ view_of own))
pushes own port v xs new items views h at = (view_of own, ((λ x c. ⊎_elim (h.0 x) (new x) (Contains-append_cases items xs x c)), views_stay own views port h.1), (new, refl))

pub takes : (own : List Bool) (port : ℕ) (v : HintView) (most : ℕ) → Takes (AreHints own) port v most (λ xs w. AllOwn own xs × (w ≡ view_of own))
takes own port v most xs items views _ _ h at = let mine : AllOwn own xs = λ x c. h.0 x (Contains-append_left xs items x c) in
    (view_of own, ((λ x c. h.0 x (Contains-append_right xs items x c)), views_stay own views port h.1), (mine, refl))

pub pops : (own : List Bool) (port : ℕ) (v : HintView) → Pops (AreHints own) port v (λ xs w. AllOwn own xs × (w ≡ view_of own))
pops own port v x items views h at = let mine : AllOwn own (x ∷ []) = λ y c. h.0 y (Contains-append_right items (x ∷ []) y c) in
    (view_of own, ((λ y c. h.0 y (Contains-append_left items (x ∷ []) y c)), views_stay own views port h.1), (mine, refl))

pub admits : (own : List Bool) → Admits (AreHints own) (view_of own)
admits own items views h = (h.0, λ j u e. ⊎_elim (λ x. h.1 j u x) (λ (x : view_of own ≡ u). ap (λ w. w.own) (sym x)) (at_snoc views (view_of own) u j e))

pub in_one : (x y : ℕ) → Contains (x ∷ []) y → x ≡ y
in_one x y c = ⊎_elim (λ n. absurd (omega (arith, n.1))) (λ e. e) (Contains-push_cases [] x y c)

pub all_one : (own : List Bool) (x : ℕ) → IsOwn own x → AllOwn own (x ∷ [])
all_one own x h y c = subst (IsOwn own) (in_one x y c) h

-- a new deque is empty, and its worker's view carries the flags
pub begins : (own : List Bool) → AreHints own [] (view_of own ∷ [])
begins own = ((λ x c. absurd (omega (arith, c.1))), λ j u e. first j u e)
  where
    first : (j : ℕ) (u : HintView) → get_elem? (view_of own ∷ []) j ≡ some u → u.own ≡ own
    first zero u e = ap (λ w. w.own) (sym (some-injective (view_of own) u e))
    first (suc j) u e = absurd (some-ne-none u (sym e))

pub stands_in : (xs : List ℕ) (k : ℕ) → k < length xs → 0 < times (get_or xs k 0) xs
stands_in [] k l = absurd (omega arith)
stands_in (x ∷ xs) zero l = let a = hit_same x x refl in omega arith
stands_in (x ∷ xs) (suc k) l = let a = stands_in xs k (omega arith) in omega arith
