-- The standings of a block's positions, one by one.
use Rattle.std.specs.Prelude.{ℕ, ◌<◌, ◌≤◌, get_or, ◌≡◌, [], ◌∷◌, ◌++◌, zero, suc, refl, length}
use Rattle.std.proofs.Common.{◌∙◌, ap, arith, ⊎_elim}
use Rattle.std.proofs.lemmas.Bool.{cases_lt}
use Rattle.std.proofs.lemmas.List.{length_push, get_or_append_left, get_or_push}
use Rattle.node_defs.specs.Log.{Log}
use Rattle.node_defs.specs.Position.{Standing, Work, standing, standings}
use Rattle.node_defs.specs.Rules.{Rules}
use Rattle.node_defs.specs.Sent.{no_standing}

pub length_standings : (rules : Rules) (w : Work) (L : Log) (n : ℕ) → length (standings rules w n L) ≡ n
length_standings rules w L zero = refl
length_standings rules w L (suc n) = omega (arith, length_push (standings rules w n L) (standing rules w n (standings rules w n) L), length_standings rules w L n)

pub standing_at : (rules : Rules) (w : Work) (L : Log) (n t : ℕ) → t < n → get_or (standings rules w n L) t no_standing ≡ standing rules w t (standings rules w t) L
standing_at rules w L zero t h = absurd (omega arith)
standing_at rules w L (suc n) t h = ⊎_elim (λ e. inside (standing_at rules w L n t) e) (λ e. last e) (cases_lt t n)
  where
    y : Standing
    y = standing rules w n (standings rules w n) L

    inside : (t < n → get_or (standings rules w n L) t no_standing ≡ standing rules w t (standings rules w t) L) → t < n → get_or (standings rules w n L ++ y ∷ []) t no_standing ≡ standing rules w t (standings rules w t) L
    inside more e = get_or_append_left (standings rules w n L) (y ∷ []) no_standing t (omega (arith, length_standings rules w L n)) ∙ more e

    last : n ≤ t → get_or (standings rules w n L ++ y ∷ []) t no_standing ≡ standing rules w t (standings rules w t) L
    last e = let k : n ≡ t = omega arith in get_or_push (standings rules w n L) y no_standing t (length_standings rules w L n ∙ k) ∙ ap (λ j. standing rules w j (standings rules w j) L) k
