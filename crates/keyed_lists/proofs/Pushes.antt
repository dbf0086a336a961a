-- What stands at each key behind an item more, by a test that tells the keys apart as their order does.
use Rattle.std.specs.Prelude.{◌≡◌, Bool, cond, List, [], ◌∷◌, ◌++◌}
use Rattle.std.specs.declared.cmp.Ordering.{Ordering}
use Rattle.std.specs.Ordering.{eq_by_cmp}
use Rattle.std.proofs.Common.{subst}
use Rattle.keyed_lists.specs.Keyed.{IsPushed, list_at}

pub pushed_at : {K T : Type 0} (cmp : K → K → Ordering) (test : K → K → Bool) (same : (a b : K) → eq_by_cmp cmp a b ≡ test a b) (old : List (K × List T)) (key : K) (x : T) (new : List (K × List T)) → IsPushed cmp old key x new → (q : K) →
    list_at (test q) new ≡ cond (test key q) (list_at (test key) old ++ x ∷ []) (list_at (test q) old)
pushed_at {K} cmp test same old key x new pushed =
    subst (λ (t : K → K → Bool). (q : K) → list_at (t q) new ≡ cond (t key q) (list_at (t key) old ++ x ∷ []) (list_at (t q) old)) (λ i a b. same a b i) pushed.at
