-- The map of the written values, read and changed at one place of the write set.
use Rattle.std.proofs.Common.{◌≡◌, ◌<◌, ◌≤◌, ◌+◌, ℕ, suc, Bool, true, false, not, cond, List, [], ◌∷◌, length, Option, Some, None, slice_index_or, slice_set, position, nat_lt, is_some, ◌||◌, ◌==◌, refl, sym, ap, ◌∙◌, arith, zero, replicate}
use Rattle.std.specs.Option.{option_map}
use Rattle.std.specs.Ordering.{nat_cmp}
use Rattle.std.specs.Cmp.{unsigned_tied, nat_cmp_total}
use Rattle.std.specs.FinMap.{empty, insert, get, get-empty, get-insert, get-remove, same_map, nat_cmp-IsAntisymmetric}
use Rattle.std.proofs.lemmas.Bool.Decides.{nat_tests}
use Rattle.std.proofs.lemmas.Bool.{eqb-true, eqb-false}
use Rattle.std.proofs.lemmas.List.{get_or-set_same, get_or-set_other, length-replicate}
use Rattle.std.proofs.Math.ListN.{length-set}
use Rattle.oxii_defs.specs.State.{contains}
use Rattle.txn_core.specs.Frames.{written_of, place}

one_position : (b : Bool) (n m : ℕ) →
    cond (nat_lt (cond (not b) (1 + n) 0) (suc m)) (Some (cond (not b) (1 + n) 0)) None
    ≡ cond b (Some 0) (option_map suc (cond (nat_lt n m) (Some n) None))
one_position true n m = grind (arith, nat_tests)
one_position false n m = grind (arith, nat_tests)

pub position_is_place : (rs : List ℕ) (r : ℕ) → position (λ q. r == q) rs ≡ place rs r
position_is_place [] r = refl
position_is_place (q ∷ rs) r = one_position (r == q) _ (length rs) ∙ ap (λ o. cond (r == q) (Some 0) (option_map suc o)) (position_is_place rs r)

-- the value at a place, if there is one
abbrev pub found : Option ℕ → List (Option ℕ) → Option ℕ
found None vs = None
found (Some i) vs = slice_index_or vs i None

found_here : (b : Bool) (o : Option ℕ) (v : Option ℕ) (vs : List (Option ℕ)) →
    cond b v (found o vs) ≡ found (cond b (Some 0) (option_map suc o)) (v ∷ vs)
found_here true o v vs = refl
found_here false None v vs = refl
found_here false (Some i) v vs = refl

pub get-written_of : (rs : List ℕ) (vs : List (Option ℕ)) (r : ℕ) → length rs ≤ length vs →
    get (written_of rs vs) r ≡ found (place rs r) vs
get-written_of [] vs r le = get-empty nat_cmp r
get-written_of (q ∷ rs) [] r le = absurd (omega arith)
get-written_of (q ∷ rs) (Some v ∷ vs) r le =
    let short : length rs ≤ length vs = omega arith in
    get-insert nat_cmp_total (written_of rs vs) q v r
    ∙ ap (λ b. cond b (Some v) (get (written_of rs vs) r)) (unsigned_tied r q)
    ∙ ap (cond (r == q) (Some v)) (get-written_of rs vs r short)
    ∙ found_here (r == q) (place rs r) (Some v) vs
get-written_of (q ∷ rs) (None ∷ vs) r le =
    let short : length rs ≤ length vs = omega arith in
    get-remove nat_cmp_total (written_of rs vs) q r
    ∙ ap (λ b. cond b None (get (written_of rs vs) r)) (unsigned_tied r q)
    ∙ ap (cond (r == q) None) (get-written_of rs vs r short)
    ∙ found_here (r == q) (place rs r) None vs

place_is_at : (rs : List ℕ) (q r : ℕ) (b : Bool) → (r == q) ≡ b → (i : ℕ) →
    ((j : ℕ) → place rs r ≡ Some j → (j < length rs) × (slice_index_or rs j 0 ≡ r)) →
    (o : Option ℕ) → place rs r ≡ o →
    cond b (Some 0) (option_map suc o) ≡ Some i → (i < suc (length rs)) × (slice_index_or (q ∷ rs) i 0 ≡ r)
place_is_at rs q r true same zero later o p e = (omega arith, sym (eqb-true r q same))
place_is_at rs q r true same (suc i) later o p e = cc
place_is_at rs q r false same i later None p e = cc
place_is_at rs q r false same zero later (Some j) p e = cc
place_is_at rs q r false same (suc i) later (Some j) p e =
    let at : place rs r ≡ Some i = cc in let known = later i at in (omega (arith, known.0), known.1)

pub place_is : (rs : List ℕ) (r i : ℕ) → place rs r ≡ Some i → (i < length rs) × (slice_index_or rs i 0 ≡ r)
place_is [] r i e = cc
place_is (q ∷ rs) r i e = place_is_at rs q r (r == q) refl i (place_is rs r) (place rs r) refl e

set_found : (rs : List ℕ) (vs : List (Option ℕ)) (r i v q : ℕ) → place rs r ≡ Some i → i < length vs → (b : Bool) → (q == r) ≡ b →
    (o : Option ℕ) → place rs q ≡ o → found o (slice_set vs i (Some v)) ≡ cond b (Some v) (found o vs)
set_found rs vs r i v q e lt true same o p =
    let equal = eqb-true q r same in
    rw (sym p ∙ ap (place rs) equal ∙ e) (get_or-set_same vs i (Some v) None lt)
set_found rs vs r i v q e lt false differ None p = refl
set_found rs vs r i v q e lt false differ (Some j) p =
    let here = place_is rs r i e in
    let there = place_is rs q j p in
    get_or-set_other vs i j (Some v) None (λ k. eqb-false q r differ (sym there.1 ∙ ap (λ n. slice_index_or rs n 0) k ∙ here.1))

pub set-written_of : (rs : List ℕ) (vs : List (Option ℕ)) (r i v : ℕ) → place rs r ≡ Some i → length rs ≤ length vs →
    written_of rs (slice_set vs i (Some v)) ≡ insert (written_of rs vs) r v
set-written_of rs vs r i v e le = same_map nat_cmp_total nat_cmp-IsAntisymmetric _ _ (λ q.
    let at = place_is rs r i e in
    let room : length rs ≤ length (slice_set vs i (Some v)) = simp length-set (le) in
    let within : i < length vs = omega (arith, at.0) in
    get-written_of rs _ q room
    ∙ set_found rs vs r i v q e within (q == r) refl (place rs q) refl
    ∙ ap (cond (q == r) (Some v)) (sym (get-written_of rs vs q le))
    ∙ ap (λ b. cond b (Some v) (get (written_of rs vs) q)) (sym (unsigned_tied q r))
    ∙ sym (get-insert nat_cmp_total (written_of rs vs) r v q))

none_at : (n i : ℕ) → slice_index_or {A = Option ℕ} (replicate n None) i None ≡ None
none_at zero i = refl
none_at (suc n) zero = refl
none_at (suc n) (suc i) = none_at n i

none_found : (n : ℕ) (o : Option ℕ) → found o (replicate n None) ≡ None
none_found n None = refl
none_found n (Some i) = none_at n i

pub none_written : (rs : List ℕ) (n : ℕ) → length rs ≤ n → written_of rs (replicate n None) ≡ empty
none_written rs n le = same_map nat_cmp_total nat_cmp-IsAntisymmetric _ _ (λ q.
    get-written_of rs (replicate n None) q (rw length-replicate le) ∙ none_found n (place rs q) ∙ sym (get-empty nat_cmp q))

pub contains_is : (rs : List ℕ) (r : ℕ) → contains rs r ≡ is_some (place rs r)
contains_is [] r = refl
contains_is (q ∷ rest) r = at_head (r == q) (place rest r) (contains_is rest r)
  where
    at_head : (b : Bool) (o : Option ℕ) → contains rest r ≡ is_some o → (b || contains rest r) ≡ is_some (cond b (Some 0) (option_map suc o))
    at_head true o e = refl
    at_head false None e = e
    at_head false (Some i) e = e
