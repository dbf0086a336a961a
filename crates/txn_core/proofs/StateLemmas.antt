-- The state of a list of values.
use Rattle.std.proofs.Common.{◌≡◌, ◌≤◌, ◌<◌, ℕ, zero, suc, ◌+◌, Bool, true, false, cond, List, [], ◌∷◌, Option, Some, None, map, take, drop, slice_set, length, slice_index, slice_index_or, ◌==◌, IfSome, refl, sym, ap, ◌∙◌, arith}
use mathlib.Core.Path.{fun_ext}
use Rattle.std.proofs.lemmas.Bool.Decides.{nat_tests}
use Rattle.std.proofs.lemmas.List.{get_or-map, get_or-take, get_or-set_same, get_or-set_other, drop_more}
use Rattle.std.proofs.lemmas.Bool.{eqb-true, eqb-false, and_parts}
use Rattle.std.specs.FinMap as map
use Rattle.std.specs.Ordering.{nat_cmp}
use Rattle.std.specs.Cmp.{unsigned_tied, nat_cmp_total}
use Rattle.oxii_defs.specs.Effects.{put_entry, put_all}
use Rattle.oxii_defs.specs.State.{State, IsState, value_in, put}
use Rattle.txn_types.specs.Values.{max_value, IsValue, AreValues}
use Rattle.txn_types.specs.Fitting.{fit_entries}
use Rattle.oxii_defs.proofs.States.{value_in-put, value_in-empty}
use Rattle.txn_core.specs.States.{state_from, state_of}

value_at : (k r q : ℕ) (values : List ℕ) → q ≡ k + r → value_in (state_from k values) q ≡ slice_index values r
value_at k r q [] e = value_in-empty q
value_at k zero q (v ∷ rest) e =
    let same : (q == k) ≡ true = grind (arith, nat_tests) in
    value_in-put (state_from (suc k) rest) k v q ∙ ap (λ b. cond b v (value_in (state_from (suc k) rest) q)) same
value_at k (suc r) q (v ∷ rest) e =
    let other : (q == k) ≡ false = grind (arith, nat_tests) in
    let next : q ≡ suc k + r = omega arith in
    value_in-put (state_from (suc k) rest) k v q ∙ ap (λ b. cond b v (value_in (state_from (suc k) rest) q)) other ∙ value_at (suc k) r q rest next

pub value_of_state : (values : List ℕ) (r : ℕ) → value_in (state_of values) r ≡ slice_index values r
value_of_state values r = value_at 0 r r values (omega arith)

pub values_of_state : (values reads : List ℕ) → map (value_in (state_of values)) reads ≡ map (slice_index values) reads
values_of_state values reads = ap (λ (f : ℕ → ℕ). map f reads) (fun_ext (value_of_state values))

-- an input is the value of its record
pub input_is : (values reads inputs : List ℕ) (i : ℕ) → take (length reads) inputs ≡ map (slice_index values) reads → i < length reads →
    slice_index inputs i ≡ slice_index values (slice_index reads i)
input_is values reads inputs i e lt =
    sym (get_or-take _ _ _ _ lt) ∙ ap (λ l. slice_index_or l i 0) e ∙ get_or-map (slice_index values) reads i 0 0 lt

-- ONE VALUE CHANGED

-- what the map has for a value
abbrev entry_of : ℕ → Option ℕ
entry_of v = cond (v == 0) None (Some v)

get_put : (s : State) (r v q : ℕ) → map.get (put s r v) q ≡ cond (q == r) (entry_of v) (map.get s q)
get_put s r v q = by_zero (v == 0)
  where
    by_zero : (b : Bool) → map.get (cond b (map.remove s r) (map.insert s r v)) q ≡ cond (q == r) (cond b None (Some v)) (map.get s q)
    by_zero true = map.get-remove nat_cmp_total s r q ∙ ap (λ b. cond b None (map.get s q)) (unsigned_tied q r)
    by_zero false = map.get-insert nat_cmp_total s r v q ∙ ap (λ b. cond b (Some v) (map.get s q)) (unsigned_tied q r)

get_at : (k r q : ℕ) (values : List ℕ) → q ≡ k + r → map.get (state_from k values) q ≡ entry_of (slice_index values r)
get_at k r q [] e = map.get-empty nat_cmp q
get_at k zero q (v ∷ rest) e =
    let same : (q == k) ≡ true = grind (arith, nat_tests) in
    get_put (state_from (suc k) rest) k v q ∙ ap (λ b. cond b (entry_of v) (map.get (state_from (suc k) rest) q)) same
get_at k (suc r) q (v ∷ rest) e =
    let other : (q == k) ≡ false = grind (arith, nat_tests) in
    let next : q ≡ suc k + r = omega arith in
    get_put (state_from (suc k) rest) k v q ∙ ap (λ b. cond b (entry_of v) (map.get (state_from (suc k) rest) q)) other ∙ get_at (suc k) r q rest next

set_at : (values : List ℕ) (r v q : ℕ) → r < length values → (b : Bool) → (q == r) ≡ b → slice_index (slice_set values r v) q ≡ cond b v (slice_index values q)
set_at values r v q lt true same = rw (eqb-true q r same) (get_or-set_same values r v 0 lt)
set_at values r v q lt false other = get_or-set_other values r q v 0 (eqb-false q r other)

entry_cond : (b : Bool) (v w : ℕ) → entry_of (cond b v w) ≡ cond b (entry_of v) (entry_of w)
entry_cond true v w = refl
entry_cond false v w = refl

pub state_of-set : (values : List ℕ) (r v : ℕ) → r < length values → state_of (slice_set values r v) ≡ put (state_of values) r v
state_of-set values r v lt = map.same_map nat_cmp_total map.nat_cmp-IsAntisymmetric _ _ (λ q.
    get_at 0 q q (slice_set values r v) (omega arith)
    ∙ ap entry_of (set_at values r v q lt (q == r) refl)
    ∙ entry_cond (q == r) v (slice_index values q)
    ∙ ap (cond (q == r) (entry_of v)) (sym (get_at 0 q q values (omega arith)))
    ∙ sym (get_put (state_of values) r v q))

-- ENTRIES, from a place on

pub put_next : (s u : State) (writes : List ℕ) (entries : List (Option ℕ)) (i : ℕ) (o : Option ℕ) → i < length writes → i < length entries →
    u ≡ put_entry s (slice_index writes i) (slice_index_or entries i o) →
    put_all u (drop (i + 1) writes) (drop (i + 1) entries) ≡ put_all s (drop i writes) (drop i entries)
put_next s u writes entries i o lt le e = rw (drop_more writes i 0 lt, drop_more entries i o le, e)

-- RANGE

pub value_small : (values : List ℕ) (r : ℕ) → AreValues values → slice_index values r ≤ max_value
value_small [] r small = omega arith
value_small (v ∷ rest) zero small = small 0 0 (omega arith)
value_small (v ∷ rest) (suc r) small = value_small rest r (λ k d lt. small (suc k) d (omega (arith, lt)))

entry_small : (v w : ℕ) → v ≤ max_value → (b : Bool) → (v == 0) ≡ b → cond b None (Some v) ≡ Some w → (0 < w) × (w ≤ max_value)
entry_small v w le true zero_it e = cc
entry_small v w le false other e =
    let same : v ≡ w = cc in
    let from_one : 0 < v = grind (arith, nat_tests) in
    rw (← same) (from_one, le)

-- values in their range are those of a state
pub state_of-values : (values : List ℕ) → AreValues values → IsState (state_of values)
state_of-values values small = record {
  in_range = λ r v e. entry_small (slice_index values r) v (value_small values r small) (slice_index values r == 0) refl (sym (get_at 0 r r values (omega arith)) ∙ e);
}

-- FITTING ENTRIES

pub fit_length : (writes : List ℕ) (entries : List (Option ℕ)) → fit_entries writes entries ≡ true → length entries ≡ length writes
fit_length [] [] e = refl
fit_length [] (o ∷ entries) e = cc
fit_length (r ∷ rest) [] e = cc
fit_length (r ∷ rest) (None ∷ entries) e = ap suc (fit_length rest entries e)
fit_length (r ∷ rest) (Some v ∷ entries) e = ap suc (fit_length rest entries (and_parts _ _ e).1)

pub fit_entry : (writes : List ℕ) (entries : List (Option ℕ)) (i : ℕ) (o : Option ℕ) → fit_entries writes entries ≡ true → i < length entries →
    IfSome (slice_index_or entries i o) IsValue
fit_entry [] [] i o e lt = absurd (omega (arith, lt))
fit_entry [] (p ∷ entries) i o e lt = cc
fit_entry (r ∷ rest) [] i o e lt = cc
fit_entry (r ∷ rest) (None ∷ entries) zero o e lt = tt
fit_entry (r ∷ rest) (None ∷ entries) (suc i) o e lt = fit_entry rest entries i o e (omega (arith, lt))
fit_entry (r ∷ rest) (Some v ∷ entries) zero o e lt = grind (arith, nat_tests)
fit_entry (r ∷ rest) (Some v ∷ entries) (suc i) o e lt = fit_entry rest entries i o (and_parts _ _ e).1 (omega (arith, lt))
