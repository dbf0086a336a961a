-- The nodes that a well staffed input counts, as lists without repetitions.
use Rattle.std.specs.Prelude.{ℕ, ◌+◌, ◌<◌, ◌≡◌, Bool, true, false, ◌||◌, not, cond, List, [], ◌∷◌, length, filter, refl, suc, zero}
use Rattle.std.specs.List.{AllByRecursion, IsDistinct}
use Rattle.std.specs.Set.{is_member}
use Rattle.std.proofs.Common.{sym, ◌∙◌, ap, subst, arith, eqb, inl, inr, ne_eqb, ⊎_elim}
use Rattle.std.proofs.lemmas.Bool.{and_parts, eq-eqb, eqb-true, false≢true, not-true, or_cases}
use Rattle.std.proofs.lemmas.List.Sums.{length-filter}
use Rattle.known_defs.specs.Known.{no_txn, txn_at}
use Rattle.node_defs.specs.Blocks.{block_at}
use Rattle.node_defs.specs.Rules.{in_force_behind}
use Rattle.node_defs.specs.Tame.{first_blocks}
use Rattle.node_defs.specs.World.{Setting, count_from, is_faulty, orderers_of, peers_of}
use Rattle.txn_types.specs.declared.message.Node.TheVariants.{Orderer, Peer}
use Rattle.node_laws.specs.Fed.{Has}
use Rattle.node_laws.proofs.Same.{or_true}
use Rattle.node_laws.proofs.Few.{same_blocks}
use Rattle.completion_laws.specs.Staffed.{IsWellStaffed, is_honest_agent}
use Rattle.completion_laws.proofs.Completing.{HasOrderers, force}
use Rattle.completion_laws.proofs.Running.{HasStaff}

-- LISTS OF NUMBERS

apart : (k i n : ℕ) → k < i → AllByRecursion (λ y. eqb k y ≡ false) (count_from i n)
apart k i zero h = tt
apart k i (suc n) h = (ne_eqb k i (λ e. absurd (omega (arith, e, h))), apart k (suc i) n (omega (arith, h)))

pub distinct_from : (i n : ℕ) → IsDistinct eqb (count_from i n)
unfolding IsDistinct
distinct_from i zero = tt
distinct_from i (suc n) = (apart i (suc i) n (omega arith), distinct_from (suc i) n)

pub distinct_kept : (p : ℕ → Bool) (xs : List ℕ) → IsDistinct eqb xs → IsDistinct eqb (filter p xs)
unfolding IsDistinct
distinct_kept p [] h = tt
distinct_kept p (x ∷ xs) h = one (p x) (distinct_kept p xs h.1)
  where
    kept : (ys : List ℕ) → AllByRecursion (λ y. eqb x y ≡ false) ys → AllByRecursion (λ y. eqb x y ≡ false) (filter p ys)
    kept [] k = tt
    kept (y ∷ ys) k = elim (p y) as (λ b. AllByRecursion (λ z. eqb x z ≡ false) (cond b (y ∷ filter p ys) (filter p ys))) [ true ↦ (k.0, kept ys k.1) | false ↦ kept ys k.1 ]

    one : (b : Bool) → IsDistinct eqb (filter p xs) → IsDistinct eqb (cond b (x ∷ filter p xs) (filter p xs))
    one true more = (kept xs h.0, more)
    one false more = more

pub member_kept : (p : ℕ → Bool) (xs : List ℕ) (k : ℕ) → is_member eqb (filter p xs) k ≡ true → (is_member eqb xs k ≡ true) × (p k ≡ true)
member_kept p [] k h = absurd (false≢true h)
member_kept p (x ∷ xs) k h = one (p x) refl h (λ i. member_kept p xs k i)
  where
    later : (is_member eqb xs k ≡ true) × (p k ≡ true) → ((eqb k x || is_member eqb xs k) ≡ true) × (p k ≡ true)
    later (i, q) = (ap (λ b. eqb k x || b) i ∙ or_true (eqb k x), q)

    here : eqb k x ≡ true → p x ≡ true → ((eqb k x || is_member eqb xs k) ≡ true) × (p k ≡ true)
    here i q = (ap (λ b. b || is_member eqb xs k) i, ap p (eqb-true k x i) ∙ q)

    one : (b : Bool) → p x ≡ b → is_member eqb (cond b (x ∷ filter p xs) (filter p xs)) k ≡ true → (is_member eqb (filter p xs) k ≡ true → (is_member eqb xs k ≡ true) × (p k ≡ true)) → ((eqb k x || is_member eqb xs k) ≡ true) × (p k ≡ true)
    one true e i more = ⊎_elim (λ a. here a e) (λ a. later (more a)) (or_cases (eqb k x) (is_member eqb (filter p xs) k) i)
    one false e i more = later (more i)

pub member_from : (i n k : ℕ) → is_member eqb (count_from i n) k ≡ true → k < i + n
member_from i zero k h = absurd (false≢true h)
member_from i (suc n) k h = ⊎_elim (λ e. let q : k ≡ i = eqb-true k i e in omega (arith, q)) (λ e. omega (arith, member_from (suc i) n k e)) (or_cases (eqb k i) (is_member eqb (count_from (suc i) n) k) h)

pub has_from : (i n k : ℕ) → (d : ℕ) → k ≡ i + d → d < n → Has k (count_from i n)
has_from i zero k d e h = absurd (omega arith)
has_from i (suc n) k zero e h = inl (e ∙ omega arith)
has_from i (suc n) k (suc d) e h = inr (has_from (suc i) n k d (e ∙ omega arith) (omega arith))

pub has_member : (xs : List ℕ) (k : ℕ) → Has k xs → is_member eqb xs k ≡ true
has_member [] k h = absurd h
has_member (x ∷ xs) k (inl e) = ap (λ b. b || is_member eqb xs k) (eq-eqb k x e)
has_member (x ∷ xs) k (inr e) = ap (λ b. eqb k x || b) (has_member xs k e) ∙ or_true (eqb k x)

pub member_has : (xs : List ℕ) (k : ℕ) → is_member eqb xs k ≡ true → Has k xs
member_has [] k h = absurd (false≢true h)
member_has (x ∷ xs) k h = one (eqb k x) refl h (λ i. member_has xs k i)
  where
    one : (b : Bool) → eqb k x ≡ b → (b || is_member eqb xs k) ≡ true → (is_member eqb xs k ≡ true → Has k xs) → Has k (x ∷ xs)
    one true e i more = inl (eqb-true k x e)
    one false e i more = inr (more i)

-- NODES

pub has_orderers : (s : Setting) → IsWellStaffed s → HasOrderers s.rules (is_faulty s)
has_orderers s h =
    let p : ℕ → Bool = λ o. not (is_faulty s (Orderer o)) in
    let xs = count_from 0 (orderers_of s) in
    record {
      orderers = filter p xs;
      many = omega (arith, h.orderers, length-filter p xs);
      distinct = distinct_kept p xs (distinct_from 0 (orderers_of s));
      honest = λ o i. let m = member_kept p xs o i in (omega (arith, member_from 0 (orderers_of s) o m.0), not-true (is_faulty s (Orderer o)) m.1);
    }

pub has_agents : (s : Setting) → IsWellStaffed s → (m t : ℕ) → m < length s.chain → t < length (block_at s.chain m).txns → HasStaff (force s.rules s.chain m) (is_faulty s) (txn_at (block_at s.chain m).txns t)
has_agents s h m t j k = subst (λ bs. HasStaff (in_force_behind s.rules bs) (is_faulty s) (txn_at (block_at s.chain m).txns t)) (sym (same_blocks s.rules s.chain m)) staff
  where
    staff : HasStaff (in_force_behind s.rules (first_blocks s.chain m)) (is_faulty s) (txn_at (block_at s.chain m).txns t)
    staff =
        let app = (txn_at (block_at s.chain m).txns t).app in
        let p = is_honest_agent s m app in
        let xs = count_from 0 (peers_of s) in
        record {
          agents = filter p xs;
          many = omega (arith, h.agents m j t no_txn k, length-filter p xs);
          distinct = distinct_kept p xs (distinct_from 0 (peers_of s));
          honest = λ q i. let e = member_kept p xs q i in (omega (arith, member_from 0 (peers_of s) q e.0), not-true (is_faulty s (Peer q)) (and_parts (not (is_faulty s (Peer q))) _ e.1).0);
          theirs = λ q i. let e = member_kept p xs q i in (and_parts (not (is_faulty s (Peer q))) _ e.1).1;
        }
