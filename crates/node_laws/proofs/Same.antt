-- Two states with the same value of a record, through outcomes that are known to one side or to both.
use Rattle.txn_types.specs.declared.txn.Outcome.TheVariants.{Commit, Abort}
use Rattle.txn_types.specs.declared.txn.Kind.TheVariants.{Full, Raw}
use Rattle.oxii_defs.proofs.States.{value_in-put}
use Rattle.oxii_defs.proofs.Locality.{outcomes_local}
use Rattle.std.specs.Prelude.{ℕ, ◌==◌, Bool, true, false, ◌||◌, not, cond, List, [], ◌∷◌, map, Option, Some, None, ◌≡◌, refl}
use Rattle.std.proofs.Common.{sym, ◌∙◌, ap, ⊎_elim}
use Rattle.std.proofs.lemmas.Option.{same_Some, none-some}
use Rattle.std.proofs.lemmas.Bool.{cases_Bool, or_from, eqb-true, eq-eqb, or_parts, and_parts, false≢true}
use Rattle.known_defs.specs.Known.{after_known, knows_all}
use Rattle.node_defs.specs.Rules.{IsLocal}
use Rattle.node_defs.specs.Programs.{rules_of}
use Rattle.oxii_defs.specs.Dependency.{depends, meets}
use Rattle.oxii_defs.specs.Effects.{apply, put_all, put_entry}
use Rattle.oxii_defs.specs.State.{State, contains, put, value_in}
use Rattle.oxii_defs.specs.Table.{Table, body_in}
use Rattle.txn_types.specs.declared.txn.Kind.{Kind}
use Rattle.txn_types.specs.declared.txn.Outcome.{Outcome}
use Rattle.txn_types.specs.declared.txn.Txn.{Txn}

-- s and u have the same value at r
abbrev pub SameAt : ℕ → State → State → Type 0
SameAt r s u = value_in s r ≡ value_in u r

put_same : (s u : State) (r q v : ℕ) → SameAt r s u → SameAt r (put s q v) (put u q v)
put_same s u r q v h = value_in-put s q v r ∙ ap (cond (r == q) v) h ∙ sym (value_in-put u q v r)

entry_same : (s u : State) (r q : ℕ) (entry : Option ℕ) → SameAt r s u → SameAt r (put_entry s q entry) (put_entry u q entry)
entry_same s u r q None h = h
entry_same s u r q (Some v) h = put_same s u r q v h

all_same : (r : ℕ) (rs : List ℕ) (entries : List (Option ℕ)) (s u : State) → SameAt r s u → SameAt r (put_all s rs entries) (put_all u rs entries)
all_same r [] entries s u h = h
all_same r (q ∷ rs) [] s u h = h
all_same r (q ∷ rs) (entry ∷ entries) s u h = all_same r rs entries (put_entry s q entry) (put_entry u q entry) (entry_same s u r q entry h)

entry_untouched : (s u : State) (r q : ℕ) (entry : Option ℕ) → (r == q) ≡ false → SameAt r s u → SameAt r s (put_entry u q entry)
entry_untouched s u r q None other h = h
entry_untouched s u r q (Some v) other h = h ∙ sym (value_in-put u q v r ∙ ap (λ b. cond b v (value_in u r)) other)

-- what is not in the write set stays
all_untouched : (r : ℕ) (rs : List ℕ) (entries : List (Option ℕ)) (s u : State) → contains rs r ≡ false → SameAt r s u → SameAt r s (put_all u rs entries)
all_untouched r [] entries s u free h = h
all_untouched r (q ∷ rs) [] s u free h = h
all_untouched r (q ∷ rs) (entry ∷ entries) s u free h =
    let p = or_parts (r == q) (contains rs r) free in
    all_untouched r rs entries s (put_entry u q entry) p.1 (entry_untouched s u r q entry p.0 h)

apply_same : (r : ℕ) (t : Txn) (o : Outcome) (s u : State) → SameAt r s u → SameAt r (apply s t o) (apply u t o)
apply_same r t (Commit w) s u h = all_same r t.writes w s u h
apply_same r t (Abort a) s u h = h

apply_untouched : (r : ℕ) (t : Txn) (o : Outcome) (s u : State) → contains t.writes r ≡ false → SameAt r s u → SameAt r s (apply u t o)
apply_untouched r t (Commit w) s u free h = all_untouched r t.writes w s u free h
apply_untouched r t (Abort a) s u free h = h

-- What the first list knows, the second knows too. What only the second knows doesn't write r.
abbrev pub Covers : ℕ → List Txn → List (Option Outcome) → List (Option Outcome) → Type 0
Covers r ts [] [] = Unit {0}
Covers r [] (x ∷ xs) (y ∷ ys) = Unit {0}
Covers r (t ∷ ts) (Some o ∷ xs) (y ∷ ys) = (y ≡ Some o) × Covers r ts xs ys
Covers r (t ∷ ts) (None ∷ xs) (y ∷ ys) = (contains t.writes r ≡ false) × Covers r ts xs ys
Covers r ts (x ∷ xs) [] = ⊥
Covers r ts [] (y ∷ ys) = ⊥

-- then both come to the same value of r
pub same_after : (r : ℕ) (ts : List Txn) (xs ys : List (Option Outcome)) (s u : State) → Covers r ts xs ys → SameAt r s u → SameAt r (after_known s ts xs) (after_known u ts ys)
same_after r [] [] [] s u c h = h
same_after r [] [] (y ∷ ys) s u c h = absurd c
same_after r [] (x ∷ xs) [] s u c h = absurd c
same_after r [] (x ∷ xs) (y ∷ ys) s u c h = h
same_after r (t ∷ ts) [] [] s u c h = h
same_after r (t ∷ ts) [] (y ∷ ys) s u c h = absurd c
same_after r (t ∷ ts) (Some o ∷ xs) [] s u c h = absurd c
same_after r (t ∷ ts) (None ∷ xs) [] s u c h = absurd c
same_after r (t ∷ ts) (Some o ∷ xs) (Some p ∷ ys) s u c h = same_after r ts xs ys (apply s t o) (apply u t p) c.1 (rw (same_Some p o c.0) (apply_same r t o s u h))
same_after r (t ∷ ts) (Some o ∷ xs) (None ∷ ys) s u c h = absurd (none-some o c.0)
same_after r (t ∷ ts) (None ∷ xs) (None ∷ ys) s u c h = same_after r ts xs ys s u c.1 h
same_after r (t ∷ ts) (None ∷ xs) (Some p ∷ ys) s u c h = same_after r ts xs ys s (apply u t p) c.1 (apply_untouched r t p s u c.0 h)

writes_meet_reads : (kind : Kind) (a t : Txn) → depends kind a t ≡ false → meets a.writes t.reads ≡ false
writes_meet_reads Full a t free = (or_parts (meets a.reads t.writes) (meets a.writes t.reads) (or_parts _ (meets a.writes t.writes) free).0).1
writes_meet_reads Raw a t free = free

-- a record that t reads isn't written by what t doesn't depend on
pub not_written : (kind : Kind) (a t : Txn) (r : ℕ) → depends kind a t ≡ false → contains t.reads r ≡ true → contains a.writes r ≡ false
not_written kind a t r free reads = go a.writes (writes_meet_reads kind a t free)
  where
    go : (ws : List ℕ) → meets ws t.reads ≡ false → contains ws r ≡ false
    go [] h = refl
    go (x ∷ ws) h =
        let p = or_parts (contains t.reads x) (meets ws t.reads) h in
        ⊎_elim (λ e. absurd (false≢true (sym p.0 ∙ (ap (contains t.reads) (sym (eqb-true r x e)) ∙ reads)))) (λ e. or_from (r == x) (contains ws r) e (go ws p.1)) (cases_Bool (r == x))

-- what the first list knows, the second knows with the same outcome
abbrev pub Within : List (Option Outcome) → List (Option Outcome) → Type 0
Within [] [] = Unit {0}
Within (Some o ∷ xs) (y ∷ ys) = (y ≡ Some o) × Within xs ys
Within (None ∷ xs) (y ∷ ys) = Within xs ys
Within (x ∷ xs) [] = ⊥
Within [] (y ∷ ys) = ⊥

pub covers : (kind : Kind) (t : Txn) (r : ℕ) (ts : List Txn) (xs ys : List (Option Outcome)) → contains t.reads r ≡ true → knows_all kind t ts xs ≡ true → Within xs ys → Covers r ts xs ys
covers kind t r [] [] [] reads k w = tt
covers kind t r [] [] (y ∷ ys) reads k w = absurd w
covers kind t r [] (Some x ∷ xs) [] reads k w = absurd w
covers kind t r [] (None ∷ xs) [] reads k w = absurd w
covers kind t r [] (x ∷ xs) (y ∷ ys) reads k w = tt
covers kind t r (a ∷ ts) [] [] reads k w = tt
covers kind t r (a ∷ ts) [] (y ∷ ys) reads k w = absurd w
covers kind t r (a ∷ ts) (Some x ∷ xs) [] reads k w = absurd w
covers kind t r (a ∷ ts) (None ∷ xs) [] reads k w = absurd w
covers kind t r (a ∷ ts) (Some o ∷ xs) (y ∷ ys) reads k w = (w.0, covers kind t r ts xs ys reads (and_parts (not (depends kind a t) || true) (knows_all kind t ts xs) k).1 w.1)
covers kind t r (a ∷ ts) (None ∷ xs) (y ∷ ys) reads k w =
    let p = and_parts (not (depends kind a t) || false) (knows_all kind t ts xs) k in
    (not_written kind a t r (unless (depends kind a t) p.0) reads, covers kind t r ts xs ys reads p.1 w)
  where
    unless : (b : Bool) → (not b || false) ≡ true → b ≡ false
    unless true h = absurd (false≢true h)
    unless false h = refl

-- LOCALITY

-- a test that holds either way holds
pub or_true : (b : Bool) → (b || true) ≡ true
or_true true = refl
or_true false = refl

same_values : (rs : List ℕ) (s u : State) → ((r : ℕ) → contains rs r ≡ true → value_in s r ≡ value_in u r) → map (value_in s) rs ≡ map (value_in u) rs
same_values [] s u h = refl
same_values (q ∷ rest) s u h =
    let first : value_in s q ≡ value_in u q = h q (ap (λ b. b || contains rest q) (eq-eqb q q refl)) in
    let others = same_values rest s u (λ r e. h r (ap (λ b. (r == q) || b) e ∙ or_true (r == q))) in
    cc

-- the outcomes of a document's operations are local
pub rules_local : (table : Table) (genesis : State) → IsLocal (rules_of table genesis)
rules_local table genesis s u t same = outcomes_local (body_in table t) t s u (same_values t.reads s u same)
