-- Lawful spans in any order, whose stamps begin at some number.
use Rattle.std.specs.Prelude.{ℕ, ◌≡◌, ◌<◌, ◌≤◌, ◌+◌, ◌*◌, ◌-◌, true, false, nat_lt, List, [], ◌++◌, length, map}
use Rattle.std.proofs.Common.{sym, ◌∙◌, ap, subst, arith, ⊎_elim}
use Rattle.std.proofs.lemmas.Bool.{false≢true, ltb-true, cases_lt}
use Rattle.std.proofs.lemmas.List.{length-map, length-append}
use Rattle.txn_types.specs.declared.txn.Kind.{Kind}
use Rattle.txn_types.specs.declared.txn.Txn.{Txn}
use Rattle.oxii_defs.specs.Dependency.{depends}
use Rattle.known_defs.specs.Known.{txn_at}
use Rattle.board_defs.specs.Trace.{Span, stamps, IsLawfulTrace}
use Rattle.board_defs.specs.Rounds.{raised_span}
use Rattle.trace_laws.proofs.Members.{Has, has_cases, has_map, contains_of, each_of}
use Rattle.trace_laws.proofs.Counts.{times, absent, all_pass, fill, length_stamps, stamps_append, stamps_have, stamp_of, times_raised}

pub record IsLoose (kind : Kind) (txns : List Txn) (workers low : ℕ) (spans : List Span) : Type 0 where
  pub each_stamp : (k : ℕ) → k < 2 * length spans → times (low + k) (stamps spans) ≡ 1
  pub within : (s : Span) → Has s spans → (low ≤ s.begin) × (s.finish < low + 2 * length spans)
  pub forward : (s : Span) → Has s spans → s.begin < s.finish
  pub behind : (a b : Span) → Has a spans → Has b spans → a.position < b.position → depends kind (txn_at txns a.position) (txn_at txns b.position) ≡ true → a.finish < b.begin
  pub by_workers : (s : Span) → Has s spans → s.worker < workers

pub loose_nil : (kind : Kind) (txns : List Txn) (workers low : ℕ) → IsLoose kind txns workers low []
loose_nil kind txns workers low = record {
  each_stamp = λ k l. let m : 2 * 0 ≡ 0 = omega arith in absurd (omega arith);
  within = λ s h. absurd h;
  forward = λ s h. absurd h;
  behind = λ a b h. absurd h;
  by_workers = λ s h. absurd h;
}

-- no finish lies past the stamps
bounded : (spans : List Span) → ((k : ℕ) → k < 2 * length spans → times k (stamps spans) ≡ 1) → (s : Span) → Has s spans → s.finish < 2 * length spans
bounded spans f s h =
    let m = fill (2 * length spans) (stamps spans) f in let n = length_stamps spans in
    ltb-true s.finish (2 * length spans) (all_pass (λ x. nat_lt x (2 * length spans)) (stamps spans) (omega arith) s.finish (stamps_have spans s h).1)

pub raise_loose : (kind : Kind) (txns : List Txn) (workers low : ℕ) (positions : List ℕ) (spans : List Span) → IsLawfulTrace kind txns workers positions spans → IsLoose kind txns workers low (map (raised_span low) spans)
raise_loose kind txns workers low positions spans h = let n = length-map spans (raised_span low) in record {
  each_stamp = λ k l. times_raised low k spans ∙ h.each_stamp k (omega arith);
  within = λ s i. let r = has_map (raised_span low) spans s i in let b = ap (λ z. z.begin) r.2 in let f = ap (λ z. z.finish) r.2 in
      let m = bounded spans h.each_stamp r.0 r.1 in (omega arith, omega arith);
  forward = λ s i. let r = has_map (raised_span low) spans s i in let b = ap (λ z. z.begin) r.2 in let f = ap (λ z. z.finish) r.2 in
      let m = each_of (λ x. x.begin < x.finish) spans h.forward r.0 r.1 in omega arith;
  behind = λ a b i j l d. let r = has_map (raised_span low) spans a i in let q = has_map (raised_span low) spans b j in
      let ra = ap (λ z. z.position) r.2 in let qa = ap (λ z. z.position) q.2 in let f = ap (λ z. z.finish) r.2 in let g = ap (λ z. z.begin) q.2 in
      let m = h.behind r.0 q.0 (contains_of spans r.0 r.1) (contains_of spans q.0 q.1) (omega arith)
      (subst (λ z. depends kind (txn_at txns z) (txn_at txns q.0.position) ≡ true) ra (subst (λ z. depends kind (txn_at txns a.position) (txn_at txns z) ≡ true) qa d)) in omega arith;
  by_workers = λ s i. let r = has_map (raised_span low) spans s i in let w = ap (λ z. z.worker) r.2 in let m = each_of (λ x. x.worker < workers) spans h.by_workers r.0 r.1 in omega arith;
}

-- where the stamps of loose spans lie
stamp_within : (kind : Kind) (txns : List Txn) (workers low : ℕ) (spans : List Span) → IsLoose kind txns workers low spans → (x : ℕ) → Has x (stamps spans) → (low ≤ x) × (x < low + 2 * length spans)
stamp_within kind txns workers low spans h x i =
    let r = stamp_of spans x i in let w = h.within r.0 r.1 in let w0 = w.0 in let w1 = w.1 in let f = h.forward r.0 r.1 in
    ⊎_elim (λ e. (omega arith, omega arith)) (λ e. (omega arith, omega arith)) r.2

-- later spans stand behind, where no earlier position depends on theirs
pub loose_append : (kind : Kind) (txns : List Txn) (workers low : ℕ) (xs ys : List Span) → IsLoose kind txns workers low xs → IsLoose kind txns workers (low + 2 * length xs) ys
    → ((a b : Span) → Has a xs → Has b ys → b.position < a.position → depends kind (txn_at txns b.position) (txn_at txns a.position) ≡ false) → IsLoose kind txns workers low (xs ++ ys)
loose_append kind txns workers low xs ys p q free = let n = length-append xs ys in record {
  each_stamp = λ k l. let sum = stamps_append (low + k) xs ys in ⊎_elim
      (λ c. let z = absent (low + k) (stamps ys) (λ x i e. let w = (stamp_within kind txns workers (low + 2 * length xs) ys q x i).0 in omega arith) in let o = p.each_stamp k c in omega arith)
      (λ c. let z = absent (low + k) (stamps xs) (λ x i e. let w = (stamp_within kind txns workers low xs p x i).1 in omega arith) in
      let j : (low + 2 * length xs) + (k - 2 * length xs) ≡ low + k = omega arith in
      let o = subst (λ m. times m (stamps ys) ≡ 1) j (q.each_stamp (k - 2 * length xs) (omega arith)) in omega arith)
      (cases_lt k (2 * length xs));
  within = λ s i. ⊎_elim (λ a. let w = p.within s a in let w0 = w.0 in let w1 = w.1 in (omega arith, omega arith)) (λ a. let w = q.within s a in let w0 = w.0 in let w1 = w.1 in (omega arith, omega arith)) (has_cases xs ys s i);
  forward = λ s i. ⊎_elim (λ a. p.forward s a) (λ a. q.forward s a) (has_cases xs ys s i);
  behind = λ a b i j l d. ⊎_elim
      (λ u. ⊎_elim (λ v. p.behind a b u v l d) (λ v. let w = (p.within a u).1 in let x = (q.within b v).0 in omega arith) (has_cases xs ys b j))
      (λ u. ⊎_elim (λ v. absurd (false≢true (sym (free b a v u l) ∙ d))) (λ v. q.behind a b u v l d) (has_cases xs ys b j))
      (has_cases xs ys a i);
  by_workers = λ s i. ⊎_elim (λ a. p.by_workers s a) (λ a. q.by_workers s a) (has_cases xs ys s i);
}
