-- The spans of one worker that runs rising positions one after another.
use Rattle.std.specs.Prelude.{ℕ, suc, ◌≡◌, ◌<◌, ◌+◌, ◌*◌, ◌==◌, cond, List, [], ◌∷◌, length, refl}
use Rattle.std.proofs.Common.{◌∙◌, ap, subst, arith, ⊎_elim}
use Rattle.std.proofs.lemmas.Bool.Decides.{nat_tests}
use Rattle.txn_types.specs.declared.txn.Kind.{Kind}
use Rattle.txn_types.specs.declared.txn.Txn.{Txn}
use Rattle.board_defs.specs.Trace.{Span}
use Rattle.board_defs.specs.Rounds.{plain_spans}
use Rattle.trace_laws.specs.Laws.{PlainSpansAreLawful}
use Rattle.trace_laws.proofs.Members.{Has, Up, up_of, map_has}
use Rattle.trace_laws.proofs.Counts.{times_span}
use Rattle.trace_laws.proofs.Loose.{IsLoose, loose_nil, loose_append}
use Rattle.trace_laws.proofs.Places.{places}
use Rattle.trace_laws.proofs.Join.{lawful_of}

places_plain : (i : ℕ) (positions : List ℕ) → places (plain_spans i positions) ≡ positions
places_plain i [] = refl
places_plain i (t ∷ rest) = ap (λ ps. t ∷ ps) (places_plain (suc i) rest)

abbrev first : ℕ → ℕ → Span
first i t = record { position = t; worker = 0; begin = 2 * i; finish = 2 * i + 1 }

once_each : (n k : ℕ) → k < 2 → ◌≡◌ {A = ℕ} (cond (n == n + k) 1 0 + (cond (n + 1 == n + k) 1 0 + 0)) 1
once_each n k l = grind (arith, nat_tests)

first_loose : (kind : Kind) (txns : List Txn) (workers i t : ℕ) → 0 < workers → IsLoose kind txns workers (2 * i) (first i t ∷ [])
first_loose kind txns workers i t w = record {
  each_stamp = λ k l. times_span (2 * i + k) (first i t) [] ∙ once_each (2 * i) k (omega arith);
  within = λ s h. ⊎_elim (λ e. let b = ap (λ z. z.begin) e in let f = ap (λ z. z.finish) e in (omega arith, omega arith)) (λ n. absurd n) h;
  forward = λ s h. ⊎_elim (λ e. let b = ap (λ z. z.begin) e in let f = ap (λ z. z.finish) e in omega arith) (λ n. absurd n) h;
  behind = λ a b h j l d. ⊎_elim (λ e. ⊎_elim (λ f. let x = ap (λ z. z.position) e in let y = ap (λ z. z.position) f in absurd (omega arith)) (λ n. absurd n) j) (λ n. absurd n) h;
  by_workers = λ s h. ⊎_elim (λ e. let x = ap (λ z. z.worker) e in omega arith) (λ n. absurd n) h;
}

plain_loose : (kind : Kind) (txns : List Txn) (workers i : ℕ) (positions : List ℕ) → 0 < workers → Up positions → IsLoose kind txns workers (2 * i) (plain_spans i positions)
plain_loose kind txns workers i [] w u = loose_nil kind txns workers (2 * i)
plain_loose kind txns workers i (t ∷ rest) w u =
    let low : 2 * suc i ≡ 2 * i + 2 * length (first i t ∷ []) = omega arith in
    loose_append kind txns workers (2 * i) (first i t ∷ []) (plain_spans (suc i) rest) (first_loose kind txns workers i t w)
    (subst (λ m. IsLoose kind txns workers m (plain_spans (suc i) rest)) low (plain_loose kind txns workers (suc i) rest w u.1))
    (λ a b h j l. ⊎_elim (λ e. let x = ap (λ z. z.position) e in
    let v : Has b.position rest = subst (λ ps. Has b.position ps) (places_plain (suc i) rest) (map_has (λ s. s.position) (plain_spans (suc i) rest) b j) in
    let y = u.0 b.position v in absurd (omega arith)) (λ n. absurd n) h)

pub plain_law : PlainSpansAreLawful
plain_law kind txns workers positions w rising =
    let low : 2 * 0 ≡ 0 = omega arith in
    lawful_of kind txns workers positions (plain_spans 0 positions) rising (places_plain 0 positions)
    (subst (λ m. IsLoose kind txns workers m (plain_spans 0 positions)) low (plain_loose kind txns workers 0 positions w (up_of positions rising)))
