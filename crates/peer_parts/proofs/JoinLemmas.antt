-- Spans put one after another at their places are the joined spans.
use Rattle.std.specs.Prelude.{ℕ, ◌≡◌, ◌<◌, ◌≤◌, ◌+◌, ◌*◌, true, false, cond, nat_lt, List, [], ◌∷◌, ◌++◌, length, map, take, drop, get_or, refl}
use Rattle.std.specs.List.{All, insert}
use Rattle.std.proofs.Common.{sym, ◌∙◌, ap, subst, arith, inl}
use Rattle.std.proofs.lemmas.List.{length_push, drop_more, take_more, drop_all, map-append, length-map, append-nil}
use Rattle.txn_types.specs.declared.txn.Kind.{Kind}
use Rattle.txn_types.specs.declared.txn.Txn.{Txn}
use Rattle.board_defs.specs.Trace as trace
use Rattle.board_defs.specs.Trace.{IsLawfulTrace}
use Rattle.board_defs.specs.Rounds.{put_span, by_position, raised_span, joined_rounds}
use Rattle.board_work.specs.declared.plan.Span.{Span}
use Rattle.board_work.specs.Spans.{span_of}
use Rattle.trace_laws.proofs.Members.{map_has, all_of, each_of, has_left, has_right}
use Rattle.trace_laws.proofs.Loose.{IsLoose, raise_loose}
use Rattle.peer_parts.specs.Joining.{IsLow, IsShort, put_spans}

-- THE PLACE OF ONE SPAN

-- past a span of a position that isn't later
pub place_more : (s x : Span) (xs : List Span) (i : ℕ) → i < length xs → x ≡ get_or xs i x → nat_lt s.t x.t ≡ false
    → map span_of (take i xs) ++ put_span (span_of s) (map span_of (drop i xs)) ≡ map span_of (take (i + 1) xs) ++ put_span (span_of s) (map span_of (drop (i + 1) xs))
place_more s x xs i l e later =
    let here : drop i xs ≡ x ∷ drop (i + 1) xs = drop_more xs i x l ∙ ap (λ y. y ∷ drop (i + 1) xs) (sym e) in
    let front : take (i + 1) xs ≡ take i xs ++ x ∷ [] = take_more xs i x l ∙ ap (λ y. take i xs ++ y ∷ []) (sym e) in
    ap (λ zs. map span_of (take i xs) ++ put_span (span_of s) (map span_of zs)) here
    ∙ (ap (λ b. map span_of (take i xs) ++ cond b (span_of s ∷ span_of x ∷ map span_of (drop (i + 1) xs)) (span_of x ∷ put_span (span_of s) (map span_of (drop (i + 1) xs)))) later
    ∙ (sym (joins (map span_of (take i xs)) (span_of x) (put_span (span_of s) (map span_of (drop (i + 1) xs))))
    ∙ ap (λ zs. zs ++ put_span (span_of s) (map span_of (drop (i + 1) xs))) (sym (ap (map span_of) front ∙ map-append span_of (take i xs) (x ∷ [])))))
  where
    joins : (us : List trace.Span) (v : trace.Span) (ws : List trace.Span) → (us ++ v ∷ []) ++ ws ≡ us ++ v ∷ ws
    joins [] v ws = refl
    joins (u ∷ us) v ws = ap (λ zs. u ∷ zs) (joins us v ws)

-- before one of a later position
pub place_here : (s x : Span) (xs : List Span) (i : ℕ) → i < length xs → x ≡ get_or xs i x → nat_lt s.t x.t ≡ true
    → map span_of (take i xs) ++ put_span (span_of s) (map span_of (drop i xs)) ≡ map span_of (insert xs i s)
place_here s x xs i l e later =
    let here : drop i xs ≡ x ∷ drop (i + 1) xs = drop_more xs i x l ∙ ap (λ y. y ∷ drop (i + 1) xs) (sym e) in
    ap (λ zs. map span_of (take i xs) ++ put_span (span_of s) (map span_of zs)) here
    ∙ (ap (λ b. map span_of (take i xs) ++ cond b (span_of s ∷ span_of x ∷ map span_of (drop (i + 1) xs)) (span_of x ∷ put_span (span_of s) (map span_of (drop (i + 1) xs)))) later
    ∙ (ap (λ zs. map span_of (take i xs) ++ span_of s ∷ map span_of zs) (sym here) ∙ sym (map-append span_of (take i xs) (s ∷ drop i xs))))

-- or behind all
pub place_last : (s : Span) (xs : List Span) (i : ℕ) → i ≡ length xs → map span_of (take i xs) ++ put_span (span_of s) (map span_of (drop i xs)) ≡ map span_of (insert xs i s)
place_last s xs i e =
    let none : drop i xs ≡ [] = drop_all i xs (omega arith) in
    ap (λ zs. map span_of (take i xs) ++ put_span (span_of s) (map span_of zs)) none
    ∙ (ap (λ zs. map span_of (take i xs) ++ span_of s ∷ map span_of zs) (sym none) ∙ sym (map-append span_of (take i xs) (s ∷ drop i xs)))

-- ALL SPANS OF A LIST

pub put_last : (xs : List trace.Span) (x : trace.Span) (all : List trace.Span) → put_spans (xs ++ x ∷ []) all ≡ put_spans xs (put_span x all)
put_last [] x all = refl
put_last (y ∷ xs) x all = ap (put_span y) (put_last xs x all)

by_append : (xs ys : List trace.Span) → by_position (xs ++ ys) ≡ put_spans xs (by_position ys)
by_append [] ys = refl
by_append (x ∷ xs) ys = ap (put_span x) (by_append xs ys)

by_puts : (xs : List trace.Span) → by_position xs ≡ put_spans xs []
by_puts [] = refl
by_puts (x ∷ xs) = ap (put_span x) (by_puts xs)

raised_none : (spans : List trace.Span) → map (raised_span 0) spans ≡ map (raised_span (2 * 0)) spans
raised_none spans = let e : 0 ≡ 2 * 0 = omega arith in ap (λ n. map (raised_span n) spans) e

-- the round put first, and then what came before it
pub joined_is : (before round : List trace.Span) (by : ℕ) → by ≡ 2 * length before → put_spans (map (raised_span 0) before) (put_spans (map (raised_span by) round) []) ≡ joined_rounds (before ∷ round ∷ [])
joined_is before round by e =
    let d : by ≡ 2 * (0 + length before) = omega arith in
    ap (λ xs. put_spans xs (put_spans (map (raised_span by) round) [])) (raised_none before)
    ∙ (ap (put_spans (map (raised_span (2 * 0)) before)) (ap (λ n. put_spans (map (raised_span n) round) []) d ∙ sym (by_puts (map (raised_span (2 * (0 + length before))) round)))
    ∙ (ap (λ xs. put_spans (map (raised_span (2 * 0)) before) (by_position xs)) (sym (append-nil (map (raised_span (2 * (0 + length before))) round)))
    ∙ sym (by_append (map (raised_span (2 * 0)) before) (map (raised_span (2 * (0 + length before))) round ++ []))))

-- A SPAN TAKEN FROM THE END

pub put_more : (by : ℕ) (spans rest : List Span) (s : Span) (all all2 : List Span) → spans ≡ rest ++ s ∷ [] → map span_of all2 ≡ put_span (raised_span by (span_of s)) (map span_of all)
    → put_spans (map (raised_span by) (map span_of rest)) (map span_of all2) ≡ put_spans (map (raised_span by) (map span_of spans)) (map span_of all)
put_more by spans rest s all all2 e h =
    ap (put_spans (map (raised_span by) (map span_of rest))) h
    ∙ (sym (put_last (map (raised_span by) (map span_of rest)) (raised_span by (span_of s)) (map span_of all))
    ∙ ap (λ xs. put_spans xs (map span_of all)) (sym (ap (λ xs. map (raised_span by) (map span_of xs)) e ∙ (ap (map (raised_span by)) (map-append span_of rest (s ∷ [])) ∙ map-append (raised_span by) (map span_of rest) (span_of s ∷ [])))))

pub short_part : (spans rest : List Span) (s : Span) → spans ≡ rest ++ s ∷ [] → IsShort spans → IsShort rest × (s.begin < 512) × (s.finish < 512)
short_part spans rest s e h =
    let all = subst (All IsLow) e h.stamps in
    let low = each_of IsLow (rest ++ s ∷ []) all s (has_right rest (s ∷ []) s (inl refl)) in (
      record { few = omega (arith, ap length e, length_push rest s, h.few); stamps = all_of IsLow rest (λ x i. each_of IsLow (rest ++ s ∷ []) all x (has_left rest (s ∷ []) x i)) },
      low.0,
      low.1,
    )

-- A LAWFUL TRACE IS SHORT

pub short_of : (kind : Kind) (txns : List Txn) (workers : ℕ) (positions : List ℕ) (spans : List Span) → IsLawfulTrace kind txns workers positions (map span_of spans) → length positions ≤ 256 → IsShort spans
short_of kind txns workers positions spans h few = record {
  few = long;
  stamps = all_of IsLow spans (λ s i.
      let w = (loose.within (raised_span 0 (span_of s)) (map_has (raised_span 0) (map span_of spans) (span_of s) (map_has span_of spans s i))).1 in
      let f = loose.forward (raised_span 0 (span_of s)) (map_has (raised_span 0) (map span_of spans) (span_of s) (map_has span_of spans s i)) in
      let a = length-map spans span_of in let b = length-map (map span_of spans) (raised_span 0) in let m = long in
      (omega arith, omega arith));
}
  where
    loose : IsLoose kind txns workers 0 (map (raised_span 0) (map span_of spans))
    loose = raise_loose kind txns workers 0 positions (map span_of spans) h

    long : length spans ≤ 256
    long = let a = length-map spans span_of in let b = length-map (map span_of spans) (λ s. s.position) in let c = ap length h.one_each in omega arith
