-- Rounds joined are lawful.
use Rattle.std.specs.Prelude.{ℕ, ◌≡◌, ◌<◌, ◌+◌, ◌*◌, List, [], ◌∷◌, ◌++◌, length, map, refl}
use Rattle.std.specs.List.{AllPairs, concat}
use Rattle.std.specs.List.Sorted.{IsStrictlyIncreasing}
use Rattle.std.proofs.Common.{sym, ◌∙◌, ap, subst, inl, inr, arith, ⊎_elim}
use Rattle.std.proofs.lemmas.List.{length-map, map-append}
use Rattle.txn_types.specs.declared.txn.Kind.{Kind}
use Rattle.txn_types.specs.declared.txn.Txn.{Txn}
use Rattle.board_defs.specs.Trace.{Span, stamps, IsLawfulTrace}
use Rattle.board_defs.specs.Rounds.{raised_span, in_turn, by_position}
use Rattle.trace_laws.specs.Laws.{Round, IsLater, JoinedRoundsAreLawful}
use Rattle.trace_laws.proofs.Members.{Has, has_of, contains_of, each_of, all_of, has_cases, map_has, up_of, Once, once_up, once_append, pairs_head, pairs_tail, same_rising}
use Rattle.trace_laws.proofs.Counts.{times}
use Rattle.trace_laws.proofs.Loose.{IsLoose, loose_nil, raise_loose, loose_append}
use Rattle.trace_laws.proofs.Places.{places, by_loose, by_up, by_places, places_by}

abbrev pub all_positions : List Round → List ℕ
all_positions rounds = concat (map (λ r. r.positions) rounds)

abbrev pub all_spans : List Round → List (List Span)
all_spans rounds = map (λ r. r.spans) rounds

abbrev pub Lawful : Kind → List Txn → ℕ → List Round → Type 0
Lawful kind txns workers rounds = (r : Round) → Has r rounds → IsLawfulTrace kind txns workers r.positions r.spans

pub places_raised : (n : ℕ) (spans : List Span) → places (map (raised_span n) spans) ≡ places spans
places_raised n [] = refl
places_raised n (s ∷ rest) = ap (λ ps. s.position ∷ ps) (places_raised n rest)

pub places_in_turn : (kind : Kind) (txns : List Txn) (workers before : ℕ) (rounds : List Round) → Lawful kind txns workers rounds → places (in_turn before (all_spans rounds)) ≡ all_positions rounds
places_in_turn kind txns workers before [] h = refl
places_in_turn kind txns workers before (r ∷ rest) h =
    map-append (λ s. s.position) (map (raised_span (2 * before)) r.spans) (in_turn (before + length r.spans) (all_spans rest))
    ∙ ap (λ ps. ps ++ places (in_turn (before + length r.spans) (all_spans rest))) (places_raised (2 * before) r.spans ∙ (h r (inl refl)).one_each)
    ∙ ap (λ ps. r.positions ++ ps) (places_in_turn kind txns workers (before + length r.spans) rest (λ q i. h q (inr i)))

-- of which round a position is
pub round_of : (rounds : List Round) (t : ℕ) → Has t (all_positions rounds) → (r : Round) × Has r rounds × Has t r.positions
round_of [] t h = absurd h
round_of (r ∷ rest) t h = ⊎_elim (λ i. (r, inl refl, i)) (λ i. let q = round_of rest t i in (q.0, inr q.1, q.2)) (has_cases r.positions (all_positions rest) t h)

pub once_all : (kind : Kind) (txns : List Txn) (workers : ℕ) (rounds : List Round) → Lawful kind txns workers rounds → AllPairs (IsLater kind txns) rounds → Once (all_positions rounds)
once_all kind txns workers [] h p = tt
once_all kind txns workers (r ∷ rest) h p =
    once_append r.positions (all_positions rest) (once_up r.positions (up_of r.positions (h r (inl refl)).rising))
    (once_all kind txns workers rest (λ q i. h q (inr i)) (pairs_tail (IsLater kind txns) r rest p))
    (λ t i j. let q = round_of rest t j in (each_of (IsLater kind txns r) rest (pairs_head (IsLater kind txns) r rest p) q.0 q.1).apart t (contains_of r.positions t i) (contains_of q.0.positions t q.2))

loose_in_turn : (kind : Kind) (txns : List Txn) (workers before : ℕ) (rounds : List Round) → Lawful kind txns workers rounds → AllPairs (IsLater kind txns) rounds → IsLoose kind txns workers (2 * before) (in_turn before (all_spans rounds))
loose_in_turn kind txns workers before [] h p = loose_nil kind txns workers (2 * before)
loose_in_turn kind txns workers before (r ∷ rest) h p =
    let first = h r (inl refl) in let later : Lawful kind txns workers rest = λ q i. h q (inr i) in let next = before + length r.spans in
    let n = length-map r.spans (raised_span (2 * before)) in
    let low : 2 * next ≡ 2 * before + 2 * length (map (raised_span (2 * before)) r.spans) = omega arith in
    loose_append kind txns workers (2 * before) (map (raised_span (2 * before)) r.spans) (in_turn next (all_spans rest))
    (raise_loose kind txns workers (2 * before) r.positions r.spans first)
    (subst (λ m. IsLoose kind txns workers m (in_turn next (all_spans rest))) low (loose_in_turn kind txns workers next rest later (pairs_tail (IsLater kind txns) r rest p)))
    (λ a b i j l.
    let u : Has a.position r.positions = subst (λ ps. Has a.position ps) (places_raised (2 * before) r.spans ∙ first.one_each) (map_has (λ s. s.position) (map (raised_span (2 * before)) r.spans) a i) in
    let v : Has b.position (all_positions rest) = subst (λ ps. Has b.position ps) (places_in_turn kind txns workers next rest later) (map_has (λ s. s.position) (in_turn next (all_spans rest)) b j) in
    let q = round_of rest b.position v in
    (each_of (IsLater kind txns r) rest (pairs_head (IsLater kind txns) r rest p) q.0 q.1).not_needed a.position b.position (contains_of r.positions a.position u) (contains_of q.0.positions b.position q.2) l)

-- loose spans that stand in order of rising positions
pub lawful_of : (kind : Kind) (txns : List Txn) (workers : ℕ) (positions : List ℕ) (spans : List Span) → IsStrictlyIncreasing positions → places spans ≡ positions → IsLoose kind txns workers 0 spans → IsLawfulTrace kind txns workers positions spans
lawful_of kind txns workers positions spans rising e h = record {
  rising = rising;
  one_each = e;
  each_stamp = λ k l. let z : 0 + k ≡ k = omega arith in subst (λ m. times m (stamps spans) ≡ 1) z (h.each_stamp k l);
  forward = all_of (λ s. s.begin < s.finish) spans h.forward;
  behind = λ a b i j. h.behind a b (has_of spans a i) (has_of spans b j);
  by_workers = all_of (λ s. s.worker < workers) spans h.by_workers;
}

pub joined_law : JoinedRoundsAreLawful
joined_law kind txns workers rounds positions all pairs union =
    let h : Lawful kind txns workers rounds = each_of (λ r. IsLawfulTrace kind txns workers r.positions r.spans) rounds all in
    let spans = in_turn 0 (all_spans rounds) in
    let are = places_in_turn kind txns workers 0 rounds h in
    let once : Once (places spans) = subst Once (sym are) (once_all kind txns workers rounds h pairs) in
    let low : 2 * 0 ≡ 0 = omega arith in
    let loose = subst (λ m. IsLoose kind txns workers m spans) low (loose_in_turn kind txns workers 0 rounds h pairs) in
    lawful_of kind txns workers positions (by_position spans) union.rising
    (same_rising (places (by_position spans)) positions (by_up spans once) (up_of positions union.rising)
    (λ t i. has_of positions t (union.all_in t (contains_of (all_positions rounds) t (subst (λ ps. Has t ps) are (places_by spans t i)))))
    (λ t i. by_places spans t (subst (λ ps. Has t ps) (sym are) (has_of (all_positions rounds) t (union.no_more t (contains_of positions t i))))))
    (by_loose kind txns workers 0 spans loose)
