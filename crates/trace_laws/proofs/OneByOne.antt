-- Rounds joined one by one.
use Rattle.std.specs.Prelude.{ℕ, ◌≡◌, ◌+◌, ◌*◌, List, [], ◌∷◌, ◌++◌, length, map, refl}
use Rattle.std.proofs.Common.{sym, ◌∙◌, ap, subst, inl, inr, arith, ⊎_elim}
use Rattle.std.proofs.lemmas.List.{length-map, length-append, map-append, append-nil}
use Rattle.board_defs.specs.Trace.{Span, IsLawfulTrace}
use Rattle.board_defs.specs.Rounds.{raised_span, in_turn, by_position}
use Rattle.trace_laws.specs.Laws.{JoinedOneByOne}
use Rattle.trace_laws.proofs.Members.{Has, each_of, has_cases, has_left, has_right, map_has, Up, Once, once_up, once_append}
use Rattle.trace_laws.proofs.Join.{all_spans, Lawful, places_in_turn, once_all}
use Rattle.trace_laws.proofs.Places.{places, by_up, by_has, has_by, length_by, places_by}

-- spans at rising places that are the same spans stand in the same order
same_spans : (xs ys : List Span) → Up (places xs) → Up (places ys) → ((s : Span) → Has s xs → Has s ys) → ((s : Span) → Has s ys → Has s xs) → xs ≡ ys
same_spans [] [] u v f g = refl
same_spans [] (y ∷ ys) u v f g = absurd (g y (inl refl))
same_spans (x ∷ xs) [] u v f g = absurd (f x (inl refl))
same_spans (x ∷ xs) (y ∷ ys) u v f g =
    let e = first (f x (inl refl)) (g y (inl refl)) in let p = ap (λ z. z.position) e in
    ap (λ z. z ∷ xs) e ∙ ap (λ zs. y ∷ zs) (same_spans xs ys u.1 v.1
    (λ s h. ⊎_elim (λ q. let l = u.0 s.position (map_has (λ z. z.position) xs s h) in let r = ap (λ z. z.position) q in absurd (omega arith)) (λ i. i) (f s (inr h)))
    (λ s h. ⊎_elim (λ q. let l = v.0 s.position (map_has (λ z. z.position) ys s h) in let r = ap (λ z. z.position) q in absurd (omega arith)) (λ i. i) (g s (inr h))))
  where
    first : Has x (y ∷ ys) → Has y (x ∷ xs) → x ≡ y
    first (inl e) k = e
    first (inr i) (inl e) = sym e
    first (inr i) (inr j) = let a = v.0 x.position (map_has (λ z. z.position) ys x i) in let b = u.0 y.position (map_has (λ z. z.position) xs y j) in absurd (omega arith)

in_turn_more : (before : ℕ) (rounds : List (List Span)) (last : List Span) → in_turn before (rounds ++ last ∷ []) ≡ in_turn before rounds ++ map (raised_span (2 * (before + length (in_turn before rounds)))) last
in_turn_more before [] last = append-nil (map (raised_span (2 * before)) last) ∙ (let e : before ≡ before + 0 = omega arith in ap (λ n. map (raised_span (2 * n)) last) e)
in_turn_more before (r ∷ rest) last =
    let first = map (raised_span (2 * before)) r in let next = before + length r in let more = in_turn next rest in
    let e : next + length more ≡ before + length (first ++ more) = omega (arith, length-append first more, length-map r (raised_span (2 * before))) in
    ap (λ zs. first ++ zs) (in_turn_more next rest last ∙ ap (λ n. more ++ map (raised_span (2 * n)) last) e) ∙ sym (joins first more (map (raised_span (2 * (before + length (first ++ more)))) last))
  where
    joins : (xs ys zs : List Span) → (xs ++ ys) ++ zs ≡ xs ++ (ys ++ zs)
    joins [] ys zs = refl
    joins (x ∷ xs) ys zs = ap (λ ws. x ∷ ws) (joins xs ys zs)

raised_none : (spans : List Span) → map (raised_span (2 * 0)) spans ≡ spans
raised_none [] = refl
raised_none (s ∷ rest) =
    let b : 2 * 0 + s.begin ≡ s.begin = omega arith in let f : 2 * 0 + s.finish ≡ s.finish = omega arith in
    ap (λ n. record { position = s.position; worker = s.worker; begin = n; finish = 2 * 0 + s.finish } ∷ map (raised_span (2 * 0)) rest) b
    ∙ ap (λ n. record { position = s.position; worker = s.worker; begin = s.begin; finish = n } ∷ map (raised_span (2 * 0)) rest) f
    ∙ ap (λ zs. s ∷ zs) (raised_none rest)

once_parts : (xs ys : List ℕ) → Once (xs ++ ys) → Once xs × Once ys × ((t : ℕ) → Has t xs → Has t ys → ⊥)
once_parts [] ys o = (tt, o, λ t h k. h)
once_parts (x ∷ xs) ys o = let r = once_parts xs ys o.1 in (
  ((λ h. o.0 (has_left xs ys x h)), r.0),
  r.1,
  λ t h k. ⊎_elim (λ e. o.0 (has_right xs ys x (subst (λ z. Has z ys) e k))) (λ i. r.2 t i k) h,
)

-- a part may be put in order first
sorted_first : (xs ys : List Span) → Once (places (xs ++ ys)) → by_position (xs ++ ys) ≡ by_position (by_position xs ++ ys)
sorted_first xs ys o =
    let p = once_parts (places xs) (places ys) (subst Once (map-append (λ s. s.position) xs ys) o) in
    let q : Once (places (by_position xs ++ ys)) = subst Once (sym (map-append (λ s. s.position) (by_position xs) ys))
    (once_append (places (by_position xs)) (places ys) (once_up (places (by_position xs)) (by_up xs p.0)) p.1 (λ t h k. p.2 t (places_by xs t h) k)) in
    same_spans (by_position (xs ++ ys)) (by_position (by_position xs ++ ys)) (by_up (xs ++ ys) o) (by_up (by_position xs ++ ys) q)
    (λ s h. has_by (by_position xs ++ ys) s (⊎_elim (λ i. has_left (by_position xs) ys s (has_by xs s i)) (λ i. has_right (by_position xs) ys s i) (has_cases xs ys s (by_has (xs ++ ys) s h))))
    (λ s h. has_by (xs ++ ys) s (⊎_elim (λ i. has_left xs ys s (by_has xs s i)) (λ i. has_right xs ys s i) (has_cases (by_position xs) ys s (by_has (by_position xs ++ ys) s h))))

pub one_by_one_law : JoinedOneByOne
one_by_one_law kind txns workers rounds last all pairs =
    let h : Lawful kind txns workers (rounds ++ last ∷ []) = each_of (λ r. IsLawfulTrace kind txns workers r.positions r.spans) (rounds ++ last ∷ []) all in
    let before = in_turn 0 (all_spans rounds) in
    let shape : in_turn 0 (all_spans (rounds ++ last ∷ [])) ≡ before ++ map (raised_span (2 * (0 + length before))) last.spans =
    ap (in_turn 0) (map-append (λ r. r.spans) rounds (last ∷ [])) ∙ in_turn_more 0 (all_spans rounds) last.spans in
    let once : Once (places (before ++ map (raised_span (2 * (0 + length before))) last.spans)) =
    subst (λ zs. Once (places zs)) shape (subst Once (sym (places_in_turn kind txns workers 0 (rounds ++ last ∷ []) h)) (once_all kind txns workers (rounds ++ last ∷ []) h pairs)) in
    ap by_position shape ∙ sorted_first before (map (raised_span (2 * (0 + length before))) last.spans) once ∙ ap by_position (sym (
    ap (λ zs. zs ++ (map (raised_span (2 * (0 + length (by_position before)))) last.spans ++ [])) (raised_none (by_position before))
    ∙ ap (λ zs. by_position before ++ zs) (append-nil (map (raised_span (2 * (0 + length (by_position before)))) last.spans))
    ∙ ap (λ n. by_position before ++ map (raised_span (2 * (0 + n))) last.spans) (length_by before)))
