-- The loops that put the spans of the runs in order.
use Rattle.std.proofs.Common.{◌≡◌, ℕ, suc, ◌+◌, ◌<◌, ◌≤◌, List, [], ◌∷◌, ◌++◌, length, map, take, get_or, sym, refl, ap, ◌∙◌, arith, Option, Some, None}
use Rattle.std.specs.Prelude.{MatchOption}
use Rattle.std.proofs.lemmas.List.{map-append, take_more_set, length-append}
use Rattle.board_work.specs.declared.plan.Span.{Span}
use Rattle.board_work.specs.Spans.{span_of}
use Rattle.script_laws.specs.Placed.{placed, with_run}
use Rattle.board_words.specs.Runs.{Fills, run_of, run_at}

-- one place more
pub gather_step : (run : Option Span) (n m t : ℕ) (before after : List Span) (runs : List (Option Span)) → run ≡ get_or runs t None → Fills run n m before after → n < length before →
    map span_of (take n before) ≡ placed (run_at runs) t → map span_of (take m after) ≡ placed (run_at runs) (t + 1)
gather_step run n m t before after runs is fills l old = go run is fills ∙ ap (placed (run_at runs)) {x = suc t} {y = t + 1} (omega arith)
  where
    go : (o : Option Span) → o ≡ get_or runs t None → Fills o n m before after → map span_of (take m after) ≡ with_run (placed (run_at runs) t) (run_of (get_or runs t None))
    go (Some s) e f = (λ i. map span_of (take (f.0 i) (f.1 i))) ∙ (ap (map span_of) (take_more_set before n s l) ∙ (map-append span_of (take n before) (s ∷ [])
        ∙ ((λ i. old i ++ span_of s ∷ []) ∙ ap (λ z. with_run (placed (run_at runs) t) (run_of z)) e)))
    go None e f = (λ i. map span_of (take (f.0 i) (f.1 i))) ∙ (old ∙ ap (λ z. with_run (placed (run_at runs) t) (run_of z)) e)

pub fills_count : (run : Option Span) (n m : ℕ) (before after : List Span) → Fills run n m before after → m ≤ n + 1
fills_count (Some s) n m before after f = let a = f.0 in omega arith
fills_count None n m before after f = let a = f.0 in omega arith

-- a list without its last is a front of what it was a front of
abbrev rest_of : List Span → List Span
rest_of [] = []
rest_of (x ∷ xs) = xs

abbrev first_of : Span → List Span → Span
first_of d [] = d
first_of d (x ∷ xs) = x

front_less : (new all : List Span) (last : Span) → new ++ last ∷ [] ≡ take (length (new ++ last ∷ [])) all → new ≡ take (length new) all
front_less [] all last e = refl
front_less (x ∷ xs) [] last e = absurd (cc)
front_less (x ∷ xs) (y ∷ ys) last e = (λ i. ap (first_of x) e i ∷ front_less xs ys last (ap rest_of e) i)

pub shorten_step : (popped : Option Span) (old new all : List Span) → MatchOption popped ((old ≡ []) × (new ≡ [])) (λ last. old ≡ new ++ last ∷ []) → 0 < length old → old ≡ take (length old) all →
    (length old ≡ length new + 1) × (new ≡ take (length new) all)
shorten_step (Some last) old new all is pos front =
    let len = ap length is ∙ length-append new (last ∷ []) in
    (omega arith, front_less new all last (sym is ∙ (front ∙ ap (λ k. take (length k) all) is)))
shorten_step None old new all is pos front = absurd (let a = ap length is.0 in omega arith)
