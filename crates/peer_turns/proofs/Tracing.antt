-- The spans of a block, as those of its runs.
use Rattle.std.specs.Prelude.{ℕ, ◌≡◌, ◌≤◌, Bool, true, false, ◌&&◌, not, cond, List, [], ◌∷◌, ◌++◌, map, reverse, length, get_or, Option, None, is_some, zero, suc, refl}
use Rattle.std.proofs.Common.{sym, ◌∙◌, ap, arith}
use Rattle.std.proofs.lemmas.List.{length-reverse, reverse-append}
use Rattle.txn_types.specs.declared.txn.Kind.{Kind}
use Rattle.txn_types.specs.declared.txn.Outcome.{Outcome}
use Rattle.txn_types.specs.declared.txn.Txn.{Txn}
use Rattle.node_defs.specs.Rules.{Rules}
use Rattle.board_defs.specs.Trace.{IsLawfulTrace}
use Rattle.board_work.specs.declared.plan.Span.{Span}
use Rattle.board_work.specs.Spans.{span_of}
use Rattle.peer_laws.specs.Runs.{BlockRuns, listed}
use Rattle.peer_laws.specs.Turns.{has_run, just_ran}
use Rattle.peer_parts.specs.Owning.{IsOwn}
use Rattle.peer_parts.specs.Ready.{ran_between}
use Rattle.peer_turns.specs.declared.listing.BlockSpans.{BlockSpans}
use Rattle.peer_turns.specs.Traces.{AreTraced, spans_listed}

-- what has just run, in order
pub ran_reversed : (r : Rules) (me : ℕ) (txns : List Txn) (own : List Bool) (before after : List (Option Outcome)) → IsOwn r me txns own → (n : ℕ) → n ≤ length txns → ran_between own before after n ≡ reverse (just_ran r me txns before after n)
ran_reversed r me txns own before after h zero l = refl
ran_reversed r me txns own before after h (suc t) l =
    let more = ran_reversed r me txns own before after h t (omega arith) in
    ap (λ b. cond ((b && is_some (get_or after t None)) && not (is_some (get_or before t None))) (ran_between own before after t ++ t ∷ []) (ran_between own before after t)) (h t (omega arith))
    ∙ (ap (λ xs. cond (has_run r me txns after t && not (is_some (get_or before t None))) (xs ++ t ∷ []) xs) more
    ∙ one (has_run r me txns after t && not (is_some (get_or before t None))) (just_ran r me txns before after t))
  where
    one : (b : Bool) (xs : List ℕ) → cond b (reverse xs ++ t ∷ []) (reverse xs) ≡ reverse (cond b (t ∷ xs) xs)
    one true xs = sym (reverse-append (t ∷ []) xs)
    one false xs = refl

-- the spans of one block
pub traced_block : (kind : Kind) (workers n : ℕ) (txns : List Txn) (ran : List ℕ) (spans : List Span) → IsLawfulTrace kind txns workers (reverse ran) (map span_of spans) → AreTraced kind workers (listed n txns ran) (spans_listed n spans)
traced_block kind workers n txns [] [] h = tt
traced_block kind workers n txns [] (s ∷ spans) h = absurd (omega (arith, ap length h.one_each))
traced_block kind workers n txns (t ∷ ran) [] h = absurd (omega (arith, ap length h.one_each, length-reverse (t ∷ ran)))
traced_block kind workers n txns (t ∷ ran) (s ∷ spans) h = (record { n_is = refl; trace = h }, tt)

-- those of more blocks behind them
pub traced_more : (kind : Kind) (workers : ℕ) (ran1 ran2 : List BlockRuns) (spans1 spans2 : List BlockSpans) → AreTraced kind workers ran1 spans1 → AreTraced kind workers ran2 spans2 → AreTraced kind workers (ran1 ++ ran2) (spans1 ++ spans2)
traced_more kind workers [] ran2 [] spans2 a b = b
traced_more kind workers [] ran2 (s ∷ spans1) spans2 a b = absurd a
traced_more kind workers (r ∷ ran1) ran2 [] spans2 a b = absurd a
traced_more kind workers (r ∷ ran1) ran2 (s ∷ spans1) spans2 a b = (a.0, traced_more kind workers ran1 ran2 spans1 spans2 a.1 b)
