-- What the check of `join` leaves to show.
use Rattle.std.proofs.Common.{◌*◌, List, map, ◌∙◌, ap, arith}
use Rattle.std.proofs.lemmas.List.{length-map}
use Rattle.board_defs.specs.Rounds.{raised_span}
use Rattle.board_work.specs.declared.plan.Span.{Span}
use Rattle.board_work.specs.Spans.{span_of}
use Rattle.peer_parts.specs.Joining.{put_spans}
use Rattle.peer_parts.proofs.JoinLemmas.{joined_is}
use Rattle.peer_parts.proofs.joining.join.Goals as goal

pub returns : goal.returns
returns c =
    let before = map span_of c.args.spans.now in
    let round = map span_of c.args.round in
    c.in_ok-put_each-2.ensures
    ∙ (ap (put_spans (map (raised_span 0) before)) (c.in_ok-put_each.ensures ∙ ap (λ (xs : List Span). put_spans (map (raised_span (2 * c.len.result)) round) (map span_of xs)) c.new-all.ensures)
    ∙ joined_is before round (2 * c.len.result) (omega (arith, c.len.ensures, length-map c.args.spans.now span_of)))
