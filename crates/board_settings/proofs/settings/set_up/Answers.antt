-- What the check of `set_up` leaves to show.
use Rattle.std.proofs.Common.{◌∙◌, ap, refl, replicate, true}
use Rattle.board_settings.proofs.PlanLemmas.{is_set}
use Rattle.board_settings.proofs.settings.set_up.Goals as goal

pub returns : goal.returns
returns c =
    let document = c.in_ok-document.ensures in
    is_set c.in_ok-document.document.table c.in_ok-document.document.genesis _ c.in_ok-graph.graph c.in_ok-known.known c.in_ok-own.own document.table c.in-Some.ensures refl c.in_ok-graph.ensures.kind c.in_ok-graph.ensures.lists document.genesis document.values
    (c.in_ok-known.ensures.0 ∙ c.len-size.ensures) c.in_ok-known.ensures.1 (c.in_ok-own.ensures ∙ ap (λ n. replicate n true) c.len-size.ensures)
