-- What the check of `push_peer` leaves to show.
use Rattle.std.proofs.Common.{◌++◌, ◌∙◌, ap, List, ℕ}
use Rattle.hash_ledger.specs.Halts.{halted_of}
use Rattle.command_text.proofs.WorldTextLemmas.{part_for}
use Rattle.command_text.proofs.world_text.push_peer.Goals as goal

pub returns : goal.returns
returns c = λ genesis s L rules me stands.
    c.in_ok-peer_part.ensures.ok
    ∙ ap (λ (t : List ℕ). c.args.text.now ++ t)
    (part_for c.args.peer.now c.args.table.now c.args.number genesis s L c.ledger.result.now c.state.result.now (halted_of c.halted.result) c.requires.table me rules
    (c.ledger.ensures.blocks genesis L stands) (c.state.ensures.state genesis L stands) (c.halted.ensures.halt genesis L stands))
