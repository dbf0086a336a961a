-- What the check of `said` leaves to show.
use Rattle.std.specs.Prelude.{List, [], ◌∷◌, ◌++◌, ◌+◌}
use Rattle.std.proofs.Common.{◌∙◌, ap}
use Rattle.node_defs.specs.Log.{Letter}
use Rattle.schedule_run.proofs.moving.said.Goals as goal

pub returns : goal.returns
returns c = λ b.
    let s = c.args.scene.now in
    ap (λ (ps : List Letter). record { table = b.table.now; hashes = b.hashes; pieces = b.pieces; faulty = b.faulty; pool = ps; idle = s.idle; falses = s.falses + 1; items = s.items + c.args.named; peers = s.peers.items; bursts = s.bursts })
    (c.in_ok-push.ensures.ok ∙ ap (λ x. s.pool ++ x ∷ []) c.new.ensures)
