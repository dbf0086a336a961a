-- What each turn of the loops of `publish_all` keeps.
use Rattle.std.proofs.Common.{◌≡◌}
use Rattle.board_core.specs.Parts.{Published}
use Rattle.board_steps.proofs.parts.publish_all.Given as goal

abbrev pub ghosts-publish : goal.ghosts-publish
ghosts-publish a = record { from = a.t; to = a.k }

abbrev pub invariant-loop-k : goal.invariant-loop-k
invariant-loop-k l = (l.seat.table_id ≡ l.fn.seat.table_id) × (l.seat.id ≡ l.fn.seat.id) × (l.seat.me.1 ≡ l.fn.seat.me.1) × Published l.k l.t l.fn.seat.me.0 l.seat.me.0
