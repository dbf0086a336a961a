-- What each turn of the loops of `write_entries` keeps.
use Rattle.std.proofs.Common.{◌≡◌}
use Rattle.board_core.specs.Parts.{Wrote}
use Rattle.board_steps.proofs.parts.write_entries.Given as goal

abbrev pub invariant-loop-k : goal.invariant-loop-k
invariant-loop-k l = (l.seat.table_id ≡ l.fn.seat.table_id) × (l.seat.id ≡ l.fn.seat.id) × (l.seat.me.1 ≡ l.fn.seat.me.1) × Wrote l.k l.t l.records l.cells l.fn.seat.me.0 l.seat.me.0
