-- What each turn of the loops of `count_all` keeps.
use Rattle.std.proofs.Common.{◌≡◌, ◌≤◌, length, take}
use Rattle.board_core.specs.Parts.{Counts}
use Rattle.board_core.specs.Passes.{AreFlags}
use Rattle.board_steps.proofs.parts.count_all.Given as goal

abbrev pub invariant-loop-i : goal.invariant-loop-i
invariant-loop-i l = (l.seat.table_id ≡ l.fn.seat.table_id) × (l.seat.me.1 ≡ l.fn.seat.me.1) × (length l.duty.items ≡ length l.fn.duty.items) × Counts (take l.i l.row) l.s l.fn.seat.me.0 l.seat.me.0 l.fn.made l.made × (length l.made ≤ l.i)
    × AreFlags l.seat.me.0.duties l.duty.items
