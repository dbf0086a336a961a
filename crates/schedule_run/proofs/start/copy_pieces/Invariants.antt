-- What each turn of the loops of `copy_pieces` keeps.
use Rattle.std.proofs.Common.{◌≡◌, take}
use Rattle.schedule_run.proofs.start.copy_pieces.Given as goal

abbrev pub invariant-loop-piece : goal.invariant-loop-piece
invariant-loop-piece l = record {
  done : l.all ≡ take l.piece-index l.piece-items;
  same : l.piece-items ≡ l.pieces;
}
