-- What each turn of the loops of `own_copy` keeps.
use Rattle.std.proofs.Common.{◌≡◌, take}
use Rattle.board_words.proofs.room.own_copy.Given as goal

abbrev pub invariant-loop-flag : goal.invariant-loop-flag
invariant-loop-flag l = l.copied ≡ take l.flag-index l.own
