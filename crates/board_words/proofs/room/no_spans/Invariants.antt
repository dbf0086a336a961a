-- What each turn of the loops of `no_spans` keeps.
use Rattle.std.proofs.Common.{◌≡◌, length}
use Rattle.board_words.proofs.room.no_spans.Given as goal

abbrev pub invariant-loop : goal.invariant-loop
invariant-loop l = length l.spans ≡ l.counter
