-- What each turn of the loops of `shorten` keeps.
use Rattle.std.proofs.Common.{◌≡◌, ◌+◌, length, take}
use Rattle.board_words.proofs.closing.shorten.Given as goal

abbrev pub invariant-loop : goal.invariant-loop
invariant-loop l = (length l.trace + l.counter ≡ length l.fn.trace) × (l.trace ≡ take (length l.trace) l.fn.trace)
