-- What each turn of the loops of `known_values` keeps.
use Rattle.std.proofs.Common.{◌≡◌, length, take}
use Rattle.known_defs.specs.Known.{after_known}
use Rattle.txn_core.specs.States.{state_of}
use Rattle.board_words.proofs.values.known_values.Given as goal

abbrev pub invariant-loop-t : goal.invariant-loop-t
invariant-loop-t l = (length l.values ≡ length l.base) × (state_of l.values ≡ after_known (state_of l.base) l.txns (take l.t l.known))
