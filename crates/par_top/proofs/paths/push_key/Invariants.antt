-- What each turn of the loops of `push_key` keeps.
use Rattle.std.proofs.Common.{◌≡◌, ◌++◌, map, take}
use Rattle.par_top.specs.Statuses.{printed_byte}
use Rattle.par_top.proofs.paths.push_key.Given as goal

abbrev pub invariant-loop-byte : goal.invariant-loop-byte
invariant-loop-byte l = l.text ≡ l.initial.text ++ map printed_byte (take l.byte-index l.key)
