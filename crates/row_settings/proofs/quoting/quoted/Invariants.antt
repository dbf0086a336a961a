-- What each turn of the loops of `quoted` keeps.
use Rattle.std.proofs.Common.{◌≡◌, ◌++◌, drop, map}
use Rattle.row_settings.specs.Settings.{quoted_byte}
use Rattle.row_settings.proofs.quoting.quoted.Given as goal

abbrev pub invariant-loop-byte : goal.invariant-loop-byte
invariant-loop-byte l = l.bytes ++ map quoted_byte (drop l.byte-index l.document) ≡ map quoted_byte l.document
