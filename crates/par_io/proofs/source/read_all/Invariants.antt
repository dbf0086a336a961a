-- What each turn of the loops of `read_all` keeps.
use Rattle.std.proofs.Common.{◌≤◌, ◌-◌, length}
use Rattle.std.specs.Io.KnownBytes.{Consumes}
use Rattle.par_io.proofs.source.read_all.Given as goal

abbrev pub invariant-loop-n : goal.invariant-loop-n
invariant-loop-n g l = record {
  later : g.S.Source.faults l.initial.source ≤ g.S.Source.faults l.source;
  taken : Consumes (g.S.Source.rest l.initial.source) (g.S.Source.rest l.source) l.bytes;
  short : length l.bytes ≤ l.limit;
}

abbrev pub decreases-loop-n : goal.decreases-loop-n
decreases-loop-n g l = l.limit - length l.bytes
