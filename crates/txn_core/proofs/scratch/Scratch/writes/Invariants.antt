-- What each turn of the loops of `Scratch::writes` keeps.
use Rattle.std.proofs.Common.{◌≡◌, ◌≤◌, length, map, take}
use Rattle.std.specs.FinMap as map
use Rattle.txn_core.proofs.scratch.Scratch.writes.Given as goal

abbrev pub invariant-loop-number : goal.invariant-loop-number
invariant-loop-number l =
    (l.all ≡ map (map.get l.self.written) (take l.number-index l.number-items))
    × (l.number-items ≡ l.records) × (length l.number-items ≤ 16)
