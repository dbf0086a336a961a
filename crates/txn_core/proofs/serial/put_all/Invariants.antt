-- What each turn of the loops of `put_all` keeps.
use Rattle.std.proofs.Common.{◌≡◌, length, drop}
use Rattle.oxii_defs.specs.Effects.{put_all}
use Rattle.txn_core.specs.States.{state_of}
use Rattle.txn_core.proofs.serial.put_all.Given as goal

abbrev pub invariant-loop-i : goal.invariant-loop-i
invariant-loop-i l =
    (put_all (state_of l.values) (drop l.i l.writes) (drop l.i l.entries) ≡ put_all (state_of l.initial.values) l.writes l.entries)
    × (length l.values ≡ length l.initial.values)
