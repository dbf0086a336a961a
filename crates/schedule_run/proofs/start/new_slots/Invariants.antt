-- What each turn of the loops of `new_slots` keeps.
use Rattle.txn_core.specs.States.{state_of}
use Rattle.world_laws.specs.Starts.{AreNewSlots}
use Rattle.schedule_run.proofs.start.new_slots.Given as goal

abbrev pub invariant-loop-i : goal.invariant-loop-i
invariant-loop-i l = AreNewSlots l.table l.faulty (state_of l.genesis) l.i l.slots.items
