-- What each turn of the loops of `Slots::value_before` keeps.
use Rattle.std.proofs.Common.{◌≡◌, ◌-◌}
use Rattle.board_core.specs.Script.{serial_value}
use Rattle.board_steps.specs.Abouts.{told}
use Rattle.board_work.specs.Scripts.{script}
use Rattle.board_frame.specs.Frames.{IsPassOf}
use Rattle.version_slots.proofs.slots.Slots.value_before.Given as goal

abbrev pub invariant-loop-d : goal.invariant-loop-d
invariant-loop-d l = IsPassOf l.self l.pass × (l.pass.view ≡ l.fn.pass.view) × (serial_value (script (told l.self.about)) l.t l.r ≡ serial_value (script (told l.self.about)) (l.t - l.d) l.r)
