-- What each turn of the loops of `Slots::inputs_at` keeps.
use Rattle.std.proofs.Common.{◌≡◌, ◌<◌, ℕ, get_or, length}
use Rattle.oxii_defs.specs.State.{value_in}
use Rattle.board_steps.specs.Abouts.{told}
use Rattle.board_work.specs.Scripts.{state_before}
use Rattle.board_frame.specs.Frames.{IsPassOf}
use Rattle.version_slots.proofs.slots.Slots.inputs_at.Given as goal

abbrev pub invariant-loop-k : goal.invariant-loop-k
invariant-loop-k l = IsPassOf l.self l.pass × (l.pass.view ≡ l.fn.pass.view) × ((j : ℕ) → j < l.k → get_or l.out j 0 ≡ value_in (state_before (told l.self.about) l.t) (get_or l.reads j 0)) × (length l.out ≡ 16)
