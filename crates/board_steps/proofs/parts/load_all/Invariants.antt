-- What each turn of the loops of `load_all` keeps.
use Rattle.std.proofs.Common.{◌≡◌, ◌<◌, ℕ, get_or}
use Rattle.board_work.specs.Scripts.{script}
use Rattle.board_steps.specs.Abouts.{told}
use Rattle.board_core.specs.Script.{serial_value}
use Rattle.board_steps.proofs.parts.load_all.Given as goal

abbrev pub ghosts-load_value : goal.ghosts-load_value
ghosts-load_value a = record { found = serial_value (script (told a.words.now.key)) a.t a.r }

abbrev pub invariant-loop-k : goal.invariant-loop-k
invariant-loop-k l = (l.seat.table_id ≡ l.fn.seat.table_id) × (l.seat.id ≡ l.fn.seat.id) × (l.seat.me ≡ l.fn.seat.me) × ((j : ℕ) → j < l.k → get_or l.out j 0 ≡ serial_value (script (told l.words.key)) l.t (get_or l.row j 0))
