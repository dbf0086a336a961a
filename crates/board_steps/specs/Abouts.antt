-- The plan that an About says of, what the core of a board knows of it, and the room that its words take.
use Rattle.std.specs.Prelude.{◌≡◌, ℕ, ◌*◌, ◌<◌, ◌≤◌, length}
use Rattle.board_defs.specs.Closure as closure
use Rattle.txn_core.specs.MeantTable.{table_of}
use Rattle.txn_core.specs.States.{state_of}
use Rattle.board_core.specs.Script.{Script}
use Rattle.board_work.specs.declared.layout.Layout.{Layout}
use Rattle.board_work.specs.Scripts.{script_of}
use Rattle.board_steps.specs.declared.about.About.{About}

abbrev pub told : About → closure.Plan
told about = record { table = table_of about.table.value; txns = about.txns.value; base = state_of about.base.value; known = about.known.value; own = about.own.value }

-- what the core of a board knows of it
abbrev pub scripted : About → Script
scripted about = script_of about.layout.value (told about)

-- the words keep the value of each record, or versions
abbrev pub IsLaidOut : Layout → About → Type 0
IsLaidOut layout about = about.layout.value ≡ layout

-- the table has a word for each thing, and its indexes are small
abbrev pub HasRoom : closure.Plan → ℕ → Type 0
HasRoom plan n = (38 * length plan.txns < n) × (2 * length plan.table.records < n) × (length plan.txns ≤ 256) × (length plan.table.records ≤ 4096)
