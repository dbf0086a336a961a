-- A pass: what contracts see, and the state that it stands for.
use Rattle.std.specs.Prelude.{◌==◌, ℕ, List, [], ◌∷◌, map, if◌then◌else◌}
use Rattle.atomic_table.specs.Seated.{TableId}
use Rattle.board_core.specs.declared.view.View.{View}
use Rattle.board_core.specs.Counts.{times_first}
use Rattle.board_steps.specs.declared.about.About.{About}
use Rattle.board_steps.specs.Abouts.{told}
use Rattle.board_work.specs.PassStates.{Home, PassState}
use Rattle.script_laws.specs.Placed.{span_of_run}

pub record Seen : Type 0 where
  pub table : TableId
  pub about : About
  pub view : View

abbrev pub seen : TableId → About → View → Seen
seen z a v = record { table = z; about = a; view = v }

-- what has begun and isn't finished
abbrev pub open_of : List (ℕ × ℕ) → List (ℕ × ℕ) → List ℕ
open_of [] finishes = []
open_of (x ∷ xs) finishes = if times_first x.0 finishes == 0 then x.0 ∷ open_of xs finishes else open_of xs finishes

abbrev pub home_of : TableId → About → Home
home_of z a = record { id = z; plan = told a }

abbrev pub state_of_view : Home → View → PassState
state_of_view h v = record { home = h; number = v.number; numbers = v.numbers; passes = v.passes; loads = v.loads; last = v.last; duties = v.duties; tried = v.tried; held = open_of v.begins v.finishes; spans = map span_of_run v.spans }

abbrev pub pass_state : Seen → PassState
pass_state p = state_of_view (home_of p.table p.about) p.view
