-- What contracts see of a frame, and which passes are its own.
use Rattle.std.specs.Prelude.{◌≡◌, List, Option}
use Rattle.atomic_table.specs.Seated.{TableId}
use Rattle.txn_types.specs.declared.txn.Outcome.{Outcome}
use Rattle.board_defs.specs.Closure as meant
use Rattle.board_defs.specs.Closure.{Plan}
use Rattle.board_defs.specs.Trace as trace
use Rattle.board_steps.specs.declared.about.About.{About}
use Rattle.board_steps.specs.Abouts.{told}
use Rattle.board_work.specs.PassStates.{Home}
use Rattle.board_frame.specs.Seen.{Seen, home_of}

pub record Standing : Type 0 where
  pub table : TableId
  pub about : About

abbrev pub standing : TableId → About → Standing
standing z a = record { table = z; about = a }

pub record IsPassOf (b : Standing) (p : Seen) : Type 0 where
  pub table : p.table ≡ b.table
  pub plan : told p.about ≡ told b.about

abbrev pub frame_home : Standing → Home
frame_home b = home_of b.table b.about

-- what an answer says of its plan: the outcomes of the closure, and a lawful trace for 16 workers
abbrev pub IsFrameClosed : Plan → List (Option Outcome) → List trace.Span → Type 0
IsFrameClosed plan outcomes spans = meant.IsClosed plan 16 outcomes spans
