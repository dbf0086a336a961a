-- What the core of a board knows of a plan is right: the statements.
use Rattle.std.specs.Prelude.{◌≡◌, ◌↔◌, ℕ, true, List, Option, Contains, length, map}
use Rattle.txn_types.specs.declared.txn.Kind.TheVariants.{Full}
use Rattle.board_core.specs.declared.view.View.{View}
use Rattle.board_core.specs.Counts.{Run}
use Rattle.board_core.specs.Script.{IsSound}
use Rattle.atomic_table.specs.Table.{State}
use Rattle.board_core.specs.Rule.{Holds}
use Rattle.board_core.specs.Traces.{IsTrace}
use Rattle.board_defs.specs.Closure.{Plan, IsLawfulPlan, ran_positions}
use Rattle.board_defs.specs.Trace.{Span, IsLawfulTrace}
use Rattle.board_work.specs.declared.layout.Layout.{Layout}
use Rattle.board_work.specs.declared.layout.Layout.TheVariants.{Versions}
use Rattle.board_work.specs.Scripts.{has_values, script_of, AreHeld}
use Rattle.script_laws.specs.Versions.{KeepsVersions}
use Rattle.script_laws.specs.Placed.{span_of_run, placed}

-- a lawful plan whose graph has every conflict
pub record IsFullPlan (plan : Plan) : Type 0 where
  pub lawful : IsLawfulPlan plan
  pub full : plan.table.kind ≡ Full

-- a lawful plan, with every conflict in its graph where the words keep the value of each record
pub record IsPlanFor (layout : Layout) (plan : Plan) : Type 0 where
  pub lawful : IsLawfulPlan plan
  pub full : has_values layout ≡ true → plan.table.kind ≡ Full

-- the rule can be over the script of such a plan
abbrev pub ScriptsAreSound : Type 0
ScriptsAreSound = (layout : Layout) (plan : Plan) → IsPlanFor layout plan → AreHeld plan → IsSound (script_of layout plan)

-- the runs of the last pass, in order of position, are a lawful trace of what ran, and no other
pub record IsLawfulClose (plan : Plan) (v : View) (spans : List Span) : Type 0 where
  pub trace : IsLawfulTrace plan.table.kind plan.txns 16 (ran_positions plan) spans
  pub same : (s : Span) → Contains spans s ↔ Contains (map span_of_run v.spans) s

abbrev pub TracesAreLawful : Type 0
TracesAreLawful = (layout : Layout) (plan : Plan) (v : View) (run_at : ℕ → Option Run) → IsLawfulPlan plan → IsTrace (script_of layout plan) v run_at → IsLawfulClose plan v (placed run_at (length plan.txns))

-- where the words keep versions, these are as promised in each state that meets the rule
abbrev pub VersionsAreKept : Type 0
VersionsAreKept = (plan : Plan) (s : State ℕ View) → IsLawfulPlan plan → Holds (script_of Versions plan) s → KeepsVersions plan s
