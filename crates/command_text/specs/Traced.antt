-- What a trace prints.
use Rattle.std.specs.Prelude.{◌≡◌, ℕ, Bool, true, false, if◌then◌else◌, List, [], map}
use Rattle.std.specs.List.{flat_map}
use Rattle.oxii_defs.specs.Table.{Table}
use Rattle.node_defs.specs.World.{Setting, start}
use Rattle.node_defs.specs.AgreedSettings.{IsAgreedSetting}
use Rattle.txn_core.specs.States.{state_of}
use Rattle.board_work.specs.Spans.{span_of}
use Rattle.world_laws.specs.declared.burst.Burst.{Burst}
use Rattle.world_laws.specs.Deliveries.{AreBursts, AreDeliveries, Delivery}
use Rattle.report_text.specs.BurstText.{burst_lines}
use Rattle.input_doc.specs.Inputs.{Input}

-- the lines of bursts, in order
abbrev pub bursts_lines : Table → List Burst → List ℕ
bursts_lines table bursts = flat_map (λ b. burst_lines table b.peer b.spans.n (map span_of b.spans.spans)) bursts

-- those that are printed: all, or none
abbrev pub trace_lines : Bool → Table → List Burst → List ℕ
trace_lines traced table bursts = if traced then bursts_lines table bursts else []

-- the lines of the bursts of an input: for each delivery of its schedule, in its setting, one burst for each block of which something first ran with it, with a lawful trace of what did, by so many workers
pub record HasBurstLines (workers : ℕ) (input : Input) (lines : List ℕ) : Type 0 where
  pub setting : Setting
  pub is : IsAgreedSetting input.table (state_of input.genesis) input.items input.limits input.faulty setting
  pub deliveries : List Delivery
  pub are : AreDeliveries setting (start setting) input.schedule deliveries
  pub bursts : List Burst
  pub of_deliveries : AreBursts setting workers deliveries bursts
  pub printed : lines ≡ bursts_lines input.table bursts

-- what a trace prints of an input, and nothing where none is asked for
abbrev pub IsTraceText : Bool → ℕ → Input → List ℕ → Type 0
IsTraceText true workers input lines = HasBurstLines workers input lines
IsTraceText false workers input lines = lines ≡ []
