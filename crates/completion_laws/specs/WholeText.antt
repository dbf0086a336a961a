-- The text of an input that lets each peer complete every block.
use Rattle.std.specs.Prelude.{ℕ, ◌≡◌, ◌<◌, ◌++◌, ◌∷◌, false, List, length}
use Rattle.std.specs.List.{flat_map}
use Rattle.txn_types.specs.declared.block.Body.{Body}
use Rattle.txn_types.specs.declared.event.Event.{Event}
use Rattle.txn_types.specs.declared.event.Event.TheVariants as event
use Rattle.txn_types.specs.declared.message.Node.{Node}
use Rattle.txn_types.specs.declared.message.Node.TheVariants.{Peer}
use Rattle.txn_types.specs.declared.stream.CutLimits.{CutLimits}
use Rattle.txn_types.specs.declared.stream.Item.{Item}
use Rattle.oxii_defs.specs.Chain.{chain}
use Rattle.oxii_defs.specs.Lines.{blocks_line, tail_lines}
use Rattle.oxii_defs.specs.SerialRuns.{IsSerialPart}
use Rattle.oxii_defs.specs.State.{State}
use Rattle.oxii_defs.specs.Table.{Table}
use Rattle.node_defs.specs.AgreedSettings.{IsAgreedSetting}
use Rattle.node_defs.specs.Cutting.{AreAgreed, rejected_from}
use Rattle.node_defs.specs.Text.{rejected_line}
use Rattle.node_defs.specs.World.{Setting}
use Rattle.node_laws.specs.Named.{is_named}
use Rattle.text_laws.specs.SerialText.{honest_peers}
use Rattle.completion_laws.specs.Staffed.{IsWellStaffed}

-- enough nodes aren't faulty, at each block that orderers agree on
abbrev pub IsWellStaffedInput : Table → State → List Item → CutLimits → List Node → Type 0
IsWellStaffedInput table genesis items limits faulty = (s : Setting) → IsAgreedSetting table genesis items limits faulty s → IsWellStaffed s

-- among the events there is an `all`
abbrev pub HaveAll : List Event → Type 0
HaveAll events = (before : List Event) × (after : List Event) × (events ≡ before ++ event.All ∷ after)

-- the part of each peer that isn't named faulty is that of the serial run of the whole chain, whatever the schedule
pub record IsWholeText (table : Table) (genesis : State) (items : List Item) (limits : CutLimits) (faulty : List Node) (lines : List ℕ) : Type 0 where
  pub bodies : List Body
  pub agreed : AreAgreed table limits items bodies
  pub part : ℕ → List ℕ
  pub serial : (p : ℕ) → p < length table.peers → is_named faulty (Peer p) ≡ false → IsSerialPart table genesis p (chain table bodies) (part p)
  pub messages : ℕ
  pub idle : ℕ
  pub are : lines ≡ flat_map rejected_line (rejected_from table 0 items) ++ blocks_line (length (chain table bodies)) ++ flat_map part (honest_peers table faulty) ++ tail_lines messages idle
