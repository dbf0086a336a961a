-- Which inputs are tame and which are well staffed, by counting the nodes that the document names.
use Rattle.std.specs.Prelude.{◌↔◌, List, []}
use Rattle.std.specs.List.{All}
use Rattle.txn_types.specs.declared.block.Body.{Body}
use Rattle.txn_types.specs.declared.message.Node.{Node}
use Rattle.txn_types.specs.declared.stream.CutLimits.{CutLimits}
use Rattle.txn_types.specs.declared.stream.Item.{Item}
use Rattle.oxii_defs.specs.Lawful.{IsLawfulTable}
use Rattle.oxii_defs.specs.State.{State}
use Rattle.oxii_defs.specs.Table.{Table}
use Rattle.node_defs.specs.Cutting.{AreAgreed}
use Rattle.node_defs.specs.LawfulItems.{AreLawfulLimits, IsLawfulItem}
use Rattle.text_laws.specs.SerialText.{IsTameInput}
use Rattle.completion_laws.specs.Counted.{AreFew, HasNoConfig, IsCountedStaffed, IsCountedTame, IsPlainStaffed, IsPlainTame}
use Rattle.completion_laws.specs.WholeText.{IsWellStaffedInput}

-- a lawful input in which no node is named faulty is tame
abbrev pub NobodyFaultyIsTame : Type 0
NobodyFaultyIsTame = (table : Table) (genesis : State) (items : List Item) (limits : CutLimits) →
    IsLawfulTable table → AreLawfulLimits limits → All (IsLawfulItem table) items → IsTameInput table genesis items limits []

-- and well staffed
abbrev pub NobodyFaultyIsStaffed : Type 0
NobodyFaultyIsStaffed = (table : Table) (genesis : State) (items : List Item) (limits : CutLimits) →
    IsLawfulTable table → AreLawfulLimits limits → All (IsLawfulItem table) items → IsWellStaffedInput table genesis items limits []

-- where the stream has no configuration, a lawful input in which few nodes of the table are named faulty is tame
abbrev pub FewFaultyIsTame : Type 0
FewFaultyIsTame = (table : Table) (genesis : State) (items : List Item) (limits : CutLimits) (faulty : List Node) →
    IsLawfulTable table → AreLawfulLimits limits → All (IsLawfulItem table) items → HasNoConfig items →
    AreFew table faulty → IsTameInput table genesis items limits faulty

-- an input is tame exactly where few nodes are named faulty, counted at its agreed blocks
abbrev pub TameIsCounted : Type 0
TameIsCounted = (table : Table) (genesis : State) (items : List Item) (limits : CutLimits) (faulty : List Node) (bodies : List Body) →
    AreAgreed table limits items bodies → IsTameInput table genesis items limits faulty ↔ IsCountedTame table bodies faulty

-- a lawful input is well staffed exactly where enough nodes aren't
abbrev pub StaffedIsCounted : Type 0
StaffedIsCounted = (table : Table) (genesis : State) (items : List Item) (limits : CutLimits) (faulty : List Node) (bodies : List Body) →
    IsLawfulTable table → AreLawfulLimits limits → All (IsLawfulItem table) items →
    AreAgreed table limits items bodies → IsWellStaffedInput table genesis items limits faulty ↔ IsCountedStaffed table bodies faulty

-- where the stream has no configuration, an input is tame exactly where few are, counted by the table
abbrev pub TameIsPlain : Type 0
TameIsPlain = (table : Table) (genesis : State) (items : List Item) (limits : CutLimits) (faulty : List Node) →
    IsLawfulTable table → AreLawfulLimits limits → HasNoConfig items →
    IsTameInput table genesis items limits faulty ↔ IsPlainTame table items faulty

-- and a lawful one is well staffed exactly where enough aren't
abbrev pub StaffedIsPlain : Type 0
StaffedIsPlain = (table : Table) (genesis : State) (items : List Item) (limits : CutLimits) (faulty : List Node) →
    IsLawfulTable table → AreLawfulLimits limits → All (IsLawfulItem table) items → HasNoConfig items →
    IsWellStaffedInput table genesis items limits faulty ↔ IsPlainStaffed table items faulty
