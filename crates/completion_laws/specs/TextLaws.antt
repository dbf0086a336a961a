-- The laws of texts: those of tame or calm inputs are serial, and whole where enough nodes are honest.
use Rattle.std.specs.List.{All}
use Rattle.std.specs.Prelude.{ℕ, List, []}
use Rattle.txn_types.specs.declared.block.Body.{Body}
use Rattle.txn_types.specs.declared.event.Event.{Event}
use Rattle.txn_types.specs.declared.message.Node.{Node}
use Rattle.txn_types.specs.declared.stream.CutLimits.{CutLimits}
use Rattle.txn_types.specs.declared.stream.Item.{Item}
use Rattle.oxii_defs.specs.Lawful.{IsLawfulTable}
use Rattle.oxii_defs.specs.State.{IsState, State}
use Rattle.oxii_defs.specs.Table.{Table}
use Rattle.node_defs.specs.LawfulEvents.{IsSaidByFaulty}
use Rattle.node_defs.specs.LawfulItems.{AreLawfulLimits, IsLawfulItem}
use Rattle.node_defs.specs.Programs.{setting_of}
use Rattle.node_defs.specs.Text.{IsTextOf}
use Rattle.text_laws.specs.SerialText.{IsTameInput, HasSerialText}
use Rattle.completion_laws.specs.Calm.{IsCalmInput}
use Rattle.completion_laws.specs.WholeText.{HaveAll, IsWellStaffedInput, IsWholeText}

-- where an input is tame and well staffed, faulty nodes alone say what they like, and there is an `all` among the events, its text is that of serial runs of the whole chain
abbrev pub TextsAreWhole : Type 0
TextsAreWhole = (table : Table) (genesis : State) (items : List Item) (limits : CutLimits) (faulty : List Node) (events : List Event) (lines : List ℕ) →
    IsLawfulTable table → IsState genesis → AreLawfulLimits limits → All (IsLawfulItem table) items →
    IsTameInput table genesis items limits faulty → IsWellStaffedInput table genesis items limits faulty → HaveAll events →
    ((bodies : List Body) → All (IsSaidByFaulty (setting_of table genesis items bodies faulty)) events) →
    IsTextOf table genesis items limits faulty events lines →
    IsWholeText table genesis items limits faulty lines

-- so where nobody is faulty and there is an `all`
abbrev pub HonestTextsAreWhole : Type 0
HonestTextsAreWhole = (table : Table) (genesis : State) (items : List Item) (limits : CutLimits) (events : List Event) (lines : List ℕ) →
    IsLawfulTable table → IsState genesis → AreLawfulLimits limits → All (IsLawfulItem table) items → HaveAll events →
    ((bodies : List Body) → All (IsSaidByFaulty (setting_of table genesis items bodies [])) events) →
    IsTextOf table genesis items limits [] events lines →
    IsWholeText table genesis items limits [] lines

-- where an input is calm and faulty nodes alone say what they like, its text is one of serial runs, however many nodes are named faulty
abbrev pub CalmTextsAreSerial : Type 0
CalmTextsAreSerial = (table : Table) (genesis : State) (items : List Item) (limits : CutLimits) (faulty : List Node) (events : List Event) (lines : List ℕ) →
    IsCalmInput table genesis items limits faulty events →
    ((bodies : List Body) → All (IsSaidByFaulty (setting_of table genesis items bodies faulty)) events) →
    IsTextOf table genesis items limits faulty events lines →
    HasSerialText table genesis items limits faulty events lines

-- where it is besides well staffed, and there is an `all` among the events, its text is that of serial runs of the whole chain
abbrev pub CalmTextsAreWhole : Type 0
CalmTextsAreWhole = (table : Table) (genesis : State) (items : List Item) (limits : CutLimits) (faulty : List Node) (events : List Event) (lines : List ℕ) →
    IsLawfulTable table → IsState genesis → AreLawfulLimits limits → All (IsLawfulItem table) items →
    IsCalmInput table genesis items limits faulty events → IsWellStaffedInput table genesis items limits faulty → HaveAll events →
    ((bodies : List Body) → All (IsSaidByFaulty (setting_of table genesis items bodies faulty)) events) →
    IsTextOf table genesis items limits faulty events lines →
    IsWholeText table genesis items limits faulty lines
