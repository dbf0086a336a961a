-- The law of serial texts.
use Rattle.std.specs.Prelude.{ℕ, List}
use Rattle.std.specs.List.{All}
use Rattle.txn_types.specs.declared.block.Body.{Body}
use Rattle.txn_types.specs.declared.stream.CutLimits.{CutLimits}
use Rattle.txn_types.specs.declared.stream.Item.{Item}
use Rattle.txn_types.specs.declared.message.Node.{Node}
use Rattle.txn_types.specs.declared.event.Event.{Event}
use Rattle.oxii_defs.specs.State.{State}
use Rattle.oxii_defs.specs.Table.{Table}
use Rattle.node_defs.specs.Text.{IsTextOf}
use Rattle.node_defs.specs.Programs.{setting_of}
use Rattle.node_defs.specs.LawfulEvents.{IsSaidByFaulty}
use Rattle.text_laws.specs.SerialText.{IsTameInput, HasSerialText}

-- where an input is tame and faulty nodes alone say what they like, its text is one of serial runs
abbrev pub TameTextsAreSerial : Type 0
TameTextsAreSerial = (table : Table) (genesis : State) (items : List Item) (limits : CutLimits) (faulty : List Node) (events : List Event) (lines : List ℕ) →
    IsTameInput table genesis items limits faulty →
    ((bodies : List Body) → All (IsSaidByFaulty (setting_of table genesis items bodies faulty)) events) →
    IsTextOf table genesis items limits faulty events lines →
    HasSerialText table genesis items limits faulty events lines
