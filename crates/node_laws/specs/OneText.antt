-- An input has exactly one text.
use Rattle.std.specs.Prelude.{◌≡◌, ℕ, List}
use Rattle.txn_types.specs.declared.stream.CutLimits.{CutLimits}
use Rattle.txn_types.specs.declared.stream.Item.{Item}
use Rattle.txn_types.specs.declared.message.Node.{Node}
use Rattle.txn_types.specs.declared.event.Event.{Event}
use Rattle.oxii_defs.specs.State.{State}
use Rattle.oxii_defs.specs.Table.{Table}
use Rattle.oxii_defs.specs.Lawful.{IsLawfulTable}
use Rattle.node_defs.specs.LawfulItems.{AreLawfulLimits}
use Rattle.node_defs.specs.Text.{IsTextOf}

-- some lines are its text, and no others
pub record HasOneText (table : Table) (genesis : State) (items : List Item) (limits : CutLimits) (faulty : List Node) (events : List Event) : Type 0 where
  pub lines : List ℕ
  pub is : IsTextOf table genesis items limits faulty events lines
  pub only : (other : List ℕ) → IsTextOf table genesis items limits faulty events other → other ≡ lines

-- where the table and the limits are lawful
abbrev pub OneText : Type 0
OneText = (table : Table) (genesis : State) (items : List Item) (limits : CutLimits) (faulty : List Node) (events : List Event) →
    IsLawfulTable table → AreLawfulLimits limits → HasOneText table genesis items limits faulty events
