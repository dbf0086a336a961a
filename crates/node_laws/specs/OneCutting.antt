-- Of one list of items there is exactly one cutting.
use Rattle.std.specs.Prelude.{◌≡◌, List}
use Rattle.txn_types.specs.declared.stream.CutLimits.{CutLimits}
use Rattle.txn_types.specs.declared.stream.Item.{Item}
use Rattle.oxii_defs.specs.Table.{Table}
use Rattle.oxii_defs.specs.Lawful.{IsLawfulTable}
use Rattle.node_defs.specs.Cutting.{AdmittedItem, IsCutting, admitted}
use Rattle.node_defs.specs.LawfulItems.{AreLawfulLimits}

-- of any admitted items there are no two cuttings
abbrev pub OneCutting : Type 0
OneCutting = (table : Table) (limits : CutLimits) (items : List AdmittedItem) (one other : List (List AdmittedItem)) →
    IsCutting table limits items one → IsCutting table limits items other → one ≡ other

-- some lists are the cutting of the admitted items of a stream, and no others
pub record HasOneCutting (table : Table) (limits : CutLimits) (items : List Item) : Type 0 where
  pub lists : List (List AdmittedItem)
  pub is : IsCutting table limits (admitted table items) lists
  pub only : (other : List (List AdmittedItem)) → IsCutting table limits (admitted table items) other → other ≡ lists

-- where the table and the limits are lawful
abbrev pub ExactlyOneCutting : Type 0
ExactlyOneCutting = (table : Table) (limits : CutLimits) (items : List Item) →
    IsLawfulTable table → AreLawfulLimits limits → HasOneCutting table limits items
