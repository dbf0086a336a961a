-- The setting of an input: outcomes as operations mean them, and the chain of the agreed blocks.
use Rattle.std.specs.Prelude.{◌≡◌, List}
use Rattle.txn_types.specs.declared.txn.Txn.{Txn}
use Rattle.txn_types.specs.declared.txn.Outcome.{Outcome}
use Rattle.txn_types.specs.declared.block.Body.{Body}
use Rattle.txn_types.specs.declared.stream.CutLimits.{CutLimits}
use Rattle.txn_types.specs.declared.stream.Item.{Item}
use Rattle.txn_types.specs.declared.message.Node.{Node}
use Rattle.oxii_defs.specs.State.{State}
use Rattle.oxii_defs.specs.Table.{Table}
use Rattle.oxii_defs.specs.Chain.{chain}
use Rattle.oxii_defs.specs.Meaning.{AreMeant}
use Rattle.node_defs.specs.Admission.{pieces_of}
use Rattle.node_defs.specs.Cutting.{AreAgreed}
use Rattle.node_defs.specs.Rules.{rules_by}
use Rattle.node_defs.specs.World.{Setting}

-- the setting of a table, genesis state, stream and faulty nodes, where transactions come to these outcomes, and these are the bodies of the agreed blocks
abbrev pub setting_by : (State → Txn → Outcome) → Table → State → List Item → List Body → List Node → Setting
setting_by outcomes table genesis items bodies faulty = record {
  rules = rules_by outcomes table genesis;
  chain = chain table bodies;
  pieces = pieces_of table items;
  faulty = faulty;
}

-- the setting of an input
pub record IsAgreedSetting (table : Table) (genesis : State) (items : List Item) (limits : CutLimits) (faulty : List Node) (s : Setting) : Type 0 where
  pub outcomes : State → Txn → Outcome
  pub meant : AreMeant table outcomes
  pub bodies : List Body
  pub agreed : AreAgreed table limits items bodies
  pub is : s ≡ setting_by outcomes table genesis items bodies faulty
