-- Rules and settings in which outcomes are what operations come to as programs.
use Rattle.std.specs.Prelude.{List}
use Rattle.txn_types.specs.declared.block.Body.{Body}
use Rattle.txn_types.specs.declared.stream.Item.{Item}
use Rattle.txn_types.specs.declared.message.Node.{Node}
use Rattle.oxii_defs.specs.State.{State}
use Rattle.oxii_defs.specs.Table.{Table}
use Rattle.oxii_defs.specs.Outcomes.{outcome_in}
use Rattle.node_defs.specs.Rules.{Rules, rules_by}
use Rattle.node_defs.specs.World.{Setting}
use Rattle.node_defs.specs.AgreedSettings.{setting_by}

-- the rules of a document: outcomes by its operations
abbrev pub rules_of : Table → State → Rules
rules_of table genesis = rules_by (outcome_in table) table genesis

-- the setting of a document's table, genesis state, stream and faulty nodes, where these are the bodies of its agreed blocks
abbrev pub setting_of : Table → State → List Item → List Body → List Node → Setting
setting_of table genesis items bodies faulty = setting_by (outcome_in table) table genesis items bodies faulty
