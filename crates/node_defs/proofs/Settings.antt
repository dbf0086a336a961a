-- The setting of an input is that of its agreed blocks, in which outcomes are what operations come to as programs.
use Rattle.std.specs.Prelude.{◌≡◌, List}
use Rattle.std.proofs.Common.{refl, ap, ◌∙◌}
use Rattle.txn_types.specs.declared.txn.Txn.{Txn}
use Rattle.txn_types.specs.declared.txn.Outcome.{Outcome}
use Rattle.txn_types.specs.declared.block.Body.{Body}
use Rattle.txn_types.specs.declared.stream.CutLimits.{CutLimits}
use Rattle.txn_types.specs.declared.stream.Item.{Item}
use Rattle.txn_types.specs.declared.message.Node.{Node}
use Rattle.oxii_defs.specs.State.{State}
use Rattle.oxii_defs.specs.Table.{Table, body_in}
use Rattle.oxii_defs.specs.Outcomes.{outcome_in}
use Rattle.oxii_defs.specs.Meaning.{AreMeant}
use Rattle.oxii_defs.proofs.Calls.{outcomes_meant}
use Rattle.node_defs.specs.Cutting.{AreAgreed}
use Rattle.node_defs.specs.World.{Setting}
use Rattle.node_defs.specs.AgreedSettings.{IsAgreedSetting, setting_by}
use Rattle.node_defs.specs.Programs.{setting_of}

-- the setting of agreed blocks is that of the input
pub is_agreed_setting : (table : Table) (genesis : State) (items : List Item) (limits : CutLimits) (faulty : List Node) (bodies : List Body) → AreAgreed table limits items bodies →
    IsAgreedSetting table genesis items limits faulty (setting_of table genesis items bodies faulty)
is_agreed_setting table genesis items limits faulty bodies agreed = record {
  outcomes = outcome_in table;
  meant = λ s t. (outcomes_meant (body_in table t) t s (outcome_in table s t)).1 refl;
  bodies = bodies;
  agreed = agreed;
  is = refl;
}

-- outcomes that operations mean are those of programs, in each state and of each transaction
as_programs : (table : Table) (outcomes : State → Txn → Outcome) → AreMeant table outcomes → outcomes ≡ outcome_in table
as_programs table outcomes meant = λ k. λ s. λ t. (outcomes_meant (body_in table t) t s (outcomes s t)).0 (meant s t) k

-- and that of the input is one of agreed blocks
pub agreed_setting_is : (table : Table) (genesis : State) (items : List Item) (limits : CutLimits) (faulty : List Node) (s : Setting) (given : IsAgreedSetting table genesis items limits faulty s) →
    s ≡ setting_of table genesis items given.bodies faulty
agreed_setting_is table genesis items limits faulty s given =
    given.is ∙ ap (λ outcomes. setting_by outcomes table genesis items given.bodies faulty) (as_programs table given.outcomes given.meant)
