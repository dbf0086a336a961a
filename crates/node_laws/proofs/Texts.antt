-- An input has exactly one text.
use Rattle.std.specs.Prelude.{◌≡◌, ℕ, List, map, refl}
use Rattle.std.proofs.Common.{sym, ◌∙◌, ap, subst}
use Rattle.node_defs.specs.Cutting.{AreAgreed, admitted, carried_body, rejected_from}
use Rattle.node_defs.specs.Text.{IsTextOf, text}
use Rattle.node_defs.specs.World.{IsWorld, Setting, World, start}
use Rattle.node_defs.specs.Programs.{setting_of}
use Rattle.node_defs.proofs.Settings.{agreed_setting_is, is_agreed_setting}
use Rattle.node_laws.proofs.Cuttings.{one_cutting}
use Rattle.node_laws.proofs.Ends.{one_world}
use Rattle.node_laws.proofs.ExactlyOne.{exactly_one_cutting}
use Rattle.node_laws.proofs.Run.{same_world}
use Rattle.node_laws.specs.OneText.{OneText}
use Rattle.oxii_defs.specs.State.{State}
use Rattle.oxii_defs.specs.Table.{Table}
use Rattle.txn_types.specs.declared.block.Body.{Body}
use Rattle.txn_types.specs.declared.event.Event.{Event}
use Rattle.txn_types.specs.declared.message.Node.{Node}
use Rattle.txn_types.specs.declared.stream.CutLimits.{CutLimits}
use Rattle.txn_types.specs.declared.stream.Item.{Item}

same_bodies : (table : Table) (limits : CutLimits) (items : List Item) (one other : List Body) → AreAgreed table limits items one → AreAgreed table limits items other → one ≡ other
same_bodies table limits items one other a b = a.2 ∙ ap (map carried_body) (one_cutting table limits (admitted table items) a.0 b.0 a.1 b.1) ∙ sym b.2

-- what is printed of a world of the events in this setting
IsPrintedIn : Table → List Item → List Event → List ℕ → Setting → Type 0
IsPrintedIn table items events lines s = (v : World) × IsWorld s events v × (lines ≡ text s (rejected_from table 0 items) v)

same_text : (table : Table) (genesis : State) (items : List Item) (limits : CutLimits) (faulty : List Node) (events : List Event) (bodies : List Body) (w : World) →
    AreAgreed table limits items bodies → IsWorld (setting_of table genesis items bodies faulty) events w →
    (other : List ℕ) → IsTextOf table genesis items limits faulty events other → other ≡ text (setting_of table genesis items bodies faulty) (rejected_from table 0 items) w
unfolding IsPrintedIn
same_text table genesis items limits faulty events bodies w agreed_bodies world other (u, given, printed) =
    let s = setting_of table genesis items bodies faulty in
    let same : u ≡ s =
    agreed_setting_is table genesis items limits faulty u given ∙ ap (λ bs. setting_of table genesis items bs faulty) (same_bodies table limits items given.bodies bodies given.agreed agreed_bodies) in
    let k = subst (IsPrintedIn table items events other) same printed in
    k.2 ∙ ap (text s (rejected_from table 0 items)) (same_world s events (start s) k.0 w k.1 world)

pub one_text : OneText
one_text table genesis items limits faulty events lawful fair =
    let cut = exactly_one_cutting table limits items lawful fair in
    let bodies = map carried_body cut.lists in
    let world = one_world table genesis items bodies faulty events in
    record {
      lines = text (setting_of table genesis items bodies faulty) (rejected_from table 0 items) world.world;
      is = (setting_of table genesis items bodies faulty, is_agreed_setting table genesis items limits faulty bodies (cut.lists, cut.is, refl), (world.world, world.is, refl));
      only = λ other t. same_text table genesis items limits faulty events bodies world.world (cut.lists, cut.is, refl) world.is other t;
    }
