-- Where an input is tame and well staffed, an `all` makes its text that of serial runs of the whole chain; so where it is calm.
use Rattle.std.specs.Prelude.{ℕ, ◌<◌, ◌≡◌, ◌++◌, false, List, length, take}
use Rattle.std.specs.List.{All, flat_map}
use Rattle.std.proofs.Common.{refl, ap, subst, ◌∙◌, arith}
use Rattle.std.proofs.lemmas.List.{take_all}
use Rattle.txn_types.specs.declared.block.Body.{Body}
use Rattle.txn_types.specs.declared.event.Event.{Event}
use Rattle.txn_types.specs.declared.message.Node.{Node}
use Rattle.txn_types.specs.declared.message.Node.TheVariants.{Peer}
use Rattle.txn_types.specs.declared.stream.CutLimits.{CutLimits}
use Rattle.txn_types.specs.declared.stream.Item.{Item}
use Rattle.oxii_defs.specs.Chain.{chain}
use Rattle.oxii_defs.specs.Lines.{blocks_line, tail_lines}
use Rattle.oxii_defs.specs.SerialPart.{serial_part}
use Rattle.oxii_defs.specs.State.{State}
use Rattle.oxii_defs.specs.Table.{Table}
use Rattle.oxii_defs.proofs.Serially.{serial_parts}
use Rattle.node_defs.specs.Cutting.{AreAgreed, rejected_from}
use Rattle.node_defs.specs.LawfulEvents.{IsSaidByFaulty}
use Rattle.node_defs.specs.Programs.{setting_of}
use Rattle.node_defs.specs.Text.{IsTextOf, part_of, rejected_line}
use Rattle.node_defs.specs.World.{IsWorld, World, completed_count, count_from, log_of}
use Rattle.node_defs.proofs.Settings.{agreed_setting_is, is_agreed_setting}
use Rattle.node_laws.proofs.Bodies.{lawful_bodies}
use Rattle.node_laws.proofs.SerialPart.{serial_part_law}
use Rattle.node_laws.specs.Named.{is_named}
use Rattle.text_laws.proofs.SerialTexts.{IsTextIn, parts_are, serial_texts}
use Rattle.completion_laws.specs.TextLaws.{CalmTextsAreSerial, CalmTextsAreWhole, TextsAreWhole}
use Rattle.completion_laws.specs.Completion.{HasAll}
use Rattle.completion_laws.specs.Calm.{IsCalm}
use Rattle.completion_laws.specs.WholeText.{IsWholeText}
use Rattle.completion_laws.proofs.CalmParts.{calm_serial_part}
use Rattle.completion_laws.proofs.Law.{calm_completion, completion}

-- where the part of each peer that isn't faulty is that of the serial run of the whole chain, so is the text
whole_by : (table : Table) (genesis : State) (items : List Item) (limits : CutLimits) (faulty : List Node) (events : List Event) (lines : List ℕ) →
    ((bodies : List Body) → AreAgreed table limits items bodies → (w : World) → IsWorld (setting_of table genesis items bodies faulty) events w → (p : ℕ) → p < length table.peers → is_named faulty (Peer p) ≡ false →
    part_of (setting_of table genesis items bodies faulty) p (log_of w p) ≡ serial_part table genesis p (chain table bodies)) →
    IsTextOf table genesis items limits faulty events lines → IsWholeText table genesis items limits faulty lines
whole_by table genesis items limits faulty events lines parts (given, is, printed) =
    let bodies = is.bodies in
    let s = setting_of table genesis items bodies faulty in
    let shown = subst (IsTextIn table items events lines) (agreed_setting_is table genesis items limits faulty given is) printed in
    let w = shown.0 in
    let part : ℕ → List ℕ = λ p. part_of s p (log_of w p) in
    record {
      bodies = bodies;
      agreed = is.agreed;
      part = part;
      serial = λ p l h. (serial_parts table genesis p (chain table bodies) (part p)).1 (parts bodies is.agreed w shown.1 p l h);
      messages = length w.pool;
      idle = w.idle;
      are = shown.2 ∙ ap (λ xs. flat_map rejected_line (rejected_from table 0 items) ++ blocks_line (length (chain table bodies)) ++ xs ++ tail_lines (length w.pool) w.idle) (parts_are s w part (count_from 0 (length table.peers)) (λ p. refl));
    }

-- a peer that completed the whole chain prints its serial run, where what it completed is printed so
whole_part : (table : Table) (genesis : State) (items : List Item) (bodies : List Body) (faulty : List Node) (w : World) (p : ℕ) → let s = setting_of table genesis items bodies faulty in
    HasAll s w p → part_of s p (log_of w p) ≡ serial_part table genesis p (take (completed_count s w p) s.chain) → part_of s p (log_of w p) ≡ serial_part table genesis p (chain table bodies)
whole_part table genesis items bodies faulty w p full law =
    law ∙ ap (serial_part table genesis p) (ap (λ n. take n (chain table bodies)) full.count ∙ take_all (length (chain table bodies)) (chain table bodies) (omega arith))

pub whole_texts : TextsAreWhole
whole_texts table genesis items limits faulty events lines lawful state fair fine tame staffed (before, after, split) said printed =
    whole_by table genesis items limits faulty events lines
    (λ bodies agreed w led p l h.
    let s = setting_of table genesis items bodies faulty in
    let ours = is_agreed_setting table genesis items limits faulty bodies agreed in
    let full = completion table genesis items bodies faulty before after w p lawful state (lawful_bodies table limits items bodies fair fine agreed) (tame s ours) (staffed s ours) (subst (All (IsSaidByFaulty s)) split (said bodies)) (subst (λ es. IsWorld s es w) split led) l h in
    whole_part table genesis items bodies faulty w p full (serial_part_law table genesis items bodies faulty events w p (tame s ours) (said bodies) led).1)
    printed

pub calm_texts : CalmTextsAreSerial
calm_texts table genesis items limits faulty events lines calm said printed =
    serial_texts table genesis items limits faulty events lines
    (λ bodies agreed w led p. calm_serial_part table genesis items bodies faulty events w p (calm (setting_of table genesis items bodies faulty) (is_agreed_setting table genesis items limits faulty bodies agreed)) (said bodies) led)
    printed

pub calm_whole_texts : CalmTextsAreWhole
calm_whole_texts table genesis items limits faulty events lines lawful state fair fine calm staffed (before, after, split) said printed =
    whole_by table genesis items limits faulty events lines
    (λ bodies agreed w led p l h.
    let s = setting_of table genesis items bodies faulty in
    let ours = is_agreed_setting table genesis items limits faulty bodies agreed in
    let full = calm_completion table genesis items bodies faulty before after w p lawful state (lawful_bodies table limits items bodies fair fine agreed) (subst (IsCalm s) split (calm s ours)) (staffed s ours) (subst (All (IsSaidByFaulty s)) split (said bodies)) (subst (λ es. IsWorld s es w) split led) l h in
    whole_part table genesis items bodies faulty w p full (calm_serial_part table genesis items bodies faulty events w p (calm s ours) (said bodies) led).1)
    printed
