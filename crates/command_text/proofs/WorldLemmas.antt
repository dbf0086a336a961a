-- The world of a document, and its text.
use Rattle.std.specs.Prelude.{ℕ, ◌≡◌, ◌≤◌, ◌++◌, Bool, true, false, List, [], length, Option, count_by, is_some, sum_by}
use Rattle.std.specs.List.{All}
use Rattle.std.proofs.Common.{refl, sym, ap, subst, ◌∙◌, arith}
use Rattle.txn_types.specs.declared.block.Block.{Block}
use Rattle.txn_types.specs.declared.block.Body.{Body}
use Rattle.txn_types.specs.declared.event.Event.{Event}
use Rattle.txn_types.specs.declared.message.Node.{Node}
use Rattle.txn_types.specs.declared.stream.Item.{Item}
use Rattle.txn_types.specs.declared.stream.Piece.{Piece}
use Rattle.txn_types.specs.declared.stream.Rejected.{Rejected}
use Rattle.oxii_defs.specs.State.{State}
use Rattle.oxii_defs.specs.Chain.{chain}
use Rattle.oxii_defs.specs.Table as meant
use Rattle.txn_core.specs.declared.table.Table.{Table}
use Rattle.txn_core.specs.MeantTable.{table_of}
use Rattle.txn_core.specs.States.{state_of}
use Rattle.node_defs.specs.Admission.{pieces_of}
use Rattle.node_defs.specs.LawfulItems.{AreLawfulPieces}
use Rattle.node_defs.specs.Cutting.{AreAgreed, rejected_from}
use Rattle.node_defs.specs.Text.{text, IsTextOf}
use Rattle.node_defs.specs.World.{World, Setting, IsWorld, is_false, items_named, start}
use Rattle.node_defs.specs.Programs.{setting_of}
use Rattle.node_defs.specs.LawfulEvents.{IsLawfulEvent}
use Rattle.node_defs.specs.AgreedSettings.{IsAgreedSetting}
use Rattle.node_defs.proofs.Settings.{is_agreed_setting}
use Rattle.node_laws.proofs.Bodies.{lawful_pieces}
use Rattle.text_laws.proofs.Counts.{carry_the_stream}
use Rattle.world_laws.specs.Deliveries.{AreBursts, AreDeliveries}
use Rattle.world_laws.specs.Worlds.{CanTake, HasBursts, KeptWorld, setting_with}
use Rattle.input_doc.specs.Inputs.{Input}
use Rattle.input_doc.specs.LawfulInputs.{IsLawfulInput}
use Rattle.command_text.specs.Evident.{AreEvidenceLines, IsEvidenceText, IsShownOf}
use Rattle.command_text.specs.Traced.{IsTraceText, trace_lines}
use Rattle.command_text.specs.Commands.{IsRunText}
use Rattle.command_text.specs.AgreedBlocks.{AreAgreedBlocks}

-- THE SETTING

-- the setting of an input, over the chain of these bodies
abbrev pub setting_over : Input → List Body → Setting
setting_over input bodies = setting_of input.table (state_of input.genesis) input.items bodies input.faulty

setting_over_is : (input : Input) (bodies : List Body) → AreAgreed input.table input.limits input.items bodies →
    IsAgreedSetting input.table (state_of input.genesis) input.items input.limits input.faulty (setting_over input bodies)
setting_over_is input bodies agreed = is_agreed_setting input.table (state_of input.genesis) input.items input.limits input.faulty bodies agreed

-- BEFORE THE FIRST EVENT

pub pieces_lawful : (input : Input) (pieces : List (Option Piece)) → IsLawfulInput input → pieces ≡ pieces_of input.table input.items → AreLawfulPieces input.table pieces
pieces_lawful input pieces lawful are = subst (AreLawfulPieces input.table) (sym are) (lawful_pieces input.table input.items lawful.items)

pub few_txns : (input : Input) (blocks : List Block) → IsLawfulInput input → AreAgreedBlocks input.table input.limits input.items blocks → sum_by (λ b. length b.txns) blocks ≤ 4096
few_txns input blocks lawful agreed =
    let carried = (carry_the_stream input.table input.limits input.items agreed.bodies agreed.agreed).0 in
    omega (arith, lawful.txns, carried, ap (sum_by (λ (b : Block). length b.txns)) agreed.linked)

pub few_configs : (input : Input) (blocks : List Block) → IsLawfulInput input → AreAgreedBlocks input.table input.limits input.items blocks → count_by (λ b. is_some b.config) blocks ≤ 256
few_configs input blocks lawful agreed =
    let carried = (carry_the_stream input.table input.limits input.items agreed.bodies agreed.agreed).1 in
    omega (arith, lawful.configs, carried, ap (count_by (λ (b : Block). is_some b.config)) agreed.linked)

-- A LAWFUL SCHEDULE

pub can_take : (input : Input) (table : Table) (k : KeptWorld) (pieces : List (Option Piece)) (events : List Event) → table_of table ≡ input.table → IsLawfulInput input →
    k.table ≡ table → k.pieces ≡ pieces → pieces ≡ pieces_of input.table input.items → k.faulty ≡ input.faulty → k.idle ≡ 0 → k.falses ≡ 0 → k.items ≡ 0 → events ≡ input.schedule → CanTake k events
can_take input table k pieces events meant lawful table_is pieces_is pieces_are faulty_is no_idle no_false no_item same = record {
  each = λ genesis. subst (λ es. All (IsLawfulEvent (setting_with (table_of k.table) genesis [] k.pieces k.faulty)) es) (sym same)
      (subst (λ t. All (IsLawfulEvent (setting_with t genesis [] k.pieces k.faulty)) input.schedule) (sym (ap table_of table_is ∙ meant))
      (subst (λ ps. All (IsLawfulEvent (setting_with input.table genesis [] ps k.faulty)) input.schedule) (sym (pieces_is ∙ pieces_are))
      (subst (λ fs. All (IsLawfulEvent (setting_with input.table genesis [] (pieces_of input.table input.items) fs)) input.schedule) (sym faulty_is)
      (lawful.schedule genesis []).each)));
  falses = omega (arith, no_false, ap (count_by is_false) same, (lawful.schedule (state_of input.genesis) []).falses);
  items = omega (arith, no_item, ap (sum_by items_named) same, (lawful.schedule (state_of input.genesis) []).items);
  idle = let few = (lawful.schedule (state_of input.genesis) []).count in omega (arith, no_idle, ap length same, few);
}

-- THE TEXT

-- the text of a world over these blocks
IsTextOver : meant.Table → State → List Node → List Event → List ℕ → List Block → List (Option Piece) → List Rejected → Type 0
IsTextOver table genesis faulty events lines blocks pieces rejected =
    (w : World) × IsWorld (setting_with table genesis blocks pieces faulty) events w × (lines ≡ text (setting_with table genesis blocks pieces faulty) rejected w)

run_text_is : (input : Input) (items : List Item) (blocks : List Block) (pieces : List (Option Piece)) (rejected : List Rejected) (lines : List ℕ) (w : World) →
    items ≡ input.items → AreAgreedBlocks input.table input.limits items blocks → pieces ≡ pieces_of input.table items → rejected ≡ rejected_from input.table 0 items →
    IsWorld (setting_with input.table (state_of input.genesis) blocks pieces input.faulty) input.schedule w →
    lines ≡ text (setting_with input.table (state_of input.genesis) blocks pieces input.faulty) rejected w →
    IsTextOf input.table (state_of input.genesis) input.items input.limits input.faulty input.schedule lines
unfolding IsTextOver
run_text_is input items blocks pieces rejected lines w same agreed admitted told led printed =
    let over = IsTextOver input.table (state_of input.genesis) input.faulty input.schedule lines in
    let now : over blocks pieces rejected = (w, led, printed) in
    let ours = subst (λ (xs : List Item). AreAgreedBlocks input.table input.limits xs blocks) same agreed in
    let linked = subst (λ bs. over bs pieces rejected) ours.linked now in
    let carried = subst (λ ps. over (chain input.table ours.bodies) ps rejected) (admitted ∙ ap (pieces_of input.table) same) linked in
    let printed_so = subst (λ rs. over (chain input.table ours.bodies) (pieces_of input.table input.items) rs) (told ∙ ap (rejected_from input.table 0) same) carried in
    (setting_over input ours.bodies, setting_over_is input ours.bodies ours.agreed, printed_so)

-- the setting of the agreed blocks is that of their bodies
pub setting_is : (input : Input) (blocks : List Block) (pieces : List (Option Piece)) (agreed : AreAgreedBlocks input.table input.limits input.items blocks) → pieces ≡ pieces_of input.table input.items →
    setting_with input.table (state_of input.genesis) blocks pieces input.faulty ≡ setting_over input agreed.bodies
setting_is input blocks pieces agreed admitted =
    ap (λ bs. setting_with input.table (state_of input.genesis) bs pieces input.faulty) agreed.linked
    ∙ ap (λ ps. setting_with input.table (state_of input.genesis) (chain input.table agreed.bodies) ps input.faulty) admitted

-- what is traced of a world of the input's events
trace_is : (workers : ℕ) (traced : Bool) (input : Input) (blocks : List Block) (pieces : List (Option Piece)) (k : KeptWorld) →
    AreAgreedBlocks input.table input.limits input.items blocks → pieces ≡ pieces_of input.table input.items →
    HasBursts workers k (setting_with input.table (state_of input.genesis) blocks pieces input.faulty) input.schedule →
    IsTraceText traced workers input (trace_lines traced input.table k.bursts)
trace_is workers false input blocks pieces k agreed admitted has = refl
trace_is workers true input blocks pieces k agreed admitted has =
    let same = setting_is input blocks pieces agreed admitted in record {
      setting = setting_over input agreed.bodies;
      is = setting_over_is input agreed.bodies agreed.agreed;
      deliveries = has.0;
      are = subst (λ s. AreDeliveries s (start s) input.schedule has.0) same has.1;
      bursts = k.bursts;
      of_deliveries = subst (λ s. AreBursts s workers has.0 k.bursts) same has.2;
      printed = refl;
    }

-- what evidence prints of a world of the input's events
evidence_is : (evident : Bool) (input : Input) (blocks : List Block) (pieces : List (Option Piece)) (w : World) (shown : List ℕ) →
    AreAgreedBlocks input.table input.limits input.items blocks → pieces ≡ pieces_of input.table input.items →
    IsWorld (setting_with input.table (state_of input.genesis) blocks pieces input.faulty) input.schedule w →
    IsShownOf evident (setting_with input.table (state_of input.genesis) blocks pieces input.faulty) w shown →
    IsEvidenceText evident input shown
evidence_is false input blocks pieces w shown agreed admitted led are = are
evidence_is true input blocks pieces w shown agreed admitted led are =
    let same = setting_is input blocks pieces agreed admitted in record {
      setting = setting_over input agreed.bodies;
      is = setting_over_is input agreed.bodies agreed.agreed;
      world = w;
      led = subst (λ s. IsWorld s input.schedule w) same led;
      lines_are = subst (λ s. AreEvidenceLines s w shown) same are;
    }

-- the text of a world of the input's events, with its evidence and its trace
pub run_text_of : (workers : ℕ) (traced evident : Bool) (input : Input) (items : List Item) (blocks : List Block) (pieces : List (Option Piece)) (rejected : List Rejected) (lines : List ℕ) (w : World) (shown : List ℕ) (k : KeptWorld) →
    table_of k.table ≡ input.table → items ≡ input.items → AreAgreedBlocks input.table input.limits items blocks → pieces ≡ pieces_of input.table items → rejected ≡ rejected_from input.table 0 items →
    IsWorld (setting_with input.table (state_of input.genesis) blocks pieces input.faulty) input.schedule w →
    HasBursts workers k (setting_with input.table (state_of input.genesis) blocks pieces input.faulty) input.schedule →
    IsShownOf evident (setting_with input.table (state_of input.genesis) blocks pieces input.faulty) w shown →
    lines ≡ text (setting_with input.table (state_of input.genesis) blocks pieces input.faulty) rejected w ++ shown ++ trace_lines traced (table_of k.table) k.bursts →
    IsRunText workers traced evident input lines
run_text_of workers traced evident input items blocks pieces rejected lines w shown k table_is same agreed admitted told led has seen printed =
    let s = setting_with input.table (state_of input.genesis) blocks pieces input.faulty in
    let ours = subst (λ (xs : List Item). AreAgreedBlocks input.table input.limits xs blocks) same agreed in
    let carried = admitted ∙ ap (pieces_of input.table) same in record {
      text = text s rejected w;
      evidence = shown;
      trace = trace_lines traced input.table k.bursts;
      whole = printed ∙ ap (λ t. text s rejected w ++ shown ++ trace_lines traced t k.bursts) table_is;
      world = run_text_is input items blocks pieces rejected (text s rejected w) w same agreed admitted told led refl;
      seen = evidence_is evident input blocks pieces w shown ours carried led seen;
      bursts = trace_is workers traced input blocks pieces k ours carried has;
    }
