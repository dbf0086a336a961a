-- A text of a tame input is one of serial runs.
use Rattle.std.specs.Prelude.{ℕ, ◌≡◌, ◌≤◌, ◌++◌, Bool, true, false, not, cond, if◌then◌else◌, List, [], ◌∷◌, filter, length, take}
use Rattle.std.proofs.Common.{refl, ap, subst, ◌∙◌}
use Rattle.std.specs.List.{flat_map}
use Rattle.txn_types.specs.declared.message.Node.TheVariants.{Peer}
use Rattle.txn_types.specs.declared.event.Event.{Event}
use Rattle.txn_types.specs.declared.stream.Item.{Item}
use Rattle.txn_types.specs.declared.stream.CutLimits.{CutLimits}
use Rattle.txn_types.specs.declared.block.Body.{Body}
use Rattle.txn_types.specs.declared.message.Node.{Node}
use Rattle.oxii_defs.specs.State.{State}
use Rattle.node_defs.specs.Cutting.{AreAgreed}
use Rattle.text_laws.specs.SerialText.{HasSerialText}
use Rattle.oxii_defs.specs.Table.{Table}
use Rattle.oxii_defs.specs.Chain.{chain}
use Rattle.oxii_defs.specs.Lines.{blocks_line, tail_lines}
use Rattle.oxii_defs.specs.SerialPart.{serial_part}
use Rattle.oxii_defs.proofs.Serially.{serial_parts}
use Rattle.node_defs.specs.Cutting.{rejected_from}
use Rattle.node_defs.specs.Text.{IsTextOf, rejected_line, parts_of, part_of, text}
use Rattle.node_defs.specs.World.{World, Setting, IsWorld, is_faulty, log_of, count_from, completed_count}
use Rattle.node_defs.specs.Programs.{setting_of}
use Rattle.node_defs.proofs.Settings.{agreed_setting_is, is_agreed_setting}
use Rattle.node_laws.proofs.SerialPart.{serial_part_law}
use Rattle.text_laws.specs.Laws.{TameTextsAreSerial}

-- the parts of a world are those of the peers that aren't faulty
pub parts_are : (s : Setting) (w : World) (part : ℕ → List ℕ) (peers : List ℕ) → ((p : ℕ) → part_of s p (log_of w p) ≡ part p) → parts_of s w peers ≡ flat_map part (filter (λ p. not (is_faulty s (Peer p))) peers)
parts_are s w part [] each = refl
parts_are s w part (p ∷ rest) each = one (is_faulty s (Peer p)) (parts_are s w part rest each)
  where
    one : (b : Bool) → parts_of s w rest ≡ flat_map part (filter (λ q. not (is_faulty s (Peer q))) rest) → (if b then [] else part_of s p (log_of w p)) ++ parts_of s w rest ≡ flat_map part (cond (not b) (p ∷ filter (λ q. not (is_faulty s (Peer q))) rest) (filter (λ q. not (is_faulty s (Peer q))) rest))
    one true more = more
    one false more = ap (λ xs. xs ++ parts_of s w rest) (each p) ∙ ap (λ xs. part p ++ xs) more

-- what a world of the events and its text are in a setting
abbrev pub IsTextIn : Table → List Item → List Event → List ℕ → Setting → Type 0
IsTextIn table items events lines s = (w : World) × IsWorld s events w × (lines ≡ text s (rejected_from table 0 items) w)

-- where the part of each peer in a world is that of the serial run of the blocks that it completed, a text is one of serial runs
pub serial_texts : (table : Table) (genesis : State) (items : List Item) (limits : CutLimits) (faulty : List Node) (events : List Event) (lines : List ℕ) →
    ((bodies : List Body) → AreAgreed table limits items bodies → (w : World) → IsWorld (setting_of table genesis items bodies faulty) events w → (p : ℕ) →
    let s = setting_of table genesis items bodies faulty in
    (completed_count s w p ≤ length s.chain) × (part_of s p (log_of w p) ≡ serial_part table genesis p (take (completed_count s w p) s.chain))) →
    IsTextOf table genesis items limits faulty events lines →
    HasSerialText table genesis items limits faulty events lines
serial_texts table genesis items limits faulty events lines parts (given, is, printed) =
    let bodies = is.bodies in
    let s = setting_of table genesis items bodies faulty in
    let ours = is_agreed_setting table genesis items limits faulty bodies is.agreed in
    let shown = subst (IsTextIn table items events lines) (agreed_setting_is table genesis items limits faulty given is) printed in
    let w = shown.0 in
    let law = parts bodies is.agreed w shown.1 in
    let part : ℕ → List ℕ = λ p. serial_part table genesis p (take (completed_count s w p) (chain table bodies)) in (
      (λ p. completed_count s w p),
      record { setting = s; is = ours; world = w; led = shown.1; counts = λ p. refl },
      record {
        bodies = bodies;
        agreed = is.agreed;
        few = λ p l h. (law p).0;
        part = part;
        serial = λ p l h. (serial_parts table genesis p (take (completed_count s w p) (chain table bodies)) (part p)).1 refl;
        messages = length w.pool;
        idle = w.idle;
        are = shown.2 ∙ ap (λ xs. flat_map rejected_line (rejected_from table 0 items) ++ blocks_line (length (chain table bodies)) ++ xs ++ tail_lines (length w.pool) w.idle) (parts_are s w part (count_from 0 (length table.peers)) (λ p. (law p).1));
      },
    )

pub tame_texts : TameTextsAreSerial
tame_texts table genesis items limits faulty events lines tame said printed =
    serial_texts table genesis items limits faulty events lines
    (λ bodies agreed w led p. serial_part_law table genesis items bodies faulty events w p (tame (setting_of table genesis items bodies faulty) (is_agreed_setting table genesis items limits faulty bodies agreed)) (said bodies) led)
    printed
