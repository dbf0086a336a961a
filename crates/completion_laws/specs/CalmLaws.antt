-- The laws of calm inputs.
use Rattle.std.specs.List.{All}
use Rattle.std.specs.Prelude.{ℕ, ◌<◌, ◌≤◌, take, ◌≡◌, ◌++◌, ◌∷◌, false, List, length}
use Rattle.txn_types.specs.declared.block.Body.{Body}
use Rattle.txn_types.specs.declared.event.Event.TheVariants as event
use Rattle.txn_types.specs.declared.event.Event.{Event}
use Rattle.txn_types.specs.declared.message.Node.TheVariants.{Peer}
use Rattle.txn_types.specs.declared.message.Node.{Node}
use Rattle.txn_types.specs.declared.stream.Item.{Item}
use Rattle.oxii_defs.specs.Lawful.{IsLawfulBody, IsLawfulTable}
use Rattle.oxii_defs.specs.SerialPart.{serial_part}
use Rattle.oxii_defs.specs.State.{IsState, State}
use Rattle.oxii_defs.specs.Table.{Table}
use Rattle.node_defs.specs.LawfulEvents.{IsSaidByFaulty}
use Rattle.node_defs.specs.Programs.{setting_of}
use Rattle.node_defs.specs.Tame.{IsTame}
use Rattle.node_defs.specs.Text.{part_of}
use Rattle.node_defs.specs.World.{IsWorld, Setting, World, completed_count, is_faulty, log_of, peers_of}
use Rattle.completion_laws.specs.Calm.{IsCalm}
use Rattle.completion_laws.specs.Completion.{HasAll}
use Rattle.completion_laws.specs.Staffed.{IsWellStaffed}

-- the law of completion, of calm inputs: however many nodes are faulty and silent
abbrev pub CalmCompletion : Type 0
CalmCompletion = (table : Table) (genesis : State) (items : List Item) (bodies : List Body) (faulty : List Node) (before after : List Event) (w : World) (p : ℕ) →
    let s = setting_of table genesis items bodies faulty in
    IsLawfulTable table → IsState genesis → All (λ body. IsLawfulBody table body.txns body.config) bodies →
    IsCalm s (before ++ event.All ∷ after) → IsWellStaffed s → All (IsSaidByFaulty s) (before ++ event.All ∷ after) → IsWorld s (before ++ event.All ∷ after) w →
    p < peers_of s → is_faulty s (Peer p) ≡ false → HasAll s w p

-- the serial part of the agreement law, of calm inputs: the lines of each peer are those of the serial run of its completed blocks
abbrev pub CalmSerialPart : Type 0
CalmSerialPart = (table : Table) (genesis : State) (items : List Item) (bodies : List Body) (faulty : List Node) (events : List Event) (w : World) (p : ℕ) →
    let s = setting_of table genesis items bodies faulty in
    IsCalm s events → All (IsSaidByFaulty s) events → IsWorld s events w →
    (completed_count s w p ≤ length s.chain)
    × (part_of s p (log_of w p) ≡ serial_part table genesis p (take (completed_count s w p) s.chain))

-- a tame input is calm, where faulty nodes alone say what they like
abbrev pub TameIsCalm : Type 0
TameIsCalm = (s : Setting) (events : List Event) → All (IsSaidByFaulty s) events → IsTame s → IsCalm s events
