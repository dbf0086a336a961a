-- Where an input is tame, its text is that of serial runs.
use Rattle.std.specs.Prelude.{ℕ, ◌≡◌, ◌≤◌, ◌<◌, ◌++◌, false, not, List, filter, length, take}
use Rattle.std.specs.List.{flat_map}
use Rattle.txn_types.specs.declared.block.Body.{Body}
use Rattle.txn_types.specs.declared.stream.CutLimits.{CutLimits}
use Rattle.txn_types.specs.declared.stream.Item.{Item}
use Rattle.txn_types.specs.declared.message.Node.{Node}
use Rattle.txn_types.specs.declared.message.Node.TheVariants.{Peer}
use Rattle.txn_types.specs.declared.event.Event.{Event}
use Rattle.oxii_defs.specs.State.{State}
use Rattle.oxii_defs.specs.Table.{Table}
use Rattle.oxii_defs.specs.Chain.{chain}
use Rattle.oxii_defs.specs.Lines.{blocks_line, tail_lines}
use Rattle.oxii_defs.specs.SerialRuns.{IsSerialPart}
use Rattle.node_defs.specs.Cutting.{AreAgreed, rejected_from}
use Rattle.node_defs.specs.Tame.{IsTame}
use Rattle.node_defs.specs.Text.{rejected_line}
use Rattle.node_defs.specs.World.{World, Setting, IsWorld, count_from, completed_count}
use Rattle.node_defs.specs.AgreedSettings.{IsAgreedSetting}
use Rattle.node_laws.specs.Named.{is_named}

-- few enough nodes are faulty, at each block that orderers agree on
abbrev pub IsTameInput : Table → State → List Item → CutLimits → List Node → Type 0
IsTameInput table genesis items limits faulty = (s : Setting) → IsAgreedSetting table genesis items limits faulty s → IsTame s

-- the peers of a table that aren't named faulty, in table order
abbrev pub honest_peers : Table → List Node → List ℕ
honest_peers table faulty = filter (λ p. not (is_named faulty (Peer p))) (count_from 0 (length table.peers))

-- the part of each peer that isn't named faulty is that of the serial run of so many first blocks of the chain, whatever the schedule
pub record IsSerialText (table : Table) (genesis : State) (items : List Item) (limits : CutLimits) (faulty : List Node) (completed : ℕ → ℕ) (lines : List ℕ) : Type 0 where
  pub bodies : List Body
  pub agreed : AreAgreed table limits items bodies
  pub few : (p : ℕ) → p < length table.peers → is_named faulty (Peer p) ≡ false → completed p ≤ length (chain table bodies)
  pub part : ℕ → List ℕ
  pub serial : (p : ℕ) → p < length table.peers → is_named faulty (Peer p) ≡ false → IsSerialPart table genesis p (take (completed p) (chain table bodies)) (part p)
  pub messages : ℕ
  pub idle : ℕ
  pub are : lines ≡ flat_map rejected_line (rejected_from table 0 items) ++ blocks_line (length (chain table bodies)) ++ flat_map part (honest_peers table faulty) ++ tail_lines messages idle

-- so many blocks each peer holds quorums for, by its log: those that it completed in the world of the events
pub record AreCompleted (table : Table) (genesis : State) (items : List Item) (limits : CutLimits) (faulty : List Node) (events : List Event) (completed : ℕ → ℕ) : Type 0 where
  pub setting : Setting
  pub is : IsAgreedSetting table genesis items limits faulty setting
  pub world : World
  pub led : IsWorld setting events world
  pub counts : (p : ℕ) → completed p ≡ completed_count setting world p

-- the text is one of serial runs, of as many blocks as the peers completed
abbrev pub HasSerialText : Table → State → List Item → CutLimits → List Node → List Event → List ℕ → Type 0
HasSerialText table genesis items limits faulty events lines =
    (completed : ℕ → ℕ) × AreCompleted table genesis items limits faulty events completed × IsSerialText table genesis items limits faulty completed lines
