-- What each turn of the loops of `push_parts` keeps.
use Rattle.std.proofs.Common.{◌≡◌, ◌++◌, ◌-◌, length}
use Rattle.oxii_defs.specs.State.{State}
use Rattle.node_defs.specs.World as meant
use Rattle.node_defs.specs.World.{Setting, count_from, peers_of}
use Rattle.node_defs.specs.Text.{parts_of}
use Rattle.world_laws.specs.Shown.{IsShown}
use Rattle.command_text.proofs.world_text.push_parts.Given as goal

-- what is there and the parts of the peers to come are all
abbrev pub invariant-loop-number : goal.invariant-loop-number
invariant-loop-number l = (genesis : State) (s : Setting) (v : meant.World) → IsShown l.initial.world.table l.initial.world.pool l.initial.world.idle l.initial.world.peers genesis s v
    → l.initial.text ++ parts_of s v (count_from 0 (peers_of s)) ≡ l.text ++ parts_of s v (count_from l.number (length l.initial.world.table.peers - l.number))
