-- A world in its two parts.
use Rattle.world_laws.specs.Worlds.{KeptWorld}
use Rattle.schedule_run.specs.declared.basis.Basis.{Basis}
use Rattle.schedule_run.specs.declared.scene.Scene.{Scene}

-- the world of this basis and scene
abbrev pub world_of : Basis → Scene → KeptWorld
world_of b s = record { table = b.table.now; hashes = b.hashes; pieces = b.pieces; faulty = b.faulty; pool = s.pool; idle = s.idle; falses = s.falses; items = s.items; peers = s.peers.items; bursts = s.bursts }
