-- Agents and thresholds in force.
use Rattle.std.specs.Prelude.{ℕ, ◌≡◌, ◌<◌, List, [], length, map, slice_set}
use Rattle.std.specs.List.{All, slice_index_or}
use Rattle.txn_types.specs.declared.block.Config.{Config}
use Rattle.oxii_defs.specs.Table.{Table, App}
use Rattle.node_defs.specs.Rules.{Rules}
use Rattle.peer_parts.specs.declared.force.Seats.{Seats}

-- each asks for a vote
abbrev pub AreCounted : List Seats → Type 0
AreCounted seats = All (λ s. 0 < s.tau) seats

abbrev pub seats_of : App → Seats
seats_of app = record { agents = app.agents; tau = app.tau }

-- what a table says
abbrev pub force_in : Table → List Seats
force_in table = map seats_of table.apps

-- what a configuration makes of it
abbrev pub changed_force : List Seats → Config → List Seats
changed_force force c = slice_set force c.app (record { agents = c.agents; tau = c.tau })

-- the agents and thresholds of these rules, for as many applications as there are
pub record IsForce (r : Rules) (force : List Seats) : Type 0 where
  pub agents : (app : ℕ) → app < length force → slice_index_or (map (λ s. s.agents) force) app [] ≡ r.agents app
  pub tau : (app : ℕ) → app < length force → slice_index_or (map (λ s. s.tau) force) app 0 ≡ r.tau app
