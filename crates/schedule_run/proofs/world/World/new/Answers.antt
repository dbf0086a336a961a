-- What the check of `World::new` leaves to show.
use Rattle.std.specs.Prelude.{[]}
use Rattle.std.proofs.Common.{sym, subst}
use Rattle.txn_core.specs.MeantTable.{table_of}
use Rattle.txn_core.specs.States.{state_of}
use Rattle.world_laws.specs.Worlds.{HasBursts, IsWellKept, IsWorldOf, setting_with}
use Rattle.world_laws.proofs.Started.{as_started, no_bursts, well_started, world_started}
use Rattle.schedule_run.proofs.world.World.new.Goals as goal

pub invariant_of-result : goal.invariant_of-result
invariant_of-result c =
    let a = c.args in
    let t = a.table.now in
    let peers = c.in_ok-peers.peers.items in
    subst IsWellKept (sym (as_started t a.blocks.now a.admitted.now c.in_ok-pieces.pieces a.faulty.now c.copy.result c.in_ok-hashes.hashes c.in_ok-pool.pool peers c.new.result
    c.in_ok-hashes.ensures c.in_ok-pieces.ensures c.copy.ensures c.in_ok-pool.ensures c.new.ensures))
    (well_started t (state_of a.genesis.now) a.blocks.now a.admitted.now a.faulty.now peers c.requires.table c.requires.blocks c.requires.admitted c.requires.txns c.requires.configs c.in_ok-peers.ensures)

pub returns-clause-stands : goal.returns-clause-stands
returns-clause-stands c =
    let a = c.args in
    let t = a.table.now in
    let genesis = state_of a.genesis.now in
    let peers = c.in_ok-peers.peers.items in
    subst (λ k. IsWorldOf k genesis (setting_with (table_of t) genesis a.blocks.now a.admitted.now a.faulty.now) [])
    (sym (as_started t a.blocks.now a.admitted.now c.in_ok-pieces.pieces a.faulty.now c.copy.result c.in_ok-hashes.hashes c.in_ok-pool.pool peers c.new.result
    c.in_ok-hashes.ensures c.in_ok-pieces.ensures c.copy.ensures c.in_ok-pool.ensures c.new.ensures))
    (world_started t genesis a.blocks.now a.admitted.now a.faulty.now peers c.in_ok-peers.ensures)

pub returns-clause-bursts : goal.returns-clause-bursts
returns-clause-bursts c =
    let a = c.args in
    let t = a.table.now in
    let peers = c.in_ok-peers.peers.items in
    λ n s. subst (λ k. HasBursts n k s [])
    (sym (as_started t a.blocks.now a.admitted.now c.in_ok-pieces.pieces a.faulty.now c.copy.result c.in_ok-hashes.hashes c.in_ok-pool.pool peers c.new.result
    c.in_ok-hashes.ensures c.in_ok-pieces.ensures c.copy.ensures c.in_ok-pool.ensures c.new.ensures))
    (no_bursts t a.blocks.now a.admitted.now a.faulty.now peers n s)
