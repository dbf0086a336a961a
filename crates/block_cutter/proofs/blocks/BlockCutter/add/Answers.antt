-- What the check of `BlockCutter::add` leaves to show.
use Rattle.txn_core.specs.MeantTable.{table_of}
use Rattle.block_cutter.specs.Standing.{block_of}
use Rattle.std.proofs.Common.{[], ◌++◌, arith}
use Rattle.block_cutter.proofs.StandLemmas.{closed_full, moved}
use Rattle.block_cutter.proofs.blocks.BlockCutter.add.Goals as goal

pub returns-in_ok-close-clause-stands : goal.returns-in_ok-close-clause-stands
returns-in_ok-close-clause-stands c = λ all marked left s.
    let T = table_of c.args.table.now in
    let L = c.args.limits.now in
    let now = c.push.new.self in
    let shut = c.close.new.self in
    moved T L c.requires.limits all left marked (now.bodies ++ block_of now.current.txns) shut.bodies [] shut.current.txns 0 shut.current.bytes
    c.in_ok-close.ensures.bodies c.in_ok-close.ensures.txns c.in_ok-close.ensures.bytes
    (closed_full T L c.requires.limits all left marked now.bodies now.current.txns now.current.bytes (c.in_ok-push.ensures.stands all marked left s)
    (omega (arith, c.if-len-limits.true, c.len.ensures)) marked)
