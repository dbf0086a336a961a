-- What the check of `push_marked` leaves to show.
use Rattle.std.proofs.Common.{◌≡◌, ◌++◌, ◌+◌, ◌-◌, ◌<◌, ◌∙◌, sym, ap, suc, length, append-nil, arith}
use Rattle.node_defs.specs.World.{count_from}
use Rattle.txn_core.specs.declared.table.Table.{Table}
use Rattle.txn_core.specs.MeantTable.{table_of}
use Rattle.world_laws.specs.Worlds.{peer_in}
use Rattle.command_text.specs.Marked.{marked_lines, slot_lines}
use Rattle.command_text.proofs.EvidenceLemmas.{marked_more}
use Rattle.command_text.proofs.evidence.push_marked.Goals as goal

pub loop-number-preserved : goal.loop-number-preserved
loop-number-preserved c =
    let i = c.loop-number.number in
    let world = c.args.world.now in
    let n = length world.table.peers in
    let table = c.table-table.ensures.kept in
    let below : i < n = omega (arith, c.loop-number-test.true, ap length c.as_slice.ensures, ap (λ (t : Table). length t.peers) table) in
    let one : n - i ≡ suc (n - (i + 1)) = omega (arith, below) in
    let next : suc i ≡ i + 1 = omega arith in
    let pushed = c.in_ok-push_slot.ensures ∙ ap (λ (t : Table). c.loop-number.text ++ slot_lines (table_of t) i (peer_in c.peer.result)) table in
    marked_more (table_of world.table) world.peers i (n - (i + 1)) (peer_in c.peer.result) c.loop-number.text c.push_slot.new.text _ c.peer.ensures.kept pushed
    (c.loop-number.invariant ∙ ap (λ k. c.loop-number.text ++ marked_lines (table_of world.table) world.peers (count_from i k)) one)
    ∙ ap (λ k. c.push_slot.new.text ++ marked_lines (table_of world.table) world.peers (count_from k (n - (i + 1)))) next

pub returns : goal.returns
returns c =
    let i = c.loop-number.number in
    let world = c.args.world.now in
    let n = length world.table.peers in
    let none : n - i ≡ 0 = omega (arith, c.loop-number-test.false, ap length c.as_slice.ensures, ap (λ (t : Table). length t.peers) c.table-table.ensures.kept) in
    sym (c.loop-number.invariant ∙ ap (λ k. c.loop-number.text ++ marked_lines (table_of world.table) world.peers (count_from i k)) none ∙ append-nil c.loop-number.text)
