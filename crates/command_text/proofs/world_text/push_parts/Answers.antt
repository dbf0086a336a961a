-- What the check of `push_parts` leaves to show.
use Rattle.std.proofs.Common.{◌≡◌, ◌++◌, ◌+◌, ◌-◌, ◌<◌, ◌∙◌, sym, ap, subst, suc, length, append-nil, arith}
use Rattle.node_defs.specs.Programs.{rules_of}
use Rattle.node_defs.specs.World.{count_from, log_of}
use Rattle.node_defs.specs.Text.{parts_of}
use Rattle.txn_core.specs.declared.table.Table.{Table}
use Rattle.txn_core.specs.MeantTable.{table_of}
use Rattle.world_laws.specs.Shown.{IsPeerFor}
use Rattle.world_laws.specs.Worlds.{peer_in}
use Rattle.command_text.proofs.WorldTextLemmas.{parts_more}
use Rattle.command_text.proofs.world_text.push_parts.Goals as goal

pub loop-number-preserved : goal.loop-number-preserved
loop-number-preserved c = λ genesis s v shown.
    let i = c.loop-number.number in
    let n = length c.args.world.now.table.peers in
    let table = c.table-table.ensures.kept in
    let below : i < n = omega (arith, c.loop-number-test.true, ap length c.as_slice.ensures, ap (λ (t : Table). length t.peers) table) in
    let one : n - i ≡ suc (n - (i + 1)) = omega (arith, below) in
    let next : suc i ≡ i + 1 = omega arith in
    let rules = shown.rules_are ∙ ap (λ (t : Table). rules_of (table_of t) genesis) (sym table) in
    let here = subst (λ slot. IsPeerFor c.args.world.now.table genesis s i (log_of v i) slot) (sym c.peer.ensures.kept) (shown.each i below) in
    let seated = subst (λ (t : Table). IsPeerFor t genesis s i (log_of v i) (peer_in c.peer.result)) (sym table) here in
    parts_more s v i (n - (i + 1)) c.loop-number.text c.push_slot.new.text _ (c.in_ok-push_slot.ensures genesis s (log_of v i) rules seated)
    (c.loop-number.invariant genesis s v shown ∙ ap (λ k. c.loop-number.text ++ parts_of s v (count_from i k)) one)
    ∙ ap (λ k. c.push_slot.new.text ++ parts_of s v (count_from k (n - (i + 1)))) next

pub returns : goal.returns
returns c = λ genesis s v shown.
    let i = c.loop-number.number in
    let n = length c.args.world.now.table.peers in
    let none : n - i ≡ 0 = omega (arith, c.loop-number-test.false, ap length c.as_slice.ensures, ap (λ (t : Table). length t.peers) c.table-table.ensures.kept) in
    sym (c.loop-number.invariant genesis s v shown ∙ ap (λ k. c.loop-number.text ++ parts_of s v (count_from i k)) none ∙ append-nil c.loop-number.text)
