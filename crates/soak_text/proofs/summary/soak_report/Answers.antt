-- What the check of `soak_report` leaves to show.
use Rattle.std.proofs.Common.{◌≡◌, ◌≤◌, ℕ, List, ◌++◌, length, get_or, Some, None, sym, ap, subst, ◌∙◌}
use Rattle.std.specs.Prelude.{IfSome}
use Rattle.std.specs.List.{All, sum}
use Rattle.txn_types.specs.declared.block.Block.{Block}
use Rattle.txn_core.specs.declared.table.Table.{Table}
use Rattle.txn_core.specs.MeantTable.{table_of}
use Rattle.txn_core.specs.States.{state_of}
use Rattle.hash_ledger.specs.Ledgers.{IsLawfulEntry}
use Rattle.node_defs.specs.Programs.{rules_of, setting_of}
use Rattle.node_defs.specs.World.{log_of}
use Rattle.node_defs.proofs.Settings.{is_agreed_setting}
use Rattle.world_laws.specs.Shown.{IsPeerFor}
use Rattle.world_laws.specs.Worlds.{peer_in}
use Rattle.soak_text.specs.Summary.{tip_line}
use Rattle.soak_text.proofs.Premises.{blocks_few, first_there}
use Rattle.soak_text.proofs.Whole.{summary_is}
use Rattle.soak_text.proofs.summary.soak_report.Goals as goal

pub push_chain-requires : goal.push_chain-requires
push_chain-requires c =
    subst (λ (blocks : List Block). All (λ b. length b.txns ≤ 256) blocks) (sym c.as_slice.ensures) (blocks_few c.args.seed c.args.txns c.args.world.now c.args.blocks.now c.requires.world)

pub tip-requires : goal.tip-requires
tip-requires c =
    let same : c.unwrap-peer.result.now.table ≡ c.table-table.result.now = subst (λ o. IfSome o (λ p. p.now.table ≡ c.args.world.now.table)) c.unwrap-peer.ensures c.peer.ensures.table ∙ sym c.table-table.ensures.kept in
    subst (λ (t : Table). All (IsLawfulEntry (table_of t)) c.ledger-2.result.now) same c.ledger-2.ensures.entries

pub returns : goal.returns
returns c =
    let k = c.args.world.now in
    let w = c.requires.world in
    let genesis = state_of w.input.genesis in
    let s = setting_of w.input.table genesis w.input.items w.bodies w.input.faulty in
    let v = w.stands.world in
    let p = c.unwrap-peer.result.now in
    let table = c.table-table.result.now in
    let kept = c.table-table.ensures.kept in
    let slot : get_or k.peers 0 None ≡ Some p = sym c.peer.ensures.kept ∙ ap peer_in c.unwrap-peer.ensures in
    let alive = subst (IsPeerFor k.table genesis s 0 (log_of v 0)) slot (w.stands.shown.each 0 (first_there c.args.seed c.args.txns k c.args.blocks.now w)) in
    record {
      input = w.input;
      made = w.made;
      setting = s;
      is = is_agreed_setting w.input.table genesis w.input.items w.input.limits w.input.faulty w.bodies w.agreed;
      world = v;
      played = w.stands.is;
      printed =
          summary_is s v c.args.seed c.args.txns table genesis p c.as_slice.result.now c.ledger.result.now c.ledger-2.result.now c.state.result.now c.total.result c.from.result _ _ _ _ _ _ _
          (w.stands.shown.rules_are ∙ ap (λ (t : Table). rules_of (table_of t) genesis) (sym kept)) (sym (c.as_slice.ensures ∙ w.blocks_are))
          (record {
            table_is = alive.table_is ∙ sym kept;
            me_is = alive.me_is;
            first_is = c.ledger.ensures.blocks genesis (log_of v 0) alive.stands;
            second_is = c.ledger-2.ensures.blocks genesis (log_of v 0) alive.stands;
            state_is = c.state.ensures.state genesis (log_of v 0) alive.stands;
            values_are = c.state.ensures.values;
          })
          (c.total.ensures ∙ ap sum c.as_slice-2.ensures.items) (c.from.ensures ∙ c.messages.ensures.kept ∙ ap length w.stands.shown.pool_is)
          c.new-text.ensures c.in_ok-push_options.ensures c.in_ok-push_chain.ensures c.in_ok-push_ledger.ensures c.in_ok-push_count.ensures c.in_ok-push_count-2.ensures
          (c.in_ok-push_tip.ensures ∙ ap (λ (hash : List ℕ). c.push_count-2.new.text ++ tip_line hash) (c.tip.ensures genesis));
    }
