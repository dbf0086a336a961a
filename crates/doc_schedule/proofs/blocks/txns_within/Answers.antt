-- What the check of `txns_within` leaves to show.
use Rattle.std.proofs.Common.{◌≤◌, ◌+◌, arith}
use Rattle.doc_schedule.specs.Blocks.{next_txn}
use Rattle.doc_schedule.proofs.EndsMeant.{each_count}
use Rattle.doc_schedule.proofs.BlocksMeant.{Stands, txn_step}
use Rattle.doc_schedule.proofs.blocks.txns_within.Goals as goal

pub returns-clause-bound : goal.returns-clause-bound
returns-clause-bound c = each_count (next_txn c.args.roles.now _) (Stands c.args.roles.now _) (txn_step c.args.roles.now _) (λ n. c.args.total + n ≤ 16384) c.args.list.now c.new.result c.each.result c.new.ensures c.each.ensures
    (let a = c.if-total-gt16384.false in let b = c.if-list-total.false in omega (arith, a, b))

pub returns-clause-few : goal.returns-clause-few
returns-clause-few c = each_count (next_txn c.args.roles.now _) (Stands c.args.roles.now _) (txn_step c.args.roles.now _) (λ n. n ≤ 256) c.args.list.now c.new.result c.each.result c.new.ensures c.each.ensures c.requires
