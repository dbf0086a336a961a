-- A table may be read by several threads: each of its types that hold themselves is `Sync`, and so is all that holds them.
use denote.RattleType.{RattleType}
use denote.Hole.FixSend.{Syncs, fix_sync}
use denote.Param.Send.{IsSync, sendable}
use denote.Param.SendFields.{as_row_sync, variants_sync}
use denote.Struct.Field.{row_field, u8-field, u64-field}
use denote.Hole.{as_row}
use Rattle.txn_types.specs.contracts.name.Name as name
use Rattle.txn_types.proofs.name.Name.TheSendSync as name-sync
use Rattle.sqlite_items.specs.contracts.boxed.Boxed as boxed
use Rattle.sqlite_items.proofs.boxed.Boxed.TheSendSync as boxed-sync
use Rattle.sqlite_items.specs.contracts.items.Items as items
use Rattle.sqlite_items.proofs.items.Items.TheSendSync as items-sync
use Rattle.growing_list.proofs.growing.GrowingList.TheSendSync as growing-sync
use Rattle.txn_types.proofs.rising.RisingList.TheSendSync as rising-sync
use Rattle.txn_core.specs.contracts.syntax.Calc as calc
use Rattle.txn_core.proofs.syntax.Calc.TheSendSync as calc-sync
use Rattle.txn_core.specs.contracts.syntax.Cmp as cmp
use Rattle.txn_core.proofs.syntax.Cmp.TheSendSync as cmp-sync
use Rattle.txn_core.specs.contracts.syntax.Expr as expr
use Rattle.txn_core.specs.contracts.syntax.Expr.TheKnot as expr-knot
use Rattle.txn_core.specs.contracts.syntax.Cond as cond
use Rattle.txn_core.specs.contracts.syntax.Cond.TheKnot as cond-knot
use Rattle.txn_core.specs.contracts.syntax.Stmt as stmt
use Rattle.txn_core.specs.contracts.syntax.Stmt.TheKnot as stmt-knot
use Rattle.txn_core.proofs.syntax.Param.TheSendSync as param-sync
use Rattle.txn_core.specs.contracts.syntax.Op as op
use Rattle.txn_core.specs.contracts.table.App as app
use Rattle.txn_core.specs.contracts.table.Table as table

byte : IsSync u8-field.row
byte = search sendable

word : IsSync u64-field.row
word = search sendable

box_of : (R : RattleType) → IsSync R → IsSync (boxed.the_row R)
box_of R s = boxed-sync.the_sync R s

items_of : (R : RattleType) → IsSync R → IsSync (items.the_row R)
items_of R s = items-sync.the_sync R s

-- ---- an expression
boxed_in : (R : RattleType) → IsSync R → IsSync (as_row (row_field (boxed.the_row R)))
boxed_in R s = as_row_sync (row_field (boxed.the_row R)) (box_of R s)

expr_layer : (R : RattleType) → IsSync R → IsSync (expr-knot.layer-Expr R R)
expr_layer R s =
    let b = as_row_sync (row_field (as_row u8-field)) (as_row_sync u8-field byte) in
    variants_sync (expr-knot.type-Expr R R) (
      (as_row_sync (row_field (as_row u64-field)) (as_row_sync u64-field word), tt),
      ((b, tt), ((b, tt), ((b, tt), ((as_row_sync (row_field (as_row calc.the_field)) (as_row_sync calc.the_field calc-sync.the_field_sync), (boxed_in R s, (boxed_in R s, tt))), tt)))),
    )

expr_hole : IsSync expr.the_hole
expr_hole = fix_sync expr.the_ring (expr.by_members (Syncs expr.the_ring) (record { sync = λ h all. expr_layer (h expr.the_member) (all expr.the_member) })) expr.the_member

pub expr_sync : IsSync expr.the_row
expr_sync =
    let b = as_row_sync u8-field byte in
    variants_sync expr.enum (
      (as_row_sync u64-field word, tt),
      ((b, tt), ((b, tt), ((b, tt), ((as_row_sync calc.the_field calc-sync.the_field_sync, (boxed_in expr.the_hole expr_hole, (boxed_in expr.the_hole expr_hole, tt))), tt)))),
    )

-- ---- a condition
cond_layer : (R : RattleType) → IsSync R → IsSync (cond-knot.layer-Cond R R R R R)
cond_layer R s =
    let e = as_row_sync (row_field (as_row expr.the_field)) expr_sync in
    let b = boxed_in R s in
    variants_sync (cond-knot.type-Cond R R R R R) ((as_row_sync (row_field (as_row cmp.the_field)) (as_row_sync cmp.the_field cmp-sync.the_field_sync), (e, (e, tt))), ((b, (b, tt)), ((b, (b, tt)), ((b, tt), tt))))

cond_hole : IsSync cond.the_hole
cond_hole = fix_sync cond.the_ring (cond.by_members (Syncs cond.the_ring) (record { sync = λ h all. cond_layer (h cond.the_member) (all cond.the_member) })) cond.the_member

pub cond_sync : IsSync cond.the_row
cond_sync =
    let b = boxed_in cond.the_hole cond_hole in
    variants_sync cond.enum ((as_row_sync cmp.the_field cmp-sync.the_field_sync, (expr_sync, (expr_sync, tt))), ((b, (b, tt)), ((b, (b, tt)), ((b, tt), tt))))

-- ---- a statement
items_in : (R : RattleType) → IsSync R → IsSync (as_row (row_field (items.the_row R)))
items_in R s = as_row_sync (row_field (items.the_row R)) (items_of R s)

stmt_layer : (R : RattleType) → IsSync R → IsSync (stmt-knot.layer-Stmt R R R)
stmt_layer R s =
    let e = as_row_sync (row_field (as_row expr.the_field)) expr_sync in
    let c = as_row_sync (row_field (as_row cond.the_field)) cond_sync in
    let b = as_row_sync (row_field (as_row u8-field)) (as_row_sync u8-field byte) in
    let n = as_row_sync (row_field (as_row name.the_field)) name-sync.the_sync in
    let l = items_in R s in
    variants_sync (stmt-knot.type-Stmt R R R) ((b, (n, (e, tt))), ((b, (e, tt)), ((b, (e, tt)), ((c, tt), ((c, (l, (l, tt))), ((b, (l, tt)), tt))))))

stmt_hole : IsSync stmt.the_hole
stmt_hole = fix_sync stmt.the_ring (stmt.by_members (Syncs stmt.the_ring) (record { sync = λ h all. stmt_layer (h stmt.the_member) (all stmt.the_member) })) stmt.the_member

pub stmt_sync : IsSync stmt.the_row
stmt_sync =
    let b = as_row_sync u8-field byte in
    let l = items_in stmt.the_hole stmt_hole in
    variants_sync stmt.enum ((b, (name-sync.the_sync, (expr_sync, tt))), ((b, (expr_sync, tt)), ((b, (expr_sync, tt)), ((cond_sync, tt), ((cond_sync, (l, (l, tt))), ((b, (l, tt)), tt))))))

-- ---- what holds statements
pub op_sync : IsSync op.the_row
op_sync = search (sendable, growing-sync.the_sync, name-sync.the_sync, param-sync.the_sync, items_of, stmt_sync) depth 8

pub app_sync : IsSync app.the_row
app_sync = search (sendable, growing-sync.the_sync, name-sync.the_sync, rising-sync.the_sync, op_sync) depth 12

pub table_sync : IsSync table.the_row
table_sync = search (sendable, growing-sync.the_sync, name-sync.the_sync, app_sync) depth 12
