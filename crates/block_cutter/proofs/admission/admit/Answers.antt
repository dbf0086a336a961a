-- What the check of `admit` leaves to show.
use Rattle.std.proofs.Common.{◌≡◌, length, Some, Result, IfOk, arith, sym, ap, subst}
use Rattle.std.proofs.lemmas.List.{length-map}
use Rattle.txn_types.specs.declared.txn.Txn.{Txn}
use Rattle.txn_types.specs.declared.stream.Reject.{Reject}
use Rattle.oxii_defs.specs.Lawful.{IsLawfulTxn}
use Rattle.node_defs.specs.Admission.{admit, first_named}
use Rattle.node_defs.proofs.Admitted.{admit_lawful}
use Rattle.txn_core.specs.Meant.{op_of, formal_of}
use Rattle.txn_core.specs.MeantTable.{app_of, table_of}
use Rattle.block_cutter.proofs.AdmitLemmas.{found_app, found_op}
use Rattle.block_cutter.proofs.admission.admit.Goals as goal

pub op_from-requires : goal.op_from-requires
op_from-requires c =
    let table = table_of c.args.table.now in
    let app = c.in-Some.app.now in
    let found : first_named (λ a. a.name) c.args.request.now.app 0 table.apps ≡ Some (c.in-Some.app_number, app_of app) = grind (arith) in
    let lawful = found_app table c.args.request.now.app c.in-Some.app_number (app_of app) c.requires.table found in
    omega (arith, lawful.ops.1, length-map app.ops op_of, ap length c.as_slice-2.ensures)

pub call-requires-clause-params : goal.call-requires-clause-params
call-requires-clause-params c =
    let table = table_of c.args.table.now in
    let app = c.in-Some.app.now in
    let op = c.in-Some-op_from.op.now in
    let found : first_named (λ a. a.name) c.args.request.now.app 0 table.apps ≡ Some (c.in-Some.app_number, app_of app) = grind (arith) in
    let found_too : first_named (λ o. o.name) c.args.request.now.op 0 (app_of app).ops ≡ Some (c.in-Some-op_from.op_number, op_of op) = grind (arith) in
    let lawful = found_app table c.args.request.now.app c.in-Some.app_number (app_of app) c.requires.table found in
    let well = found_op table c.args.request.now.op c.in-Some-op_from.op_number (app_of app) (op_of op) lawful found_too in
    omega (arith, well.count, length-map op.params formal_of)

pub returns-clause-lawful : goal.returns-clause-lawful
returns-clause-lawful c =
    let table = table_of c.args.table.now in
    let q = c.args.request.now in
    let is : c.call.result ≡ admit table q = grind (arith) in
    subst (λ (r : Result Txn Reject). IfOk r (IsLawfulTxn table)) (sym is) (admit_lawful table q c.requires.request)
