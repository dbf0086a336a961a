-- The body of the operation of the serial rows, and their calls are lawful.
use Rattle.std.proofs.Common.{◌≡◌, ℕ, ◌≤◌, [], ◌∷◌, refl, sym, subst, arith}
use Rattle.std.specs.List.{All}
use Rattle.std.proofs.lemmas.List.Elements.{All-cons, All-nil}
use Rattle.txn_types.specs.declared.txn.Txn.{Txn}
use Rattle.txn_types.specs.Values.{max_value}
use Rattle.oxii_defs.specs.Syntax.{Then, SetRec, Param, Done}
use Rattle.oxii_defs.specs.Table.{Table}
use Rattle.oxii_defs.specs.Lawful.{IsLawfulTxn}
use Rattle.txn_core.specs.declared.syntax.Expr.TheVariants as expr
use Rattle.txn_core.specs.declared.syntax.Stmt.TheVariants as stmt
use Rattle.txn_core.specs.Meant.{expr_of, stmt_of, stmts_of}
use Rattle.txn_rows.specs.SetTable.{set_op, set_table, set_txn}

pub set_body : stmts_of (stmt.SetRec 0 (expr.Param 1) ∷ []) ≡ Then (SetRec 0 (Param 1)) Done
unfolding stmt_of expr_of
set_body = refl

all_one : {X : Type 0} (P : X → Type 0) (x : X) → P x → All P (x ∷ [])
all_one P x p = All-cons P x [] p (All-nil P)

set_txn_lawful : (n : ℕ) → n ≤ max_value → IsLawfulTxn set_table (set_txn n)
set_txn_lawful n le = record { op = set_op; named = refl; matched = (refl, (refl, le, tt)); args = (omega arith, (tt, tt)); reads = tt; writes = (omega arith, tt) }

-- the calls of the row
pub txns_lawful : (table : Table) → table ≡ set_table → (x y z : Txn) → x ≡ set_txn 1 → y ≡ set_txn 9 → z ≡ set_txn 3 → All (IsLawfulTxn table) (x ∷ y ∷ z ∷ [])
txns_lawful table is x y z p q r =
    let IsLawful : Txn → Type 0 = IsLawfulTxn table in
    let lawful : (n : ℕ) → n ≤ max_value → IsLawful (set_txn n) = λ n le. subst (λ t. IsLawfulTxn t (set_txn n)) (sym is) (set_txn_lawful n le) in
    let one = subst IsLawful (sym p) (lawful 1 (omega arith)) in
    let two = subst IsLawful (sym q) (lawful 9 (omega arith)) in
    let three = subst IsLawful (sym r) (lawful 3 (omega arith)) in
    All-cons IsLawful x (y ∷ z ∷ []) one (All-cons IsLawful y (z ∷ []) two (all_one IsLawful z three))
