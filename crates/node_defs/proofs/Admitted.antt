-- What is found by name stands in the table, and what is admitted is a lawful transaction.
use Rattle.std.specs.Prelude.{ℕ, suc, ◌+◌, ◌==◌, Bool, true, false, ◌&&◌, not, cond, List, [], ◌∷◌, length, Option, Some, None, Ok, Err, IfOk, option_and_then, slice_get, ◌≡◌, refl, nat_le}
use Rattle.std.specs.List.{All, AllByRecursion, list_any}
use Rattle.std.proofs.Common.{◌∙◌, ap, arith, subst}
use Rattle.std.proofs.lemmas.Bool.{and_parts, false≢true}
use Rattle.std.proofs.lemmas.List.Elements.{recursion_from_All}
use Rattle.std.proofs.lemmas.Option.{get_or_from_slice_get, slice_get_within}
use Rattle.txn_types.specs.declared.stream.Reject.TheVariants.{ClientNotAllowed, ArgCount, ArgKind, SetTooLarge}
use Rattle.txn_types.specs.declared.stream.Request.{Request}
use Rattle.txn_types.specs.declared.txn.Arg.{Arg}
use Rattle.txn_types.specs.declared.txn.Arg.TheVariants as arg
use Rattle.txn_types.specs.declared.txn.Txn.{Txn}
use Rattle.oxii_defs.specs.Syntax.{Formal, Name, NumKind, Op, ParamKind, RecKind}
use Rattle.oxii_defs.specs.Table.{App, Table, op_in}
use Rattle.oxii_defs.specs.Lawful.{IsKnown, IsLawfulTxn, IsRecord}
use Rattle.oxii_defs.specs.WellFormed.{Match}
use Rattle.node_defs.specs.Admission.{admit, are_kinds, is_kind, first_named, same_name, with_app, with_args, with_op, with_sets}
use Rattle.node_defs.specs.LawfulItems.{IsLawfulRequest, IsRequestArg}

-- WHAT IS FOUND BY NAME

-- what is found stands at its place, counted from i
abbrev IsFoundAt : {A : Type 0} → ℕ → List A → Option (ℕ × A) → Type 0
IsFoundAt i xs None = Unit {0}
IsFoundAt i xs (Some x) = (k : ℕ) × (x.0 ≡ i + k) × (slice_get xs k ≡ Some x.1)

later : {A : Type 0} (i : ℕ) (y : A) (xs : List A) (o : Option (ℕ × A)) → IsFoundAt (suc i) xs o → IsFoundAt i (y ∷ xs) o
later i y xs None h = tt
later i y xs (Some x) h = (suc h.0, let e = h.1 in omega arith, h.2)

found_at : {A : Type 0} (name_of : A → Name) (name : Name) (i : ℕ) (xs : List A) → IsFoundAt i xs (first_named name_of name i xs)
found_at name_of name i [] = tt
found_at name_of name i (x ∷ rest) = one (same_name (name_of x) name) (later i x rest (first_named name_of name (suc i) rest) (found_at name_of name (suc i) rest))
  where
    one : (b : Bool) → IsFoundAt i (x ∷ rest) (first_named name_of name (suc i) rest) → IsFoundAt i (x ∷ rest) (cond b (Some (i, x)) (first_named name_of name (suc i) rest))
    one true h = (0, omega arith, refl)
    one false h = h

found_first : {A : Type 0} (xs : List A) (x : ℕ × A) → IsFoundAt 0 xs (Some x) → slice_get xs x.0 ≡ Some x.1
found_first xs x h = let e : x.0 ≡ h.0 = h.1 ∙ omega arith in ap (slice_get xs) e ∙ h.2

-- what is found by name stands at its number
pub found_by_name : {A : Type 0} (name_of : A → Name) (name : Name) (xs : List A) (x : ℕ × A) → first_named name_of name 0 xs ≡ Some x → slice_get xs x.0 ≡ Some x.1
found_by_name name_of name xs x e = found_first xs x (subst (IsFoundAt 0 xs) e (found_at name_of name 0 xs))

-- what holds of each holds of what stands at a number
pub at_number : {X : Type 0} (P : X → Type 0) (xs : List X) (i : ℕ) (x : X) → All P xs → slice_get xs i ≡ Some x → P x
at_number P xs i x all e = subst P (get_or_from_slice_get xs i x x e) (all i x (slice_get_within xs i x e))

-- WHAT IS ADMITTED

-- arguments of the right kinds match
matched : (table : Table) (params : List Formal) (args : List Arg) → AllByRecursion (IsRequestArg table) args → are_kinds params args ≡ true → Match params args
matched table [] [] a h = tt
matched table [] (x ∷ args) a h = absurd (false≢true h)
matched table (p ∷ params) [] a h = absurd (false≢true h)
matched table (p ∷ params) (arg.Rec r ∷ args) a h =
    let both = and_parts (is_kind p.kind (arg.Rec r)) (are_kinds params args) h in
    (kind p.kind both.0, matched table params args a.1 both.1)
  where
    kind : (k : ParamKind) → is_kind k (arg.Rec r) ≡ true → k ≡ RecKind
    kind RecKind e = refl
    kind NumKind e = absurd (false≢true e)
matched table (p ∷ params) (arg.Num n ∷ args) a h =
    let both = and_parts (is_kind p.kind (arg.Num n)) (are_kinds params args) h in
    (kind p.kind both.0, a.0, matched table params args a.1 both.1)
  where
    kind : (k : ParamKind) → is_kind k (arg.Num n) ≡ true → k ≡ NumKind
    kind RecKind e = absurd (false≢true e)
    kind NumKind e = refl

known : (table : Table) (args : List Arg) → AllByRecursion (IsRequestArg table) args → AllByRecursion (IsKnown table) args
known table [] a = tt
known table (arg.Rec r ∷ args) a = (a.0, known table args a.1)
known table (arg.Num n ∷ args) a = (tt, known table args a.1)

module _ (table : Table) (q : Request) (lawful : IsLawfulRequest table q) where
  abbrev txn : ℕ → ℕ → Txn
  txn app op = record { app = app; op = op; args = q.args; reads = q.reads; writes = q.writes }

  sets_lawful : (t : Txn) → IsLawfulTxn table t → IfOk (with_sets t) (IsLawfulTxn table)
  sets_lawful t h = one (nat_le (length t.reads) 16 && nat_le (length t.writes) 16)
    where
      one : (b : Bool) → IfOk (cond b (Ok t) (Err SetTooLarge)) (IsLawfulTxn table)
      one true = h
      one false = tt

  args_lawful : (app i : ℕ) (op : Op) → op_in table (txn app i) ≡ Some op → IfOk (with_args op (txn app i)) (IsLawfulTxn table)
  args_lawful app i op e = one (length q.args == length op.params) (are_kinds op.params q.args) refl
    where
      all : AllByRecursion (IsRequestArg table) q.args
      all = recursion_from_All (IsRequestArg table) q.args lawful.args

      one : (a b : Bool) → are_kinds op.params q.args ≡ b → IfOk (cond (not a) (Err ArgCount) (cond b (with_sets (txn app i)) (Err ArgKind))) (IsLawfulTxn table)
      one true true h = sets_lawful (txn app i) (record {
        op = op;
        named = e;
        matched = matched table op.params q.args all h;
        args = known table q.args all;
        reads = recursion_from_All (IsRecord table) q.reads lawful.reads.known;
        writes = recursion_from_All (IsRecord table) q.writes lawful.writes.known;
      })
      one true false h = tt
      one false b h = tt

  op_lawful : (app : ℕ × App) → slice_get table.apps app.0 ≡ Some app.1 → (o : Option (ℕ × Op)) → IsFoundAt 0 app.1.ops o → IfOk (with_op q app.0 o) (IsLawfulTxn table)
  op_lawful app e None h = tt
  op_lawful app e (Some op) h =
      args_lawful app.0 op.0 op.1 (ap (option_and_then (λ (a : App). slice_get a.ops op.0)) e ∙ found_first app.1.ops op h)

  app_lawful : (o : Option (ℕ × App)) → IsFoundAt 0 table.apps o → IfOk (with_app q o) (IsLawfulTxn table)
  app_lawful None h = tt
  app_lawful (Some app) h = one (list_any (same_name q.client) app.1.clients)
    where
      op : Option (ℕ × Op)
      op = first_named (λ op. op.name) q.op 0 app.1.ops

      one : (b : Bool) → IfOk (cond b (with_op q app.0 op) (Err ClientNotAllowed)) (IsLawfulTxn table)
      one true = op_lawful app (found_first table.apps app h) op (found_at (λ op. op.name) q.op 0 app.1.ops)
      one false = tt

  -- what is admitted is lawful
  pub admit_lawful : IfOk (admit table q) (IsLawfulTxn table)
  admit_lawful = app_lawful (first_named (λ app. app.name) q.app 0 table.apps) (found_at (λ app. app.name) q.app 0 table.apps)
