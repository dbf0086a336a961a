-- How long a transaction's bytes are at most.
use Rattle.std.specs.Prelude.{ℕ, ◌*◌, ◌≤◌, ◌<◌, ◌++◌, List, [], length, map}
use Rattle.std.specs.List.{All, flat_map, slice_index_or}
use Rattle.std.proofs.Common.{◌⊎◌, inl, inr, sym, subst, arith}
use Rattle.std.proofs.lemmas.Bool.{cases_lt}
use Rattle.std.proofs.lemmas.List.{get_or_past}
use Rattle.std.proofs.lemmas.List.Concat.{length-flat_map}
use Rattle.std.proofs.lemmas.List.Sums.{sum_by-le}
use Rattle.std.proofs.lemmas.List.Elements.{All-map}
use Rattle.std.proofs.lemmas.List.{length-append}
use Rattle.txn_types.specs.Names.{IsName}
use Rattle.txn_types.specs.declared.txn.Arg.{Arg}
use Rattle.txn_types.specs.declared.txn.Arg.TheVariants.{Rec, Num}
use Rattle.oxii_defs.specs.Syntax.{Name, Op}
use Rattle.oxii_defs.specs.Table.{App, Table}
use Rattle.oxii_defs.specs.Lawful.{IsLawfulTable}
use Rattle.oxii_defs.specs.BlockBytes.{record_name, app_name, ops_of, op_name, name_bytes, arg_bytes, args_bytes, records_bytes}
use Rattle.oxii_defs.specs.Laws.{TxnsAreShort}

-- what holds of each item and of the default holds of what is read
at_any : {X : Type 0} (P : X → Type 0) (xs : List X) (i : ℕ) (d : X) → All P xs → P d → P (slice_index_or xs i d)
at_any P xs i d all p = one (cases_lt i (length xs))
  where
    one : (i < length xs) ⊎ (length xs ≤ i) → P (slice_index_or xs i d)
    one (inl below) = all i d below
    one (inr past) = subst P (sym (get_or_past xs i d past)) p

abbrev IsShort : Name → Type 0
IsShort name = length name ≤ 32

names_short : (names : List Name) → All IsName names → All IsShort names
names_short names all i d below = (all i d below).0

name_short : (names : List Name) (i : ℕ) → All IsName names → length (name_bytes (slice_index_or names i [])) ≤ 33
name_short names i all =
    let short : IsShort (slice_index_or names i []) = at_any IsShort names i [] (names_short names all) (omega arith) in
    omega (short, arith)

-- so many pieces of at most so many bytes
pieces : {X : Type 0} (f : X → List ℕ) (most : ℕ) (xs : List X) → ((x : X) → length (f x) ≤ most) → length (flat_map f xs) ≤ length xs * most
pieces f most xs each = subst (λ n. n ≤ length xs * most) (sym (length-flat_map f xs)) (sum_by-le (λ x. length (f x)) most xs (λ i d below. each (slice_index_or xs i d)))

module _ (table : Table) (lawful : IsLawfulTable table) where
  record_short : (r : ℕ) → length (name_bytes (record_name table r)) ≤ 33
  record_short r = name_short table.records r lawful.records_named

  app_short : (app : ℕ) → length (name_bytes (app_name table app)) ≤ 33
  app_short app = name_short (map (λ a. a.name) table.apps) app (All-map IsName (λ (a : App). a.name) table.apps (λ i d below. (lawful.lawful_apps i d below).named))

  ops_named : (app : ℕ) → All IsName (map (λ (o : Op). o.name) (ops_of table app))
  ops_named app = All-map IsName (λ (o : Op). o.name) (ops_of table app) (at_any (λ (ops : List Op). All (λ (o : Op). IsName o.name) ops) (map (λ a. a.ops) table.apps) app []
      (All-map (λ (ops : List Op). All (λ (o : Op). IsName o.name) ops) (λ (a : App). a.ops) table.apps (λ i d below. (lawful.lawful_apps i d below).ops_named)) (λ i d below. absurd (omega (below, arith))))

  op_short : (app op : ℕ) → length (name_bytes (op_name table app op)) ≤ 33
  op_short app op = name_short (map (λ (o : Op). o.name) (ops_of table app)) op (ops_named app)

  arg_short : (a : Arg) → length (arg_bytes table a) ≤ 34
  arg_short (Rec r) = let short : length (name_bytes (record_name table r)) ≤ 33 = record_short r in omega (short, arith)
  arg_short (Num n) = omega arith

  args_short : (args : List Arg) → length args ≤ 16 → length (args_bytes table args) ≤ 545
  args_short args few =
      let all : length (flat_map (arg_bytes table) args) ≤ length args * 34 = pieces (arg_bytes table) 34 args arg_short in
      omega (all, few, arith)

  records_short : (rs : List ℕ) → length rs ≤ 16 → length (records_bytes table rs) ≤ 529
  records_short rs few =
      let all : length (flat_map (λ r. name_bytes (record_name table r)) rs) ≤ length rs * 33 = pieces (λ r. name_bytes (record_name table r)) 33 rs record_short in
      omega (all, few, arith)

  five : (a b c d e : List ℕ) → length a ≤ 33 → length b ≤ 33 → length c ≤ 545 → length d ≤ 529 → length e ≤ 529 → length (a ++ b ++ c ++ d ++ e) ≤ 1669
  five a b c d e la lb lc ld le = rw (length-append (a ++ b ++ c ++ d) e, length-append (a ++ b ++ c) d, length-append (a ++ b) c, length-append a b) (omega (la, lb, lc, ld, le, arith))

pub txns_are_short : TxnsAreShort
txns_are_short table t lawful held =
    five table lawful (name_bytes (app_name table t.app)) (name_bytes (op_name table t.app t.op)) (args_bytes table t.args) (records_bytes table t.reads) (records_bytes table t.writes)
    (app_short table lawful t.app) (op_short table lawful t.app t.op) (args_short table lawful t.args held.args) (records_short table lawful t.reads held.reads) (records_short table lawful t.writes held.writes)
