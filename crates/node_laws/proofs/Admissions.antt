-- The answer to a request is the one that the rule gives.
use Rattle.std.specs.Prelude.{◌≡◌, ◌≤◌, ◌<◌, ℕ, zero, suc, ◌+◌, ◌==◌, ◌⊎◌, Bool, true, false, ◌&&◌, not, cond, List, [], ◌∷◌, length, map, Option, Some, None, Result, Ok, Err, slice_get, slice_index_or, nat_le, Contains, refl}
use Rattle.std.specs.Bool.{Decides}
use Rattle.std.specs.Cmp.Lexicographic.{pointwise_decides}
use Rattle.std.specs.List.{list_any}
use Rattle.std.proofs.Common.{sym, ◌∙◌, ap, subst, inl, inr, arith}
use Rattle.std.proofs.lemmas.Bool.{false≢true, and_from, and_parts, eqb-true, or_right}
use Rattle.std.proofs.lemmas.Bool.Decides.{Decides-eqb, nat_tests}
use Rattle.std.proofs.lemmas.Option.{none-some, same_Some}
use Rattle.std.proofs.lemmas.Map.Views.{Contains-from_any}
use Rattle.txn_types.specs.declared.txn.Arg.{Arg}
use Rattle.txn_types.specs.declared.txn.Arg.TheVariants as arg
use Rattle.txn_types.specs.declared.txn.Txn.{Txn}
use Rattle.txn_types.specs.declared.stream.Request.{Request}
use Rattle.txn_types.specs.declared.stream.Reject.{Reject}
use Rattle.txn_types.specs.declared.stream.Reject.TheVariants.{UnknownApp, ClientNotAllowed, UnknownOp, ArgCount, ArgKind, SetTooLarge}
use Rattle.oxii_defs.specs.Syntax.{Name, ParamKind, RecKind, NumKind, Formal, Op}
use Rattle.oxii_defs.specs.NameLists.{AllDiffer}
use Rattle.oxii_defs.specs.Table.{App, Table}
use Rattle.oxii_defs.specs.Lawful.{IsLawfulApp, IsLawfulTable}
use Rattle.node_defs.specs.Admission.{admit, are_kinds, first_named, is_kind, same_name, with_app, with_args, with_op, with_sets}
use Rattle.node_defs.proofs.Admitted.{at_number, found_by_name}
use Rattle.node_laws.specs.Admissions.{AdmissionIsMeant, AreOfKinds, IsAdmittedAs, IsOfKind, IsRejectedFor, IsRightAnswer, NamesApp, NamesCall}

-- NAMES

name_decides : (x y : Name) → Decides (same_name x y) (x ≡ y)
name_decides = pointwise_decides Decides-eqb

-- what is found has the name
found_name : {A : Type 0} (name_of : A → Name) (name : Name) (i : ℕ) (xs : List A) (x : ℕ × A) → first_named name_of name i xs ≡ Some x → name_of x.1 ≡ name
found_name name_of name i [] x e = absurd (none-some x e)
found_name {A} name_of name i (y ∷ ys) x e = one (same_name (name_of y) name) refl e (found_name name_of name (suc i) ys x)
  where
    one : (b : Bool) → same_name (name_of y) name ≡ b → cond b (Some (i, y)) (first_named name_of name (suc i) ys) ≡ Some x →
        (first_named name_of name (suc i) ys ≡ Some x → name_of x.1 ≡ name) → name_of x.1 ≡ name
    one true h k more = ap (λ (p : ℕ × A). name_of p.1) (sym (same_Some (i, y) x k)) ∙ (name_decides (name_of y) name).0 h
    one false h k more = more k

-- where nothing is found, nothing has the name
none_named : {A : Type 0} (name_of : A → Name) (name : Name) (i : ℕ) (xs : List A) (k : ℕ) (x : A) → first_named name_of name i xs ≡ None → slice_get xs k ≡ Some x → name_of x ≡ name → ⊥
none_named name_of name i [] k x e at is = none-some x at
none_named {A} name_of name i (y ∷ ys) k x e at is = one (same_name (name_of y) name) refl e k at (λ j. none_named name_of name (suc i) ys j x)
  where
    one : (b : Bool) → same_name (name_of y) name ≡ b → cond b (Some (i, y)) (first_named name_of name (suc i) ys) ≡ None → (k : ℕ) → slice_get (y ∷ ys) k ≡ Some x →
        ((j : ℕ) → first_named name_of name (suc i) ys ≡ None → slice_get ys j ≡ Some x → name_of x ≡ name → ⊥) → ⊥
    one true h k j at more = none-some (i, y) (sym k)
    one false h k zero at more = false≢true (sym h ∙ (name_decides (name_of y) name).1 (ap name_of (same_Some y x at) ∙ is))
    one false h k (suc j) at more = more j k at is

-- what has the name stands where it is found, where all names differ
named_once : {A : Type 0} (name_of : A → Name) (name : Name) (i : ℕ) (xs : List A) (k : ℕ) (x : A) → AllDiffer (map name_of xs) → slice_get xs k ≡ Some x → name_of x ≡ name →
    first_named name_of name i xs ≡ Some (i + k, x)
named_once name_of name i [] k x differ at is = absurd (none-some x at)
named_once name_of name i (y ∷ ys) zero x differ at is =
    let e = same_Some y x at in
    let h : same_name (name_of y) name ≡ true = (name_decides (name_of y) name).1 (ap name_of e ∙ is) in
    let z : i ≡ i + 0 = omega arith in
    rw h (ap (λ n. Some (n, y)) z ∙ ap (λ w. Some (i + 0, w)) e)
named_once {A} name_of name i (y ∷ ys) (suc k) x differ at is =
    let z : suc i + k ≡ i + suc k = omega arith in
    one (same_name (name_of y) name) refl (named_once name_of name (suc i) ys k x differ.1 at is ∙ ap (λ n. Some (n, x)) z)
  where
    stands : (xs : List A) (k : ℕ) → slice_get xs k ≡ Some x → (k < length (map name_of xs)) × (slice_index_or (map name_of xs) k (name_of x) ≡ name_of x)
    stands [] k at = absurd (none-some x at)
    stands (z ∷ zs) zero at = (omega arith, ap name_of (same_Some z x at))
    stands (z ∷ zs) (suc k) at = let h = stands zs k at in let l = h.0 in (omega arith, h.1)

    one : (b : Bool) → same_name (name_of y) name ≡ b → first_named name_of name (suc i) ys ≡ Some (i + suc k, x) →
        cond b (Some (i, y)) (first_named name_of name (suc i) ys) ≡ Some (i + suc k, x)
    one true h e = absurd (differ.0 (subst (Contains (map name_of ys)) (is ∙ sym ((name_decides (name_of y) name).0 h)) (let h = stands ys k at in (k, h.0, h.1))))
    one false h e = e

-- a name that stands in a list is found there
any_has : (x : Name) (xs : List Name) → Contains xs x → list_any (same_name x) xs ≡ true
any_has x xs (k, l, e) = at xs k l e
  where
    at : (xs : List Name) (k : ℕ) → k < length xs → slice_index_or xs k x ≡ x → list_any (same_name x) xs ≡ true
    at [] k l e = absurd (omega arith)
    at (y ∷ ys) zero l e = rw ((name_decides x y).1 (sym e)) refl
    at (y ∷ ys) (suc k) l e = or_right (same_name x y) (list_any (same_name x) ys) (at ys k (omega arith) e)

-- KINDS

kind_is : (k : ParamKind) (a : Arg) → is_kind k a ≡ true → IsOfKind k a
kind_is RecKind (arg.Rec r) e = tt
kind_is RecKind (arg.Num n) e = absurd (false≢true e)
kind_is NumKind (arg.Rec r) e = absurd (false≢true e)
kind_is NumKind (arg.Num n) e = tt

is_kind_of : (k : ParamKind) (a : Arg) → IsOfKind k a → is_kind k a ≡ true
is_kind_of RecKind (arg.Rec r) h = refl
is_kind_of RecKind (arg.Num n) h = absurd h
is_kind_of NumKind (arg.Rec r) h = absurd h
is_kind_of NumKind (arg.Num n) h = refl

kinds_are : (params : List Formal) (args : List Arg) → are_kinds params args ≡ true → AreOfKinds params args
kinds_are [] [] e = tt
kinds_are [] (a ∷ args) e = absurd (false≢true e)
kinds_are (p ∷ params) [] e = absurd (false≢true e)
kinds_are (p ∷ params) (a ∷ args) e = let h = and_parts (is_kind p.kind a) (are_kinds params args) e in (kind_is p.kind a h.0, kinds_are params args h.1)

are_kinds_of : (params : List Formal) (args : List Arg) → AreOfKinds params args → are_kinds params args ≡ true
are_kinds_of [] [] h = refl
are_kinds_of [] (a ∷ args) h = absurd h
are_kinds_of (p ∷ params) [] h = absurd h
are_kinds_of (p ∷ params) (a ∷ args) h = rw (is_kind_of p.kind a h.0) (are_kinds_of params args h.1)

same_count : (params : List Formal) (args : List Arg) → AreOfKinds params args → length args ≡ length params
same_count [] [] h = refl
same_count [] (a ∷ args) h = absurd h
same_count (p ∷ params) [] h = absurd h
same_count (p ∷ params) (a ∷ args) h = ap (λ n. suc n) (same_count params args h.1)

-- THE ANSWER IS RIGHT

module _ (table : Table) (q : Request) where
  abbrev call_txn : ℕ → ℕ → Txn
  call_txn a o = record { app = a; op = o; args = q.args; reads = q.reads; writes = q.writes }

  sets_right : (a o : ℕ) (op : Op) → NamesCall table q a o op → AreOfKinds op.params q.args → IsRightAnswer table q (with_sets (call_txn a o))
  sets_right a o op call kinds = one (nat_le (length q.reads) 16) (nat_le (length q.writes) 16) refl refl
    where
      one : (b c : Bool) → nat_le (length q.reads) 16 ≡ b → nat_le (length q.writes) 16 ≡ c → IsRightAnswer table q (cond (b && c) (Ok (call_txn a o)) (Err SetTooLarge))
      one true true e f = record {
        op = op;
        call = call;
        kinds = kinds;
        reads_few = grind (arith, nat_tests);
        writes_few = grind (arith, nat_tests);
        args = refl;
        reads = refl;
        writes = refl;
      }
      one true false e f = (a, o, op, call, kinds, inr (grind (arith, nat_tests)))
      one false c e f = (a, o, op, call, kinds, inl (grind (arith, nat_tests)))

  args_right : (a o : ℕ) (op : Op) → NamesCall table q a o op → IsRightAnswer table q (with_args op (call_txn a o))
  args_right a o op call = one (length q.args == length op.params) (are_kinds op.params q.args) refl refl
    where
      one : (b c : Bool) → (length q.args == length op.params) ≡ b → are_kinds op.params q.args ≡ c →
          IsRightAnswer table q (cond (not b) (Err ArgCount) (cond c (with_sets (call_txn a o)) (Err ArgKind)))
      one true true e f = sets_right a o op call (kinds_are op.params q.args f)
      one true false e f = (a, o, op, call, eqb-true (length q.args) (length op.params) e, λ h. false≢true (sym f ∙ are_kinds_of op.params q.args h))
      one false c e f = (a, o, op, call, λ h. false≢true (sym e ∙ (Decides-eqb (length q.args) (length op.params)).1 h))

  op_right : (a : ℕ) (app : App) → NamesApp table q a app → Contains app.clients q.client → (o : Option (ℕ × Op)) → first_named (λ op. op.name) q.op 0 app.ops ≡ o → IsRightAnswer table q (with_op q a o)
  op_right a app names client None e = (a, app, names, client, λ o op h. none_named (λ (p : Op). p.name) q.op 0 app.ops o op e h.at h.name)
  op_right a app names client (Some x) e = args_right a x.0 x.1 (record {
    app = app;
    names_app = names;
    client = client;
    names_op = record { at = found_by_name (λ (p : Op). p.name) q.op app.ops x e; name = found_name (λ (p : Op). p.name) q.op 0 app.ops x e };
  })

  app_right : (o : Option (ℕ × App)) → first_named (λ app. app.name) q.app 0 table.apps ≡ o → IsRightAnswer table q (with_app q o)
  app_right None e = λ a app h. none_named (λ (p : App). p.name) q.app 0 table.apps a app e h.at h.name
  app_right (Some x) e = one (list_any (same_name q.client) x.1.clients) refl
    where
      names : NamesApp table q x.0 x.1
      names = record { at = found_by_name (λ (p : App). p.name) q.app table.apps x e; name = found_name (λ (p : App). p.name) q.app 0 table.apps x e }

      one : (b : Bool) → list_any (same_name q.client) x.1.clients ≡ b →
          IsRightAnswer table q (cond b (with_op q x.0 (first_named (λ op. op.name) q.op 0 x.1.ops)) (Err ClientNotAllowed))
      one true f = op_right x.0 x.1 names (Contains-from_any (λ v w. (name_decides v w).0) q.client x.1.clients f) (first_named (λ (p : Op). p.name) q.op 0 x.1.ops) refl
      one false f = (x.0, x.1, names, λ h. false≢true (sym f ∙ any_has q.client x.1.clients h))

  pub admit_right : IsRightAnswer table q (admit table q)
  admit_right = app_right (first_named (λ (p : App). p.name) q.app 0 table.apps) refl

-- AND NO OTHER IS

to_false : (b : Bool) → (b ≡ true → ⊥) → b ≡ false
to_false true f = absurd (f refl)
to_false false f = refl

module _ (table : Table) (q : Request) (lawful : IsLawfulTable table) where
  abbrev that_txn : ℕ → ℕ → Txn
  that_txn a o = record { app = a; op = o; args = q.args; reads = q.reads; writes = q.writes }

  -- what the application with this name makes of the request
  of_app : (a : ℕ) (app : App) → NamesApp table q a app →
      admit table q ≡ cond (list_any (same_name q.client) app.clients) (with_op q a (first_named (λ op. op.name) q.op 0 app.ops)) (Err ClientNotAllowed)
  of_app a app names =
      let z : 0 + a ≡ a = omega arith in
      ap (with_app q) (named_once (λ (p : App). p.name) q.app 0 table.apps a app lawful.app_names names.at names.name ∙ ap (λ n. Some (n, app)) z)

  of_client : (a : ℕ) (app : App) → NamesApp table q a app → Contains app.clients q.client → admit table q ≡ with_op q a (first_named (λ op. op.name) q.op 0 app.ops)
  of_client a app names client =
      of_app a app names ∙ ap (λ b. cond b (with_op q a (first_named (λ (p : Op). p.name) q.op 0 app.ops)) (Err ClientNotAllowed)) (any_has q.client app.clients client)

  -- what the operation with this name makes of it
  of_call : (a o : ℕ) (op : Op) → NamesCall table q a o op → admit table q ≡ with_args op (that_txn a o)
  of_call a o op call =
      let z : 0 + o ≡ o = omega arith in
      let one : IsLawfulApp table call.app = at_number (IsLawfulApp table) table.apps a call.app lawful.lawful_apps call.names_app.at in
      of_client a call.app call.names_app call.client
      ∙ ap (with_op q a) (named_once (λ (p : Op). p.name) q.op 0 call.app.ops o op one.op_names call.names_op.at call.names_op.name ∙ ap (λ n. Some (n, op)) z)

  of_kinds : (a o : ℕ) (op : Op) → NamesCall table q a o op → AreOfKinds op.params q.args → admit table q ≡ with_sets (that_txn a o)
  of_kinds a o op call kinds =
      of_call a o op call
      ∙ (ap (λ b. cond (not b) (Err ArgCount) (cond (are_kinds op.params q.args) (with_sets (that_txn a o)) (Err ArgKind)))
      ((Decides-eqb (length q.args) (length op.params)).1 (same_count op.params q.args kinds))
      ∙ ap (λ b. cond b (with_sets (that_txn a o)) (Err ArgKind)) (are_kinds_of op.params q.args kinds))

  admitted_so : (t : Txn) → IsAdmittedAs table q t → Ok t ≡ admit table q
  admitted_so t h =
      let few : nat_le (length q.reads) 16 ≡ true = let l = h.reads_few in grind (arith, nat_tests) in
      let few_too : nat_le (length q.writes) 16 ≡ true = let l = h.writes_few in grind (arith, nat_tests) in
      sym (of_kinds t.app t.op h.op h.call h.kinds
      ∙ (ap (λ b. cond b (Ok (that_txn t.app t.op)) (Err SetTooLarge)) (and_from (nat_le (length q.reads) 16) (nat_le (length q.writes) 16) few few_too)
      ∙ (ap (λ xs. Ok (record { app = t.app; op = t.op; args = xs; reads = q.reads; writes = q.writes })) (sym h.args)
      ∙ (ap (λ xs. Ok (record { app = t.app; op = t.op; args = t.args; reads = xs; writes = q.writes })) (sym h.reads)
      ∙ ap (λ xs. Ok (record { app = t.app; op = t.op; args = t.args; reads = t.reads; writes = xs })) (sym h.writes)))))

  rejected_so : (why : Reject) → IsRejectedFor table q why → Err why ≡ admit table q
  rejected_so UnknownApp h = one (first_named (λ (p : App). p.name) q.app 0 table.apps) refl
    where
      one : (o : Option (ℕ × App)) → first_named (λ app. app.name) q.app 0 table.apps ≡ o → Err UnknownApp ≡ with_app q o
      one None e = refl
      one (Some x) e = absurd (h x.0 x.1 (record { at = found_by_name (λ (p : App). p.name) q.app table.apps x e; name = found_name (λ (p : App). p.name) q.app 0 table.apps x e }))
  rejected_so ClientNotAllowed (a, app, names, barred) =
      sym (of_app a app names
      ∙ ap (λ b. cond b (with_op q a (first_named (λ (p : Op). p.name) q.op 0 app.ops)) (Err ClientNotAllowed))
      (to_false (list_any (same_name q.client) app.clients) (λ e. barred (Contains-from_any (λ v w. (name_decides v w).0) q.client app.clients e))))
  rejected_so UnknownOp (a, app, names, client, none) = one (first_named (λ (p : Op). p.name) q.op 0 app.ops) refl ∙ sym (of_client a app names client)
    where
      one : (o : Option (ℕ × Op)) → first_named (λ op. op.name) q.op 0 app.ops ≡ o → Err UnknownOp ≡ with_op q a (first_named (λ op. op.name) q.op 0 app.ops)
      one None e = sym (ap (with_op q a) e)
      one (Some x) e = absurd (none x.0 x.1 (record { at = found_by_name (λ (p : Op). p.name) q.op app.ops x e; name = found_name (λ (p : Op). p.name) q.op 0 app.ops x e }))
  rejected_so ArgCount (a, o, op, call, barred) =
      sym (of_call a o op call
      ∙ ap (λ b. cond (not b) (Err ArgCount) (cond (are_kinds op.params q.args) (with_sets (that_txn a o)) (Err ArgKind)))
      (to_false (length q.args == length op.params) (λ e. barred (eqb-true (length q.args) (length op.params) e))))
  rejected_so ArgKind (a, o, op, call, count, barred) =
      sym (of_call a o op call
      ∙ (ap (λ b. cond (not b) (Err ArgCount) (cond (are_kinds op.params q.args) (with_sets (that_txn a o)) (Err ArgKind)))
      ((Decides-eqb (length q.args) (length op.params)).1 count)
      ∙ ap (λ b. cond b (with_sets (that_txn a o)) (Err ArgKind)) (to_false (are_kinds op.params q.args) (λ e. barred (kinds_are op.params q.args e)))))
  rejected_so SetTooLarge (a, o, op, call, kinds, many) =
      sym (of_kinds a o op call kinds
      ∙ ap (λ b. cond b (Ok (that_txn a o)) (Err SetTooLarge)) (to_false (nat_le (length q.reads) 16 && nat_le (length q.writes) 16) (λ e. too_many many (and_parts (nat_le (length q.reads) 16) (nat_le (length q.writes) 16) e))))
    where
      too_many : (16 < length q.reads) ⊎ (16 < length q.writes) → (nat_le (length q.reads) 16 ≡ true) × (nat_le (length q.writes) 16 ≡ true) → ⊥
      too_many (inl l) h = let m : length q.reads ≤ 16 = let e = h.0 in grind (arith, nat_tests) in omega arith
      too_many (inr l) h = let m : length q.writes ≤ 16 = let e = h.1 in grind (arith, nat_tests) in omega arith

pub admission_is_meant : AdmissionIsMeant
admission_is_meant table q answer lawful = (λ h. right_is answer h, λ e. subst (IsRightAnswer table q) (sym e) (admit_right table q))
  where
    right_is : (answer : Result Txn Reject) → IsRightAnswer table q answer → answer ≡ admit table q
    right_is (Ok t) h = admitted_so table q lawful t h
    right_is (Err why) h = rejected_so table q lawful why h
