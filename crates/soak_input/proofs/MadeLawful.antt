-- The input that a seed makes is lawful.
use Rattle.std.proofs.Common.{◌≡◌, ◌≤◌, ◌<◌, ℕ, zero, suc, ◌+◌, ◌%◌, ◌==◌, ◌&&◌, Bool, true, false, cond, nat_lt, List, [], ◌∷◌, length, map, refl, sym, subst, arith}
use Rattle.std.specs.Prelude.{codes}
use Rattle.std.specs.List.{All, count_by, list_all, range_with_len}
use Rattle.std.specs.Ordering.{nat_cmp}
use Rattle.std.specs.declared.cmp.Ordering.{Ordering}
use Rattle.std.specs.declared.cmp.Ordering.TheVariants.{Less, Equal, Greater}
use Rattle.std.specs.Cmp.Lexicographic.{slice_cmp}
use Rattle.std.proofs.lemmas.Bool.{and_parts, cond_both, eqb-false, ltb-true, ltb-false}
use Rattle.std.proofs.lemmas.Bool.Decides.{Decides-by_and}
use Rattle.std.proofs.lemmas.List.Elements.{All-from_recursion, All-nil, All-cons, All-replicate}
use Rattle.std.proofs.lemmas.List.Sums.{count_by-le-length, sum_by-cons}
use Rattle.txn_types.specs.Names.{IsName}
use Rattle.txn_types.specs.Rising.{IsRising}
use Rattle.txn_types.specs.Values.{IsValue}
use Rattle.txn_types.specs.declared.stream.Item.TheVariants as item
use Rattle.txn_types.specs.declared.block.Body.{Body}
use Rattle.txn_types.specs.declared.event.Event.TheVariants as event
use Rattle.oxii_defs.specs.State.{State}
use Rattle.oxii_defs.specs.Syntax.{Op}
use Rattle.oxii_defs.specs.Table.{App}
use Rattle.oxii_defs.specs.Lawful.{IsRecord, IsLawfulApp, IsLawfulTable}
use Rattle.oxii_defs.specs.NameLists.{AllDiffer, AreInOrder}
use Rattle.node_defs.specs.Programs.{setting_of}
use Rattle.node_defs.specs.LawfulEvents.{AreLawfulEvents, IsLawfulEvent}
use Rattle.node_defs.specs.LawfulItems.{IsLawfulItem, IsLawfulRequest, IsRequestArg, IsRequestSet}
use Rattle.txn_core.specs.Checked.{all_differ}
use Rattle.txn_core.proofs.CheckLemmas.{differ_decides}
use Rattle.contract_text.specs.Laws.{AreLawfulOps}
use Rattle.contract_text.proofs.Accepted.{accepted_lawful}
use Rattle.doc_forms.specs.Forms.{is_name, is_name_byte}
use Rattle.doc_forms.proofs.NameTests.{Decides-name}
use Rattle.doc_stream.specs.StreamMeaning.{is_config, is_request}
use Rattle.input_doc.specs.LawfulInputs.{IsLawfulInput, IsNodeOf}
use Rattle.input_doc.proofs.PiecesFew.{few_configs, few_txns}
use Rattle.soak_input.specs.Laws.{SoakInputsAreLawful}
use Rattle.soak_input.specs.Generator.{app_name, app_of, apps_of, drawn_behind, input_with, next_draw, pair_set, pay_text, payment, record_name, stream_behind, table_of}

-- NAMES

pub name_is : (name : List ℕ) → is_name name ≡ true → IsName name
name_is name h = (Decides-name name).0 h

names_are : (names : List (List ℕ)) → list_all is_name names ≡ true → All IsName names
names_are names h = (Decides-by_and is_name IsName (list_all is_name) Decides-name refl (λ x xs. refl) names).0 h

differ : (names : List (List ℕ)) → all_differ names ≡ true → AllDiffer names
differ names h = (differ_decides names).0 h

abbrev is_less : Ordering → Bool
is_less Less = true
is_less Equal = false
is_less Greater = false

less_is : (o : Ordering) → is_less o ≡ true → o ≡ Less
less_is Less h = refl
less_is Equal h = absurd cc
less_is Greater h = absurd cc

-- the order of names as a test
abbrev in_order : List (List ℕ) → Bool
in_order [] = true
in_order (x ∷ []) = true
in_order (x ∷ y ∷ rest) = is_less (slice_cmp nat_cmp x y) && in_order (y ∷ rest)

order_is : (names : List (List ℕ)) → in_order names ≡ true → AreInOrder names
order_is [] h = tt
order_is (x ∷ []) h = tt
order_is (x ∷ y ∷ rest) h =
    let two = and_parts (is_less (slice_cmp nat_cmp x y)) (in_order (y ∷ rest)) h in
    (less_is (slice_cmp nat_cmp x y) two.0, order_is (y ∷ rest) two.1)

records_named : list_all is_name (map record_name (range_with_len 0 256)) ≡ true
unfolding is_name is_name_byte
records_named = refl

records_ordered : in_order (map record_name (range_with_len 0 256)) ≡ true
records_ordered = refl

orderers_named : list_all is_name (codes "o1" ∷ codes "o2" ∷ codes "o3" ∷ []) ≡ true
unfolding is_name is_name_byte
orderers_named = refl

peers_named : list_all is_name (codes "p1" ∷ codes "p2" ∷ codes "p3" ∷ codes "p4" ∷ []) ≡ true
unfolding is_name is_name_byte
peers_named = refl

client_named : list_all is_name (codes "c1" ∷ []) ≡ true
unfolding is_name is_name_byte
client_named = refl

apps_named : list_all is_name (app_name 1 ∷ app_name 2 ∷ app_name 3 ∷ app_name 4 ∷ []) ≡ true
unfolding is_name is_name_byte
apps_named = refl

-- THE TABLE

module _ (ops : List Op) (lawful : AreLawfulOps ops) where
  app_lawful : (i p q : ℕ) → is_name (app_name i) ≡ true → p < q → q < 4 → IsLawfulApp (table_of ops) (app_of ops i (p ∷ q ∷ []))
  app_lawful i p q named less last = record {
    named = name_is (app_name i) named;
    agents = record {
      count = (omega arith, omega arith);
      peers = All-from_recursion (λ (r : ℕ). r < 4) (p ∷ q ∷ []) (omega arith, (last, tt));
      rising = (less, tt);
      votes = (omega arith, omega arith);
    };
    clients = omega arith;
    clients_named = names_are (codes "c1" ∷ []) client_named;
    client_names = differ (codes "c1" ∷ []) refl;
    ops = lawful.count;
    ops_named = lawful.named;
    op_names = lawful.names;
    well_formed = lawful.fine;
  }

  apps_lawful : All (IsLawfulApp (table_of ops)) (apps_of ops)
  unfolding is_name is_name_byte
  apps_lawful =
      All-from_recursion (IsLawfulApp (table_of ops)) (apps_of ops) (
        app_lawful 1 0 1 refl (omega arith) (omega arith),
        (
          app_lawful 2 1 2 refl (omega arith) (omega arith),
          (app_lawful 3 2 3 refl (omega arith) (omega arith), (app_lawful 4 0 3 refl (omega arith) (omega arith), tt)),
        ),
      )

  table_lawful : IsLawfulTable (table_of ops)
  table_lawful = record {
    records = omega arith;
    records_named = names_are (map record_name (range_with_len 0 256)) records_named;
    record_names = order_is (map record_name (range_with_len 0 256)) records_ordered;
    orderers = (omega arith, omega arith);
    orderers_named = names_are (codes "o1" ∷ codes "o2" ∷ codes "o3" ∷ []) orderers_named;
    quorum = (omega arith, omega arith);
    peers = (omega arith, omega arith);
    peers_named = names_are (codes "p1" ∷ codes "p2" ∷ codes "p3" ∷ codes "p4" ∷ []) peers_named;
    node_names = differ (codes "o1" ∷ codes "o2" ∷ codes "o3" ∷ codes "p1" ∷ codes "p2" ∷ codes "p3" ∷ codes "p4" ∷ []) refl;
    apps = (omega arith, omega arith);
    app_names = differ (map (λ (app : App). app.name) (apps_of ops)) refl;
    lawful_apps = apps_lawful;
  }

-- THE STREAM

-- what holds of each of its three forms holds of the set
by_form : (P : List ℕ → Type 0) (r q : ℕ) → P (r ∷ []) → (r < q → P (r ∷ q ∷ [])) → (q < r → P (q ∷ r ∷ [])) → P (pair_set r q)
by_form P r q same less more =
    cond_both (r == q) (r ∷ []) (cond (nat_lt r q) (r ∷ q ∷ []) (q ∷ r ∷ [])) P (λ e. same)
    (λ e. cond_both (nat_lt r q) (r ∷ q ∷ []) (q ∷ r ∷ []) P
    (λ l. less (ltb-true r q l)) (λ l. let other = eqb-false r q e in let le = ltb-false r q l in more (omega arith)))

pair_rises : (r q : ℕ) → IsRising (pair_set r q)
pair_rises r q = by_form IsRising r q tt (λ less. (less, tt)) (λ more. (more, tt))

pair_all : (P : ℕ → Type 0) (r q : ℕ) → P r → P q → All P (pair_set r q)
pair_all P r q one other =
    by_form (All P) r q (All-from_recursion P (r ∷ []) (one, tt))
    (λ less. All-from_recursion P (r ∷ q ∷ []) (one, (other, tt))) (λ more. All-from_recursion P (q ∷ r ∷ []) (other, (one, tt)))

module _ (ops : List Op) where
  payment_lawful : (app from to amount : ℕ) → IsRecord (table_of ops) from → IsRecord (table_of ops) to → IsValue amount → IsLawfulRequest (table_of ops) (payment app from to amount)
  payment_lawful app from to amount one other value =
      let set : IsRequestSet (table_of ops) (pair_set from to) = record { rising = pair_rises from to; known = pair_all (IsRecord (table_of ops)) from to one other } in
      record {
        args = All-from_recursion (IsRequestArg (table_of ops)) (payment app from to amount).args (one, (other, (value, tt)));
        reads = set;
        writes = set;
      }

  drawn_record : (d : ℕ) → IsRecord (table_of ops) (d % 256)
  drawn_record d = omega arith

  drawn_amount : (d : ℕ) → IsValue (1 + d % 100)
  drawn_amount d = omega arith

  stream_lawful : (x n : ℕ) → All (IsLawfulItem (table_of ops)) (stream_behind x n)
  stream_lawful x zero = All-nil (IsLawfulItem (table_of ops))
  stream_lawful x (suc n) =
      All-cons (IsLawfulItem (table_of ops)) _ _
      (payment_lawful _ _ _ _ (drawn_record (next_draw (next_draw x))) (drawn_record (next_draw (next_draw (next_draw x)))) (drawn_amount (next_draw (next_draw (next_draw (next_draw x))))))
      (stream_lawful (next_draw (next_draw (next_draw (next_draw x)))) n)

stream_length : (x n : ℕ) → length (stream_behind x n) ≡ n
stream_length x zero = refl
stream_length x (suc n) = let more = stream_length (next_draw (next_draw (next_draw (next_draw x)))) n in omega (arith, more)

no_configs : (x n : ℕ) → count_by is_config (stream_behind x n) ≡ 0
no_configs x zero = refl
no_configs x (suc n) =
    let next = next_draw (next_draw (next_draw (next_draw x))) in
    let more = no_configs next n in
    omega (arith, more, sum_by-cons (λ y. cond (is_config y) 1 0) (item.Ask (drawn_behind x)) (stream_behind next n))

-- THE INPUT

events_lawful : (ops : List Op) (genesis : State) (bodies : List Body) → (seed txns : ℕ) → AreLawfulEvents (setting_of (table_of ops) genesis (stream_behind seed txns) bodies []) (event.All ∷ [])
events_lawful ops genesis bodies seed txns =
    let s = setting_of (table_of ops) genesis (stream_behind seed txns) bodies [] in record {
      each = All-from_recursion (IsLawfulEvent s) (event.All ∷ []) (tt, tt);
      count = omega arith;
      alls = omega arith;
      falses = omega arith;
      items = omega arith;
      votes = omega arith;
    }

pub input_lawful : (ops : List Op) (seed txns : ℕ) → AreLawfulOps ops → txns ≤ 4096 → IsLawfulInput (input_with ops seed txns)
input_lawful ops seed txns lawful few =
    let items = stream_behind seed txns in
    let count = stream_length seed txns in
    record {
      table = table_lawful ops lawful;
      genesis = refl;
      values = All-replicate IsValue 256 1000 (omega arith);
      count = omega (arith, count, few);
      items = stream_lawful ops seed txns;
      limits = record { txns = (omega arith, omega arith); bytes_from = omega arith; bytes_to = omega arith };
      txns = few_txns (table_of ops) items (let asked = count_by-le-length is_request items in omega (arith, asked, count, few));
      configs = few_configs (table_of ops) items (let none = no_configs seed txns in omega (arith, none));
      faulty = All-nil (IsNodeOf (table_of ops));
      faulty_count = omega arith;
      faulty_order = tt;
      schedule = λ genesis bodies. events_lawful ops genesis bodies seed txns;
    }

pub made_lawful : SoakInputsAreLawful
made_lawful seed txns input few made = subst IsLawfulInput (sym made.is) (input_lawful made.ops seed txns (accepted_lawful pay_text made.ops made.contract) few)
