-- A world stands for one event more.
use Rattle.std.specs.Prelude.{ℕ, ◌+◌, ◌≡◌, ◌<◌, ◌≤◌, Bool, true, false, cond, List, [], ◌∷◌, ◌++◌, take, drop, length, get_or, zero, suc, Option, Some, count_by, sum_by, refl}
use Rattle.std.specs.List.{All, AllByRecursion}
use Rattle.std.proofs.Common.{sym, ◌∙◌, ap, subst, arith}
use Rattle.std.proofs.Math.Seq.{take-append_seam}
use Rattle.std.proofs.lemmas.List.{append-nil, append_assoc, length-append, length-take-le, take_more}
use Rattle.std.proofs.lemmas.List.Sums.{sum_by-append, sum_by-take-le}
use Rattle.txn_types.specs.Values.{max_false}
use Rattle.txn_types.specs.declared.message.Node.{Node}
use Rattle.txn_types.specs.declared.message.Message.{Message}
use Rattle.txn_types.specs.declared.event.Event.{Event}
use Rattle.txn_types.specs.declared.event.Event.TheVariants as event
use Rattle.oxii_defs.specs.State.{State}
use Rattle.txn_core.specs.declared.table.Table.{Table}
use Rattle.txn_core.specs.MeantTable.{table_of}
use Rattle.node_defs.specs.Log.{Letter}
use Rattle.node_defs.specs.World.{LeadTo, Setting, World, happens, is_false, items_named, says, start}
use Rattle.node_defs.specs.LawfulEvents.{IsLawfulEvent}
use Rattle.node_laws.specs.OneWorld.{txns_carried_by}
use Rattle.node_laws.proofs.AgreeSent.{all_append}
use Rattle.node_laws.proofs.Run.{leads_more, same_world}
use Rattle.peer_turns.specs.Peers.{KeptPeer}
use Rattle.world_laws.specs.declared.burst.Burst.{Burst}
use Rattle.world_laws.specs.Deliveries.{AddsBursts, AreDeliveries, Delivery, deliveries_in}
use Rattle.world_laws.specs.Shown.{AreOfTable, IsLawfulLetter, Moves, idles}
use Rattle.world_laws.specs.Worlds.{CanTake, Follows, HasBursts, IsWellKept, IsWorldOf, KeptWorld, setting_with, with_said}
use Rattle.world_laws.proofs.Bursting.{adds_none, bursts_more, more_workers}
use Rattle.world_laws.proofs.Reaching.{IsDelivering, reached_moved, reached_said, said_shown}

-- what a slice writes back
pub written_back : (n : ℕ) (new items : List (Option KeptPeer)) → n ≡ length new → take n (new ++ drop (length new) items) ≡ new
written_back n new items e = ap (λ k. take k (new ++ drop (length new) items)) e ∙ take-append_seam new (drop (length new) items)

-- ONE EVENT MORE

deliveries_more : (s : Setting) (es : List Event) (e : Event) (a w u : World) (turns : ℕ) (ds : List Delivery) → AreDeliveries s a es ds → LeadTo s a es w → happens s turns w e ≡ Some u → AreDeliveries s a (es ++ e ∷ []) (ds ++ deliveries_in s turns w e)
deliveries_more s [] e a w u turns ds d l h = (
  turns,
  u,
  subst (λ x. happens s turns x e ≡ Some u) l h,
  [],
  ap (λ xs. xs ++ deliveries_in s turns w e) d ∙ (ap (λ x. deliveries_in s turns x e) l ∙ sym (append-nil (deliveries_in s turns a e))),
  refl,
)
deliveries_more s (b ∷ es) e a w u turns ds d l h =
    let same : d.1 ≡ l.0 = same_world s (b ∷ []) a d.1 l.0 (d.1, (d.0, d.2), refl) (l.0, l.1, refl) in (
      d.0,
      d.1,
      d.2,
      d.3 ++ deliveries_in s turns w e,
      ap (λ xs. xs ++ deliveries_in s turns w e) d.4 ∙ append_assoc (deliveries_in s d.0 a b) d.3 (deliveries_in s turns w e),
      deliveries_more s es e d.1 w u turns d.3 d.5 (subst (λ x. LeadTo s x es w) (sym same) l.2) h,
    )

-- the same world with the parts that deliveries change
abbrev pub moved : KeptWorld → List Letter → ℕ → List (Option KeptPeer) → List Burst → KeptWorld
moved k pool idle peers bursts = record { table = k.table; hashes = k.hashes; pieces = k.pieces; faulty = k.faulty; pool = pool; idle = idle; falses = k.falses; items = k.items; peers = peers; bursts = bursts }

idles_more : (idly : Bool) (n : ℕ) → idles idly n ≤ n + 1
idles_more true n = omega arith
idles_more false n = omega arith

no_false : (n : ℕ) (e : Event) → IsDelivering n e → count_by is_false (e ∷ []) ≡ 0
no_false n (event.Deliver msg to) d = refl
no_false n event.All d = refl
no_false n (event.SayBlock from number prev items preds) d = absurd d
no_false n (event.SayCommit from commit) d = absurd d

no_item : (n : ℕ) (e : Event) → IsDelivering n e → sum_by items_named (e ∷ []) ≡ 0
no_item n (event.Deliver msg to) d = refl
no_item n event.All d = refl
no_item n (event.SayBlock from number prev items preds) d = absurd d
no_item n (event.SayCommit from commit) d = absurd d

pub follows_moved : (k : KeptWorld) (workers : ℕ) (e : Event) (idly : Bool) (pool : List Letter) (peers : List (Option KeptPeer)) (bursts : List Burst) →
    IsDelivering (length k.table.peers) e → Moves k.table workers e idly k.pool k.peers k.bursts pool peers bursts → Follows workers k (e ∷ []) (moved k pool (idles idly k.idle) peers bursts)
follows_moved k workers e idly pool peers bursts d f = record {
  ground = record { table = refl; hashes = refl; pieces = refl; faulty = refl };
  falses = omega (arith, no_false (length k.table.peers) e d);
  items = omega (arith, no_item (length k.table.peers) e d);
  idle = idles_more idly k.idle;
  stands = λ genesis s before v.
      let r = f k.idle genesis s v.world v.shown in
      record {
        setting = record { rules_are = v.setting.rules_are; hashes_are = v.setting.hashes_are; pieces_are = v.setting.pieces_are; faulty_are = v.setting.faulty_are };
        world = r.1;
        is = leads_more s before e (start s) v.world r.1 v.is (r.0, r.2);
        shown = r.3;
      };
  bursts = λ n l genesis s before v b.
      let r = f k.idle genesis s v.world v.shown in
      let mine = deliveries_in s r.0 v.world e in (
        b.0 ++ mine,
        deliveries_more s before e (start s) v.world r.1 r.0 b.0 b.1 v.is r.2,
        bursts_more s n b.0 mine k.bursts bursts b.2 (more_workers s workers n l mine k.bursts bursts r.4),
      );
}

pub well_moved : (k : KeptWorld) (workers : ℕ) (e : Event) (idly : Bool) (pool : List Letter) (idle : ℕ) (peers : List (Option KeptPeer)) (bursts : List Burst) →
    IsDelivering (length k.table.peers) e → AllByRecursion (IsLawfulLetter (table_of k.table)) pool → AreOfTable k.table peers → length peers ≡ length k.table.peers →
    Moves k.table workers e idly k.pool k.peers k.bursts pool peers bursts → IsWellKept k → IsWellKept (moved k pool idle peers bursts)
well_moved k workers e idly pool idle peers bursts d a b c f v = record {
  table_lawful = v.table_lawful;
  pieces_lawful = v.pieces_lawful;
  lawful = a;
  of_table = b;
  count = c;
  few_falses = v.few_falses;
  few_items = v.few_items;
  reached = reached_moved k.table k.faulty workers e idly k.pool pool k.peers peers k.bursts bursts k.falses k.items d f v.reached;
}

-- A MESSAGE MORE

pub well_said : (k : KeptWorld) (from : Node) (m : Message) (n : ℕ) → IsLawfulLetter (table_of k.table) (record { from = from; message = m }) → txns_carried_by m ≤ n →
    k.falses + 1 ≤ max_false → k.items + n ≤ 16384 → IsWellKept k → IsWellKept (with_said k from m n)
well_said k from m n l c f i v = record {
  table_lawful = v.table_lawful;
  pieces_lawful = v.pieces_lawful;
  lawful = all_append (IsLawfulLetter (table_of k.table)) k.pool (record { from = from; message = m } ∷ []) v.lawful (l, tt);
  of_table = v.of_table;
  count = v.count;
  few_falses = f;
  few_items = i;
  reached = reached_said k.table k.faulty k.pool k.peers k.falses k.items n from m c v.reached;
}

pub follows_said : (k : KeptWorld) (workers : ℕ) (e : Event) (from : Node) (m : Message) (n : ℕ) →
    is_false e ≡ true → items_named e ≡ n →
    ((genesis : State) (s : Setting) (before : List Event) → IsWorldOf k genesis s before → (w : World) → happens s 0 w e ≡ Some (says w from m)) →
    ((s : Setting) (w : World) → deliveries_in s 0 w e ≡ []) →
    Follows workers k (e ∷ []) (with_said k from m n)
follows_said k workers e from m n b c f g = record {
  ground = record { table = refl; hashes = refl; pieces = refl; faulty = refl };
  falses = omega (arith, ap {B = ℕ} (λ (z : Bool). cond z 1 0) b);
  items = omega (arith, c);
  idle = omega arith;
  stands = λ genesis s before v. record {
    setting = record { rules_are = v.setting.rules_are; hashes_are = v.setting.hashes_are; pieces_are = v.setting.pieces_are; faulty_are = v.setting.faulty_are };
    world = says v.world from m;
    is = leads_more s before e (start s) v.world (says v.world from m) v.is (0, f genesis s before v v.world);
    shown = said_shown k.table k.pool k.idle k.peers from m genesis s v.world v.shown;
  };
  bursts = λ n l genesis s before v h.
      let u = says v.world from m in
      let mine = deliveries_in s 0 v.world e in (
        h.0 ++ mine,
        deliveries_more s before e (start s) v.world u 0 h.0 h.1 v.is (f genesis s before v v.world),
        bursts_more s n h.0 mine k.bursts k.bursts h.2 (subst (λ ds. AddsBursts s n ds k.bursts k.bursts) (sym (g s v.world)) (adds_none s n k.bursts)),
      );
}

-- EVENTS IN A ROW

pub follows_none : (k : KeptWorld) (workers : ℕ) → Follows workers k [] k
follows_none k workers = record {
  ground = record { table = refl; hashes = refl; pieces = refl; faulty = refl };
  falses = omega arith;
  items = omega arith;
  idle = omega arith;
  stands = λ genesis s before v. subst (IsWorldOf k genesis s) (sym (append-nil before)) v;
  bursts = λ n l genesis s before v b. subst (HasBursts n k s) (sym (append-nil before)) b;
}

pub follows_on : (workers : ℕ) (one two three : KeptWorld) (xs ys : List Event) → Follows workers one xs two → Follows workers two ys three → Follows workers one (xs ++ ys) three
follows_on workers one two three xs ys a b = record {
  ground = record {
    table = b.ground.table ∙ a.ground.table;
    hashes = b.ground.hashes ∙ a.ground.hashes;
    pieces = b.ground.pieces ∙ a.ground.pieces;
    faulty = b.ground.faulty ∙ a.ground.faulty;
  };
  falses = omega (arith, a.falses, b.falses, sum_by-append (λ e. cond (is_false e) 1 0) xs ys);
  items = omega (arith, a.items, b.items, sum_by-append items_named xs ys);
  idle = omega (arith, a.idle, b.idle, length-append xs ys);
  stands = λ genesis s before v. subst (IsWorldOf three genesis s) (append_assoc before xs ys) (b.stands genesis s (before ++ xs) (a.stands genesis s before v));
  bursts = λ n l genesis s before v h. subst (HasBursts n three s) (append_assoc before xs ys)
      (b.bursts n l genesis s (before ++ xs) (a.stands genesis s before v) (a.bursts n l genesis s before v h));
}

-- EVENTS THAT ARE LEFT

only : {A : Type 0} (P : A → Type 0) (x : A) → P x → All P (x ∷ [])
only P x h zero d l = h
only P x h (suc i) d l = absurd (omega arith)

falses_next : (events : List Event) (i : ℕ) (e : Event) → i < length events → e ≡ get_or events i e → count_by is_false (take i events) + count_by is_false (e ∷ []) ≤ count_by is_false events
falses_next events i e l is =
    let f : Event → ℕ = λ x. cond (is_false x) 1 0 in
    let more : take (i + 1) events ≡ take i events ++ e ∷ [] = take_more events i e l ∙ ap (λ x. take i events ++ x ∷ []) (sym is) in
    let less : sum_by f (take (i + 1) events) ≤ sum_by f events = sum_by-take-le f events (i + 1) in
    omega (arith, less, ap (sum_by f) more, sum_by-append f (take i events) (e ∷ []))

items_next : (events : List Event) (i : ℕ) (e : Event) → i < length events → e ≡ get_or events i e → sum_by items_named (take i events) + sum_by items_named (e ∷ []) ≤ sum_by items_named events
items_next events i e l is =
    let more : take (i + 1) events ≡ take i events ++ e ∷ [] = take_more events i e l ∙ ap (λ x. take i events ++ x ∷ []) (sym is) in
    let less : sum_by items_named (take (i + 1) events) ≤ sum_by items_named events = sum_by-take-le items_named events (i + 1) in
    omega (arith, less, ap (sum_by items_named) more, sum_by-append items_named (take i events) (e ∷ []))

-- of events that a world can take, the one behind the first i can be taken then
pub can_take_next : (workers : ℕ) (old now : KeptWorld) (events : List Event) (i : ℕ) (e : Event) → i < length events → e ≡ get_or events i e → CanTake old events → Follows workers old (take i events) now → CanTake now (e ∷ [])
can_take_next workers old now events i e l is c f = record {
  each = λ genesis. only (IsLawfulEvent (setting_with (table_of now.table) genesis [] now.pieces now.faulty)) e
      (subst (λ (t : Table). IsLawfulEvent (setting_with (table_of t) genesis [] now.pieces now.faulty) e) (sym f.ground.table)
      (subst (λ ps. IsLawfulEvent (setting_with (table_of old.table) genesis [] ps now.faulty) e) (sym f.ground.pieces)
      (subst (λ ns. IsLawfulEvent (setting_with (table_of old.table) genesis [] old.pieces ns) e) (sym f.ground.faulty)
      (subst (IsLawfulEvent (setting_with (table_of old.table) genesis [] old.pieces old.faulty)) (sym is) (c.each genesis i e l)))));
  falses = omega (arith, c.falses, f.falses, falses_next events i e l is);
  items = omega (arith, c.items, f.items, items_next events i e l is);
  idle = omega (arith, c.idle, f.idle, length-take-le i events (omega (arith, l)), l);
}

pub follows_next : (workers : ℕ) (old now next : KeptWorld) (events : List Event) (i : ℕ) (e : Event) → i < length events → e ≡ get_or events i e → Follows workers old (take i events) now → Follows workers now (e ∷ []) next → Follows workers old (take (i + 1) events) next
follows_next workers old now next events i e l is f g =
    subst (λ xs. Follows workers old xs next) (ap (λ x. take i events ++ x ∷ []) is ∙ sym (take_more events i e l)) (follows_on workers old now next (take i events) (e ∷ []) f g)
