-- Each message to each peer: new ones are reached, and it ends.
use Rattle.std.specs.Prelude.{ℕ, suc, ◌+◌, ◌*◌, ◌≡◌, ◌<◌, ◌≤◌, false, List, [], ◌++◌, length, Option, Some, None, slice_get}
use Rattle.std.specs.List.{AllByRecursion}
use Rattle.std.proofs.Common.{sym, ◌∙◌, ap, subst, arith, ⊎_elim}
use Rattle.std.proofs.lemmas.Bool.{cases_eq}
use Rattle.std.proofs.lemmas.Option.{none-some, slice_get_cases, slice_get_past}
use Rattle.std.proofs.lemmas.List.{append-nil, append_assoc}
use Rattle.txn_types.specs.declared.event.Event.TheVariants as event
use Rattle.txn_types.specs.declared.message.Node.{Node}
use Rattle.oxii_defs.specs.State.{State}
use Rattle.txn_core.specs.declared.table.Table.{Table}
use Rattle.txn_core.specs.MeantTable.{table_of}
use Rattle.node_defs.specs.Rules.{Rules}
use Rattle.node_defs.specs.Log.{Letter}
use Rattle.node_defs.specs.World.{World, Setting, all_from, count_from, given_all, message_at, peers_of}
use Rattle.node_laws.specs.OneWorld.{most_messages, txns_carried}
use Rattle.node_laws.proofs.Ends.{ends}
use Rattle.peer_turns.specs.Peers.{KeptPeer}
use Rattle.world_laws.specs.declared.burst.Burst.{Burst}
use Rattle.world_laws.specs.Deliveries.{AddsBursts, Delivery, deliveries_all, deliveries_each}
use Rattle.world_laws.specs.Shown.{AreOfTable, IsLawfulLetter, IsReached, IsShown, Moves}
use Rattle.world_laws.proofs.Bursting.{adds_more, adds_none}
use Rattle.world_laws.proofs.Reaching.{local_rules}

-- how many turns it has at most
abbrev pub most_turns : List Letter → List (Option KeptPeer) → ℕ
most_turns pool peers = length pool + length peers * txns_carried pool

-- m messages went to each peer: w became a world that these parts show
pub record Along (table : Table) (workers : ℕ) (oldest : List Burst) (m idle : ℕ) (pool : List Letter) (peers : List (Option KeptPeer)) (bursts : List Burst) (genesis : State) (s : Setting) (w : World) : Type 0 where
  pub world : World
  pub shown : IsShown table pool idle peers genesis s world
  pub deliveries : List Delivery
  pub adds : AddsBursts s workers deliveries oldest bursts
  pub ends : (turns : ℕ) → all_from s (m + turns) 1 w ≡ all_from s turns (suc m) world
  pub delivers : (turns : ℕ) → deliveries_all s (m + turns) 1 w ≡ deliveries ++ deliveries_all s turns (suc m) world

pub record AllUpTo (table : Table) (workers : ℕ) (old : List Letter) (olds : List (Option KeptPeer)) (oldest : List Burst) (m : ℕ) (pool : List Letter) (peers : List (Option KeptPeer)) (bursts : List Burst) : Type 0 where
  pub lawful : AllByRecursion (IsLawfulLetter (table_of table)) pool
  pub of_table : AreOfTable table peers
  pub count : length peers ≡ length table.peers
  pub within : m ≤ most_turns old olds
  pub given : (idle : ℕ) (genesis : State) (s : Setting) (w : World) → IsShown table old idle olds genesis s w → Along table workers oldest m idle pool peers bursts genesis s w

pub turns_none : (table : Table) (workers : ℕ) (pool : List Letter) (peers : List (Option KeptPeer)) (bursts : List Burst) →
    AllByRecursion (IsLawfulLetter (table_of table)) pool → AreOfTable table peers → length peers ≡ length table.peers → AllUpTo table workers pool peers bursts 0 pool peers bursts
turns_none table workers pool peers bursts a b c = record {
  lawful = a;
  of_table = b;
  count = c;
  within = omega arith;
  given = λ idle genesis s w h. record {
    world = w;
    shown = h;
    deliveries = [];
    adds = adds_none s workers bursts;
    ends = λ turns. let e : 0 + turns ≡ turns = omega arith in ap (λ n. all_from s n 1 w) e;
    delivers = λ turns. let e : 0 + turns ≡ turns = omega arith in ap (λ n. deliveries_all s n 1 w) e;
  };
}

has_letter : (pool : List Letter) (m : ℕ) → m < length pool → (x : Letter) × (slice_get pool m ≡ Some x)
has_letter pool m l = ⊎_elim (λ a. (a.0, a.2)) (λ b. absurd (omega (arith, b.0, l))) (slice_get_cases pool m).1

all_step : (s : Setting) (turns m : ℕ) (u : World) (x : Letter) → message_at u m ≡ Some x → all_from s (suc turns) m u ≡ all_from s turns (suc m) (given_all s x u)
all_step s turns m u x e = ap (λ (o : Option Letter). elim o [ None ↦ Some u | Some y ↦ all_from s turns (suc m) (given_all s y u) ]) e

each_step : (s : Setting) (turns m : ℕ) (u : World) (x : Letter) → message_at u m ≡ Some x → deliveries_all s (suc turns) m u ≡ deliveries_each s x (count_from 0 (peers_of s)) u ++ deliveries_all s turns (suc m) (given_all s x u)
each_step s turns m u x e = ap (λ (o : Option Letter). elim o [ None ↦ [] | Some y ↦ deliveries_each s y (count_from 0 (peers_of s)) u ++ deliveries_all s turns (suc m) (given_all s y u) ]) e

-- where a message is left, so is a turn
pub turns_left : (table : Table) (faulty : List Node) (workers falses items : ℕ) (old : List Letter) (olds : List (Option KeptPeer)) (oldest : List Burst) (m : ℕ) (pool : List Letter) (peers : List (Option KeptPeer)) (bursts : List Burst) →
    IsReached table faulty old olds falses items → m < length pool → AllUpTo table workers old olds oldest m pool peers bursts → m < most_turns old olds
turns_left table faulty workers falses items old olds oldest m pool peers bursts k l v = ⊎_elim (λ last. absurd (stuck last)) (λ more. omega (arith, more, v.within)) (cases_eq m (most_turns old olds))
  where
    s : Setting
    s = k.setting

    r : Along table workers oldest m k.idle pool peers bursts k.genesis s k.world
    r = v.given k.idle k.genesis s k.world k.shown

    same : most_messages s k.world ≡ most_turns old olds
    same = ap (λ (xs : List Letter). length xs + peers_of s * txns_carried xs) (sym k.shown.pool_is)
        ∙ ap (λ n. length old + n * txns_carried old) (ap (λ (t : Rules). length t.table.peers) k.shown.rules_are ∙ sym k.shown.count)

    stuck : m ≡ most_turns old olds → ⊥
    stuck last =
        let e = ends s (local_rules table faulty old olds falses items k) k.world k.fed in
        let got = has_letter pool m l in
        let there : message_at r.world (suc m) ≡ Some got.0 = sym (ap (λ xs. slice_get xs m) r.shown.pool_is) ∙ got.1 in
        let n : most_messages s k.world ≡ m + 0 = omega (arith, same, last) in
        let none : all_from s (most_messages s k.world) 1 k.world ≡ None = ap (λ t. all_from s t 1 k.world) n ∙ (r.ends 0 ∙ ap (λ (o : Option Letter). elim o [ None ↦ Some r.world | Some x ↦ None ]) there) in
        none-some e.0 (sym none ∙ e.1)

pub turns_more : (table : Table) (workers : ℕ) (old : List Letter) (olds : List (Option KeptPeer)) (oldest : List Burst) (m : ℕ) (pool pool2 : List Letter) (peers peers2 : List (Option KeptPeer)) (bursts bursts2 : List Burst) →
    m < length pool → m < most_turns old olds →
    AllByRecursion (IsLawfulLetter (table_of table)) pool2 → AreOfTable table peers2 → length peers2 ≡ length table.peers →
    ((idle : ℕ) (genesis : State) (s : Setting) (w : World) (x : Letter) → message_at w (suc m) ≡ Some x → IsShown table pool idle peers genesis s w →
    IsShown table pool2 idle peers2 genesis s (given_all s x w) × AddsBursts s workers (deliveries_each s x (count_from 0 (peers_of s)) w) bursts bursts2) →
    AllUpTo table workers old olds oldest m pool peers bursts → AllUpTo table workers old olds oldest (suc m) pool2 peers2 bursts2
turns_more table workers old olds oldest m pool pool2 peers peers2 bursts bursts2 l left a b c f v = record {
  lawful = a;
  of_table = b;
  count = c;
  within = omega (arith, left);
  given = λ idle genesis s w h.
      let r = v.given idle genesis s w h in
      let u = r.world in
      let got = has_letter pool m l in
      let x = got.0 in
      let e : message_at u (suc m) ≡ Some x = sym (ap (λ xs. slice_get xs m) r.shown.pool_is) ∙ got.1 in
      let g = f idle genesis s u x e r.shown in
      let mine = deliveries_each s x (count_from 0 (peers_of s)) u in
      record {
        world = given_all s x u;
        shown = g.0;
        deliveries = r.deliveries ++ mine;
        adds = adds_more s workers r.deliveries mine oldest bursts bursts2 r.adds g.1;
        ends = λ turns. let n : suc m + turns ≡ m + suc turns = omega arith in
            ap (λ k. all_from s k 1 w) n ∙ (r.ends (suc turns) ∙ all_step s turns (suc m) u x e);
        delivers = λ turns. let n : suc m + turns ≡ m + suc turns = omega arith in
            ap (λ k. deliveries_all s k 1 w) n ∙ (r.delivers (suc turns) ∙ (ap (λ ds. r.deliveries ++ ds) (each_step s turns (suc m) u x e)
            ∙ sym (append_assoc r.deliveries mine (deliveries_all s turns (suc (suc m)) (given_all s x u)))));
      };
}

pub turns_all : (table : Table) (workers : ℕ) (old : List Letter) (olds : List (Option KeptPeer)) (oldest : List Burst) (m : ℕ) (pool : List Letter) (peers : List (Option KeptPeer)) (bursts : List Burst) →
    length pool ≤ m → AllUpTo table workers old olds oldest m pool peers bursts → Moves table workers event.All false old olds oldest pool peers bursts
turns_all table workers old olds oldest m pool peers bursts l v = λ idle genesis s w h.
    let r = v.given idle genesis s w h in
    let none : message_at r.world (suc m) ≡ None = slice_get_past r.world.pool m (omega (arith, l, ap length (sym r.shown.pool_is))) in
    let d : deliveries_all s (m + 0) 1 w ≡ r.deliveries = r.delivers 0 ∙ append-nil r.deliveries in (
      m + 0,
      r.world,
      r.ends 0 ∙ ap (λ (o : Option Letter). elim o [ None ↦ Some r.world | Some x ↦ None ]) none,
      r.shown,
      subst (λ ds. AddsBursts s workers ds oldest bursts) (sym d) r.adds,
    )
