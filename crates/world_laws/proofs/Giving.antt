-- A message to each peer.
use Rattle.std.specs.Prelude.{ℕ, zero, suc, ◌+◌, ◌≡◌, ◌<◌, Bool, true, false, cond, List, [], ◌∷◌, ◌++◌, map, length, get_or, set, Option, Some, None, slice_get, IfSome, refl}
use Rattle.std.specs.List.{AllByRecursion}
use Rattle.std.proofs.Common.{sym, ◌∙◌, ap, subst, arith, ⊎_elim}
use Rattle.std.proofs.lemmas.Bool.{cases_eq}
use Rattle.std.proofs.lemmas.Option.{none-some, same_Some, slice_get-get_or}
use Rattle.std.proofs.lemmas.List.{append-nil, append_assoc, get_or_default, length-set, set-get_or, get_or-set_same, get_or-set_other}
use Rattle.txn_types.specs.declared.txn.Kind.{Kind}
use Rattle.txn_types.specs.declared.message.Commit.{Commit}
use Rattle.txn_types.specs.declared.message.Node.TheVariants.{Peer}
use Rattle.oxii_defs.specs.State.{State}
use Rattle.oxii_defs.specs.Table as meant
use Rattle.txn_core.specs.declared.table.Table.{Table}
use Rattle.txn_core.specs.MeantTable.{table_of}
use Rattle.node_defs.specs.Rules.{Rules}
use Rattle.node_defs.specs.Programs.{rules_of}
use Rattle.node_defs.specs.Log.{Letter, Log}
use Rattle.node_defs.specs.Sent.{sent}
use Rattle.node_defs.specs.World.{World, Setting, count_from, is_faulty, log_of, given_to, given_each, given_all, message_at, peers_of, said_by}
use Rattle.node_laws.proofs.AgreeSent.{all_append}
use Rattle.peer_laws.specs.Runs.{runs}
use Rattle.peer_turns.specs.declared.listing.BlockSpans.{BlockSpans}
use Rattle.peer_turns.specs.Peers.{IsLawfulMessage, KeptPeer}
use Rattle.peer_turns.specs.Relation.{rules_for}
use Rattle.peer_turns.specs.Traces.{AreTraced}
use Rattle.world_laws.specs.declared.burst.Burst.{Burst}
use Rattle.world_laws.specs.Deliveries.{AddsBursts, AreBurstsOf, Delivery, burst_at, deliveries_each, delivery_of, delivery_to, runs_at}
use Rattle.world_laws.specs.Shown.{AreOfTable, Gave, IsAlive, IsLawfulLetter, IsPeerFor, IsShown, Takes}
use Rattle.world_laws.proofs.Bursting.{adds_more, adds_none, traced_at}

-- POOLS

commits_lawful : (table : meant.Table) (p : ℕ) (cs : List Commit) → AllByRecursion (IsLawfulLetter table) (map (said_by p) cs)
commits_lawful table p [] = tt
commits_lawful table p (c ∷ cs) = (tt, commits_lawful table p cs)

pub lawful_more : (table : meant.Table) (p : ℕ) (pool : List Letter) (cs : List Commit) → AllByRecursion (IsLawfulLetter table) pool → AllByRecursion (IsLawfulLetter table) (pool ++ map (said_by p) cs)
lawful_more table p pool cs a = all_append (IsLawfulLetter table) pool (map (said_by p) cs) a (commits_lawful table p cs)

lawful_at : (table : meant.Table) (pool : List Letter) (m : ℕ) (d : Letter) → m < length pool → AllByRecursion (IsLawfulLetter table) pool → IsLawfulLetter table (get_or pool m d)
lawful_at table [] m d l a = absurd (omega arith)
lawful_at table (x ∷ pool) zero d l a = a.0
lawful_at table (x ∷ pool) (suc m) d l a = lawful_at table pool m d (omega arith) a.1

got_still : (pool more : List Letter) (m : ℕ) (x : Letter) → slice_get pool m ≡ Some x → slice_get (pool ++ more) m ≡ Some x
got_still [] more m x e = absurd (none-some x e)
got_still (y ∷ pool) more zero x e = e
got_still (y ∷ pool) more (suc m) x e = got_still pool more m x e

-- ONE PEER

-- what one turn of the fold makes
abbrev pub given_if : Setting → Letter → ℕ → World → World
given_if s x i u = cond (is_faulty s (Peer i)) u (given_to s u i x)

message_still : (s : Setting) (x : Letter) (i m : ℕ) (u : World) → message_at u (suc m) ≡ Some x → message_at (given_if s x i u) (suc m) ≡ Some x
message_still s x i m u e = one (is_faulty s (Peer i))
  where
    one : (b : Bool) → message_at (cond b u (given_to s u i x)) (suc m) ≡ Some x
    one true = e
    one false = got_still u.pool _ m x e

pub one_given : (table : Table) (workers : ℕ) (pool : List Letter) (idle : ℕ) (peers : List (Option KeptPeer)) (genesis : State) (s : Setting) (u : World) (x : Letter) (i : ℕ) (slot : Option KeptPeer) (commits : List Commit) (spans : List BlockSpans) →
    i < length table.peers → Gave workers x (get_or peers i None) slot commits spans → IsShown table pool idle peers genesis s u →
    IsShown table (pool ++ map (said_by i) commits) idle (set peers i slot) genesis s (given_if s x i u)
one_given table workers pool idle peers genesis s u x i slot commits spans l g h = one (get_or peers i None) refl g (h.each i l)
  where
    one : (o : Option KeptPeer) → get_or peers i None ≡ o → Gave workers x o slot commits spans → IsPeerFor table genesis s i (log_of u i) o →
        IsShown table (pool ++ map (said_by i) commits) idle (set peers i slot) genesis s (given_if s x i u)
    one None e k f =
        let same_pool : pool ++ map (said_by i) commits ≡ pool = ap (λ cs. pool ++ map (said_by i) cs) k.1 ∙ append-nil pool in
        let same_peers : set peers i slot ≡ peers = ap (λ o. set peers i o) (k.0 ∙ sym e) ∙ set-get_or peers i None in
        let same_world : given_if s x i u ≡ u = ap (λ b. cond b u (given_to s u i x)) f in
        subst (λ ps. IsShown table ps idle (set peers i slot) genesis s (given_if s x i u)) (sym same_pool)
        (subst (λ qs. IsShown table pool idle qs genesis s (given_if s x i u)) (sym same_peers)
        (subst (λ v. IsShown table pool idle peers genesis s v) (sym same_world) h))
    one (Some p) e k f = subst (λ v. IsShown table (pool ++ map (said_by i) commits) idle (set peers i slot) genesis s v)
        (sym (ap (λ b. cond b u (given_to s u i x)) f.working)) shown
      where
        q : KeptPeer
        q = k.0

        took : Takes workers x p q commits spans
        took = k.2

        L : Log
        L = x ∷ log_of u i

        rules_is : rules_for p genesis ≡ s.rules
        rules_is = ap (λ t. rules_of (table_of t) genesis) f.table_is ∙ sym h.rules_are

        sent_is : commits ≡ sent s.rules i L
        sent_is = took.sends genesis (log_of u i) f.stands ∙ (ap (λ r. sent r p.me L) rules_is ∙ ap (λ j. sent s.rules j L) f.me_is)

        alive : IsAlive table genesis s i L q
        alive = record { working = f.working; table_is = took.table_is ∙ f.table_is; me_is = took.me_is ∙ f.me_is; stands = took.stands genesis (log_of u i) f.stands }

        shown : IsShown table (pool ++ map (said_by i) commits) idle (set peers i slot) genesis s (given_to s u i x)
        shown = record {
          rules_are = h.rules_are;
          pool_is = ap (λ xs. xs ++ map (said_by i) commits) h.pool_is ∙ ap (λ cs. u.pool ++ map (said_by i) cs) sent_is;
          idle_is = h.idle_is;
          count = length-set peers i slot ∙ h.count;
          logs = length-set u.logs i L ∙ h.logs;
          each = λ j lj. ⊎_elim
              (λ same. subst (λ a. IsPeerFor table genesis s a (get_or (set u.logs i L) a []) (get_or (set peers i slot) a None)) (sym same)
              (subst (λ M. IsPeerFor table genesis s i M (get_or (set peers i slot) i None)) (sym (get_or-set_same u.logs i L [] (omega (arith, h.logs, l))))
              (subst (λ o. IsPeerFor table genesis s i L o) (sym (get_or-set_same peers i slot None (omega (arith, h.count, l)) ∙ k.1)) alive)))
              (λ other. subst (λ M. IsPeerFor table genesis s j M (get_or (set peers i slot) j None)) (sym (get_or-set_other u.logs i j L [] other))
              (subst (λ o. IsPeerFor table genesis s j (log_of u j) o) (sym (get_or-set_other peers i j slot None other)) (h.each j lj)))
              (cases_eq j i);
        }

-- the bursts of one delivery
pub one_burst : (table : Table) (workers : ℕ) (pool : List Letter) (idle : ℕ) (peers : List (Option KeptPeer)) (genesis : State) (s : Setting) (u : World) (x : Letter) (i : ℕ) (slot : Option KeptPeer) (commits : List Commit) (spans : List BlockSpans) (bursts : List Burst) →
    i < length table.peers → Gave workers x (get_or peers i None) slot commits spans → IsShown table pool idle peers genesis s u →
    AddsBursts s workers (delivery_to s u i (Some x)) bursts (bursts ++ map (burst_at i) spans)
one_burst table workers pool idle peers genesis s u x i slot commits spans bursts l g h = one (get_or peers i None) g (h.each i l)
  where
    -- to a faulty peer there is none
    none : spans ≡ [] → is_faulty s (Peer i) ≡ true → AddsBursts s workers (delivery_to s u i (Some x)) bursts (bursts ++ map (burst_at i) spans)
    none e f =
        subst (λ ds. AddsBursts s workers ds bursts (bursts ++ map (burst_at i) spans)) (sym (ap (λ b. cond b [] (delivery_of u i x ∷ [])) f))
        (subst (λ bs. AddsBursts s workers [] bursts bs) (sym (ap (λ zs. bursts ++ map (burst_at i) zs) e ∙ append-nil bursts)) (adds_none s workers bursts))

    some : (p : KeptPeer) → AreTraced p.table.kind workers (runs (rules_for p genesis) p.me (x ∷ log_of u i)) spans → IsAlive table genesis s i (log_of u i) p → AddsBursts s workers (delivery_to s u i (Some x)) bursts (bursts ++ map (burst_at i) spans)
    some p t f =
        let rules_is : rules_for p genesis ≡ s.rules = ap (λ t. rules_of (table_of t) genesis) f.table_is ∙ sym h.rules_are in
        let kind_is : p.table.kind ≡ s.rules.table.kind = ap (λ (r : Rules). r.table.kind) rules_is in
        let a = subst (λ (k : Kind). AreTraced k workers (runs (rules_for p genesis) p.me (x ∷ log_of u i)) spans) kind_is t in
        let b = subst (λ (r : Rules). AreTraced s.rules.table.kind workers (runs r p.me (x ∷ log_of u i)) spans) rules_is a in
        let c = subst (λ (j : ℕ). AreTraced s.rules.table.kind workers (runs s.rules j (x ∷ log_of u i)) spans) f.me_is b in
        let d = traced_at s.rules.table.kind workers i (runs s.rules i (x ∷ log_of u i)) spans c in
        subst (λ ds. AddsBursts s workers ds bursts (bursts ++ map (burst_at i) spans)) (sym (ap (λ b. cond b [] (delivery_of u i x ∷ [])) f.working))
        (map (burst_at i) spans, refl, subst (λ rs. AreBurstsOf s.rules.table.kind workers rs (map (burst_at i) spans)) (sym (append-nil (runs_at i (runs s.rules i (x ∷ log_of u i))))) d)

    one : (o : Option KeptPeer) → Gave workers x o slot commits spans → IsPeerFor table genesis s i (log_of u i) o → AddsBursts s workers (delivery_to s u i (Some x)) bursts (bursts ++ map (burst_at i) spans)
    one None k f = none k.2 f
    one (Some p) k f = some p (k.2.traced genesis (log_of u i) f.stands) f

of_table_more : (table : Table) (workers : ℕ) (peers : List (Option KeptPeer)) (x : Letter) (i : ℕ) (slot : Option KeptPeer) (commits : List Commit) (spans : List BlockSpans) →
    i < length peers → Gave workers x (get_or peers i None) slot commits spans → AreOfTable table peers → AreOfTable table (set peers i slot)
of_table_more table workers peers x i slot commits spans l g a = one (get_or peers i None) refl g
  where
    one : (o : Option KeptPeer) → get_or peers i None ≡ o → Gave workers x o slot commits spans → AreOfTable table (set peers i slot)
    one None e k = subst (AreOfTable table) (sym (ap (λ o. set peers i o) (k.0 ∙ sym e) ∙ set-get_or peers i None)) a
    one (Some p) e k = λ j r get. ⊎_elim
        (λ same. let got : Some k.0 ≡ Some r = sym (get_or-set_same peers i slot None l ∙ k.1) ∙ (ap (λ n. get_or (set peers i slot) n None) (sym same) ∙ get) in
        subst (λ (z : KeptPeer). z.table ≡ table) (same_Some k.0 r got) (k.2.table_is ∙ a i p e))
        (λ other. a j r (sym (get_or-set_other peers i j slot None other) ∙ get))
        (cases_eq j i)

-- EACH PEER

-- x went to the first i of n peers: w became a world that these parts show
pub record Halfway (table : Table) (workers : ℕ) (oldest : List Burst) (m i idle : ℕ) (pool : List Letter) (peers : List (Option KeptPeer)) (bursts : List Burst) (genesis : State) (s : Setting) (w : World) (x : Letter) : Type 0 where
  pub world : World
  pub shown : IsShown table pool idle peers genesis s world
  pub message : message_at world (suc m) ≡ Some x
  pub deliveries : List Delivery
  pub adds : AddsBursts s workers deliveries oldest bursts
  pub ends : (k : ℕ) → k + i ≡ length table.peers → given_each s x (count_from i k) world ≡ given_each s x (count_from 0 (length table.peers)) w
  pub delivers : (k : ℕ) → k + i ≡ length table.peers → deliveries_each s x (count_from 0 (length table.peers)) w ≡ deliveries ++ deliveries_each s x (count_from i k) world

pub record Giving (table : Table) (workers : ℕ) (old : List Letter) (olds : List (Option KeptPeer)) (oldest : List Burst) (m i : ℕ) (pool : List Letter) (peers : List (Option KeptPeer)) (bursts : List Burst) : Type 0 where
  pub lawful : AllByRecursion (IsLawfulLetter (table_of table)) pool
  pub of_table : AreOfTable table peers
  pub count : length peers ≡ length table.peers
  pub here : m < length pool
  pub given : (idle : ℕ) (genesis : State) (s : Setting) (w : World) (x : Letter) → message_at w (suc m) ≡ Some x → IsShown table old idle olds genesis s w →
      Halfway table workers oldest m i idle pool peers bursts genesis s w x

pub giving_none : (table : Table) (workers : ℕ) (pool : List Letter) (peers : List (Option KeptPeer)) (bursts : List Burst) (m : ℕ) →
    AllByRecursion (IsLawfulLetter (table_of table)) pool → AreOfTable table peers → length peers ≡ length table.peers → m < length pool → Giving table workers pool peers bursts m 0 pool peers bursts
giving_none table workers pool peers bursts m a b c l = record {
  lawful = a;
  of_table = b;
  count = c;
  here = l;
  given = λ idle genesis s w x e h. record {
    world = w;
    shown = h;
    message = e;
    deliveries = [];
    adds = adds_none s workers bursts;
    ends = λ k f. let g : k ≡ length table.peers = omega (arith, f) in ap (λ n. given_each s x (count_from 0 n) w) g;
    delivers = λ k f. let g : length table.peers ≡ k = omega (arith, f) in ap (λ n. deliveries_each s x (count_from 0 n) w) g;
  };
}

-- the message is that of the pool
same_message : (table : Table) (pool : List Letter) (idle : ℕ) (peers : List (Option KeptPeer)) (genesis : State) (s : Setting) (u : World) (m : ℕ) (x y : Letter) →
    m < length pool → y ≡ get_or pool m y → IsShown table pool idle peers genesis s u → message_at u (suc m) ≡ Some x → y ≡ x
same_message table pool idle peers genesis s u m x y l e h f =
    same_Some y x (ap (λ (z : Letter). Some z) e ∙ (sym (slice_get-get_or pool m y l) ∙ (ap (λ xs. slice_get xs m) h.pool_is ∙ f)))

longer : (p : ℕ) (pool : List Letter) (cs : List Commit) (m : ℕ) → m < length pool → m < length (pool ++ map (said_by p) cs)
longer p [] cs m l = absurd (omega arith)
longer p (x ∷ pool) cs zero l = omega arith
longer p (x ∷ pool) cs (suc m) l = let h = longer p pool cs m (omega arith) in omega (arith, h)

pub giving_more : (table : Table) (workers : ℕ) (old : List Letter) (olds : List (Option KeptPeer)) (oldest : List Burst) (m i : ℕ) (pool pool2 : List Letter) (peers peers2 : List (Option KeptPeer)) (bursts bursts2 : List Burst) (y : Letter) (slot : Option KeptPeer) (commits : List Commit) (spans : List BlockSpans) →
    i < length table.peers → y ≡ get_or pool m y → Gave workers y (get_or peers i None) slot commits spans →
    pool2 ≡ pool ++ map (said_by i) commits → peers2 ≡ set peers i slot → bursts2 ≡ bursts ++ map (burst_at i) spans →
    Giving table workers old olds oldest m i pool peers bursts → Giving table workers old olds oldest m (suc i) pool2 peers2 bursts2
giving_more table workers old olds oldest m i pool pool2 peers peers2 bursts bursts2 y slot commits spans l e g pool_is peers_are bursts_are v =
    subst (λ ps. Giving table workers old olds oldest m (suc i) ps peers2 bursts2) (sym pool_is)
    (subst (λ qs. Giving table workers old olds oldest m (suc i) (pool ++ map (said_by i) commits) qs bursts2) (sym peers_are)
    (subst (λ bs. Giving table workers old olds oldest m (suc i) (pool ++ map (said_by i) commits) (set peers i slot) bs) (sym bursts_are) (record {
      lawful = lawful_more (table_of table) i pool commits v.lawful;
      of_table = of_table_more table workers peers y i slot commits spans (omega (arith, v.count, l)) g v.of_table;
      count = length-set peers i slot ∙ v.count;
      here = longer i pool commits m v.here;
      given = λ idle genesis s w x f h.
          let r = v.given idle genesis s w x f h in
          let u = r.world in
          let same = same_message table pool idle peers genesis s u m x y v.here e r.shown r.message in
          let gave = subst (λ z. Gave workers z (get_or peers i None) slot commits spans) same g in
          record {
            world = given_if s x i u;
            shown = one_given table workers pool idle peers genesis s u x i slot commits spans l gave r.shown;
            message = message_still s x i m u r.message;
            deliveries = r.deliveries ++ delivery_to s u i (Some x);
            adds = adds_more s workers r.deliveries (delivery_to s u i (Some x)) oldest bursts (bursts ++ map (burst_at i) spans) r.adds
                (one_burst table workers pool idle peers genesis s u x i slot commits spans bursts l gave r.shown);
            ends = λ k n. let n2 : suc k + i ≡ length table.peers = omega (arith, n) in r.ends (suc k) n2;
            delivers = λ k n. let n2 : suc k + i ≡ length table.peers = omega (arith, n) in
                r.delivers (suc k) n2 ∙ sym (append_assoc r.deliveries (delivery_to s u i (Some x)) (deliveries_each s x (count_from (suc i) k) (given_if s x i u)));
          };
    })))

pub giving_all : (table : Table) (workers : ℕ) (old : List Letter) (olds : List (Option KeptPeer)) (oldest : List Burst) (m i : ℕ) (pool : List Letter) (peers : List (Option KeptPeer)) (bursts : List Burst) →
    i ≡ length table.peers → Giving table workers old olds oldest m i pool peers bursts →
    (idle : ℕ) (genesis : State) (s : Setting) (w : World) (x : Letter) → message_at w (suc m) ≡ Some x → IsShown table old idle olds genesis s w →
    IsShown table pool idle peers genesis s (given_all s x w) × AddsBursts s workers (deliveries_each s x (count_from 0 (peers_of s)) w) oldest bursts
giving_all table workers old olds oldest m i pool peers bursts e v = λ idle genesis s w x f h.
    let r = v.given idle genesis s w x f h in
    let n : length table.peers ≡ peers_of s = ap (λ (t : Rules). length t.table.peers) (sym h.rules_are) in
    let z : 0 + i ≡ length table.peers = omega (arith, e) in
    let d : deliveries_each s x (count_from 0 (peers_of s)) w ≡ r.deliveries = ap (λ k. deliveries_each s x (count_from 0 k) w) (sym n) ∙ (r.delivers 0 z ∙ append-nil r.deliveries) in (
      subst (λ u. IsShown table pool idle peers genesis s u) (r.ends 0 z ∙ ap (λ k. given_each s x (count_from 0 k) w) n) r.shown,
      subst (λ ds. AddsBursts s workers ds oldest bursts) (sym d) r.adds,
    )

-- AS THE CODE MEETS IT

pub slot_is : (peers : List (Option KeptPeer)) (i : ℕ) (d : Option KeptPeer) → i < length peers → get_or peers i d ≡ get_or peers i None
slot_is peers i d l = get_or_default peers i d None l

pub give_lawful : (table : Table) (peers : List (Option KeptPeer)) (i : ℕ) (d : Option KeptPeer) (pool : List Letter) (m : ℕ) (y : Letter) → i < length peers → m < length pool → y ≡ get_or pool m y →
    AreOfTable table peers → AllByRecursion (IsLawfulLetter (table_of table)) pool → IfSome (get_or peers i d) (λ p. IsLawfulMessage (table_of p.table) y.message)
give_lawful table peers i d pool m y l k e a b = subst (λ o. IfSome o (λ p. IsLawfulMessage (table_of p.table) y.message)) (sym (slot_is peers i d l)) (one (get_or peers i None) refl)
  where
    here : IsLawfulLetter (table_of table) y
    here = subst (IsLawfulLetter (table_of table)) (sym e) (lawful_at (table_of table) pool m y k b)

    one : (o : Option KeptPeer) → get_or peers i None ≡ o → IfSome o (λ p. IsLawfulMessage (table_of p.table) y.message)
    one None f = tt
    one (Some p) f = subst (λ t. IsLawfulMessage (table_of t) y.message) (sym (a i p f)) here
