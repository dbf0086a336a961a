-- Worlds whose peers heard messages of the pool alone, and how many messages their pools have.
use Rattle.std.specs.Prelude.{ℕ, ◌+◌, ◌*◌, ◌^◌, ◌≡◌, ◌<◌, ◌≤◌, Bool, true, false, cond, List, [], ◌∷◌, ◌++◌, length, Option, Some, None, refl}
use Rattle.std.proofs.Common.{sym, ap, subst, arith}
use Rattle.std.proofs.lemmas.Option.{same_Some}
use Rattle.std.proofs.lemmas.List.{length-append}
use Rattle.txn_types.specs.declared.message.Node.{Node}
use Rattle.txn_types.specs.declared.message.Node.TheVariants.{Peer}
use Rattle.txn_types.specs.declared.message.Message.{Message}
use Rattle.txn_types.specs.declared.event.Event.{Event}
use Rattle.txn_types.specs.declared.event.Event.TheVariants as event
use Rattle.oxii_defs.specs.State.{State}
use Rattle.txn_core.specs.declared.table.Table.{Table}
use Rattle.txn_core.specs.MeantTable.{table_of}
use Rattle.node_defs.specs.Rules.{IsLocal, Rules}
use Rattle.node_defs.specs.Log.{Letter}
use Rattle.node_defs.specs.World.{Setting, World, delivered, given_to, happens, idled, is_faulty, message_at, peers_of, says}
use Rattle.node_laws.specs.OneWorld.{most_messages, txns_carried, txns_carried_by}
use Rattle.node_laws.specs.Fed.{IsFed}
use Rattle.node_laws.proofs.Ends.{IsFrom, carried_more, ends, from_itself, given_from, message_has, of_more, totals_fit}
use Rattle.node_laws.proofs.Run.{same_world}
use Rattle.node_laws.proofs.Same.{rules_local}
use Rattle.peer_turns.specs.Peers.{KeptPeer}
use Rattle.world_laws.specs.declared.burst.Burst.{Burst}
use Rattle.world_laws.specs.Shown.{IsReached, IsShown, Moves, idles}

pub local_rules : (table : Table) (faulty : List Node) (pool : List Letter) (peers : List (Option KeptPeer)) (falses items : ℕ) (k : IsReached table faulty pool peers falses items) → IsLocal k.setting.rules
local_rules table faulty pool peers falses items k = subst IsLocal (sym k.shown.rules_are) (rules_local (table_of table) k.genesis)

-- DELIVERIES

-- an event that delivers, to one of n peers or to all
abbrev pub IsDelivering : ℕ → Event → Type 0
IsDelivering n (event.Deliver msg to) = to < n
IsDelivering n event.All = Unit {0}
IsDelivering n (event.SayBlock from number prev items preds) = ⊥
IsDelivering n (event.SayCommit from commit) = ⊥

idle_from : (s : Setting) (w : World) → IsFed s w → IsFrom s w (idled w)
idle_from s w fed = record { fed = record { logs = fed.logs; count = fed.count }; sent = refl; carried = refl; more = λ x h. h }

one_from : (s : Setting) (w : World) (msg p : ℕ) → p < peers_of s → IsFed s w → IsFrom s w (delivered s w p (message_at w msg))
one_from s w msg p l fed = one (message_at w msg) refl
  where
    one : (o : Option Letter) → message_at w msg ≡ o → IsFrom s w (delivered s w p o)
    one None e = idle_from s w fed
    one (Some x) e = elim (is_faulty s (Peer p)) as (λ b. IsFrom s w (cond b (idled w) (given_to s w p x)))
        [ true ↦ idle_from s w fed | false ↦ given_from s w w p x l (message_has w msg x e).0 (from_itself s w fed) ]

event_from : (s : Setting) → IsLocal s.rules → (w u : World) (turns : ℕ) (e : Event) → IsDelivering (peers_of s) e → happens s turns w e ≡ Some u → IsFed s w → IsFrom s w u
event_from s local w u turns (event.Deliver msg p) l h fed = subst (IsFrom s w) (same_Some (delivered s w p (message_at w msg)) u h) (one_from s w msg p l fed)
event_from s local w u turns event.All l h fed =
    let r = ends s local w fed in
    let same : r.0 ≡ u = same_world s (event.All ∷ []) w r.0 u (r.0, (most_messages s w, r.1), refl) (u, (turns, h), refl) in
    subst (IsFrom s w) same r.2
event_from s local w u turns (event.SayBlock from number prev items preds) l h fed = absurd l
event_from s local w u turns (event.SayCommit from commit) l h fed = absurd l

pub reached_moved : (table : Table) (faulty : List Node) (workers : ℕ) (e : Event) (idly : Bool) (pool pool2 : List Letter) (peers peers2 : List (Option KeptPeer)) (bursts bursts2 : List Burst) (falses items : ℕ) →
    IsDelivering (length table.peers) e → Moves table workers e idly pool peers bursts pool2 peers2 bursts2 → IsReached table faulty pool peers falses items → IsReached table faulty pool2 peers2 falses items
reached_moved table faulty workers e idly pool pool2 peers peers2 bursts bursts2 falses items l f k =
    let s = k.setting in
    let w = k.world in
    let r = f k.idle k.genesis s w k.shown in
    let n : length table.peers ≡ peers_of s = sym (ap (λ (t : Rules). length t.table.peers) k.shown.rules_are) in
    let from = event_from s (local_rules table faulty pool peers falses items k) w r.1 r.0 e (subst (λ m. IsDelivering m e) n l) r.2 k.fed in
    record {
      idle = idles idly k.idle;
      genesis = k.genesis;
      setting = s;
      world = r.1;
      faulty_are = k.faulty_are;
      shown = r.3;
      fed = from.fed;
      few = omega (arith, k.few, from.sent);
      carried = omega (arith, k.carried, from.carried);
    }

-- WHAT IS SAID

pub said_shown : (table : Table) (pool : List Letter) (idle : ℕ) (peers : List (Option KeptPeer)) (from : Node) (m : Message) (genesis : State) (s : Setting) (w : World) →
    IsShown table pool idle peers genesis s w → IsShown table (pool ++ record { from = from; message = m } ∷ []) idle peers genesis s (says w from m)
said_shown table pool idle peers from m genesis s w h = record {
  rules_are = h.rules_are;
  pool_is = ap (λ (xs : List Letter). xs ++ record { from = from; message = m } ∷ []) h.pool_is;
  idle_is = h.idle_is;
  count = h.count;
  logs = h.logs;
  each = h.each;
}

pub reached_said : (table : Table) (faulty : List Node) (pool : List Letter) (peers : List (Option KeptPeer)) (falses items n : ℕ) (from : Node) (m : Message) →
    txns_carried_by m ≤ n → IsReached table faulty pool peers falses items → IsReached table faulty (pool ++ record { from = from; message = m } ∷ []) peers (falses + 1) (items + n)
reached_said table faulty pool peers falses items n from m l k =
    let x : Letter = record { from = from; message = m } in
    let w = k.world in
    record {
      idle = k.idle;
      genesis = k.genesis;
      setting = k.setting;
      world = says w from m;
      faulty_are = k.faulty_are;
      shown = said_shown table pool k.idle peers from m k.genesis k.setting w k.shown;
      fed = record { logs = of_more w.pool (x ∷ []) w.logs k.fed.logs; count = k.fed.count };
      few = omega (arith, k.few, length-append w.pool (x ∷ []));
      carried = omega (arith, k.carried, l, carried_more w.pool (x ∷ []));
    }

-- HOW MANY

times_few : (a b c d : ℕ) → a ≤ c → b ≤ d → a * b ≤ c * d
times_few a b c d p q = grind arith

pub few_messages : (table : Table) (faulty : List Node) (pool : List Letter) (peers : List (Option KeptPeer)) (falses items : ℕ) →
    length table.peers ≤ 16 → falses ≤ 1024 → items ≤ 16384 → IsReached table faulty pool peers falses items → length pool < 2 ^ 32
few_messages table faulty pool peers falses items p f i k =
    let s = k.setting in
    let w = k.world in
    let sent = totals_fit s.rules (local_rules table faulty pool peers falses items k) 0 w.logs w.pool k.fed.logs in
    let most = times_few (length w.logs) (txns_carried w.pool) 16 81920 (omega (arith, k.shown.logs, p)) (omega (arith, k.carried, i)) in
    omega (arith, sent, most, k.few, f, ap length k.shown.pool_is)
