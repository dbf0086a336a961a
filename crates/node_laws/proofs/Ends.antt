-- `all` ends: the pool grows by no more than the peers can send.
use Rattle.std.specs.Prelude.{ℕ, ◌+◌, ◌*◌, ◌<◌, ◌≤◌, ◌≡◌, Bool, true, false, cond, List, [], ◌∷◌, ◌++◌, map, length, get_or, set, replicate, Option, Some, None, zero, suc, refl, slice_get}
use Rattle.std.specs.List.{AllByRecursion}
use Rattle.std.proofs.Common.{sym, ◌∙◌, ap, arith, subst, inl, inr}
use Rattle.std.proofs.lemmas.Option.{none-some, same_Some}
use Rattle.std.proofs.lemmas.List.{length-append, length-map, length-set}
use Rattle.txn_types.specs.declared.event.Event.TheVariants as event
use Rattle.node_defs.specs.Log.{Letter, Log}
use Rattle.node_defs.specs.Rules.{IsLocal, Rules}
use Rattle.node_defs.specs.Sent.{sent}
use Rattle.node_defs.specs.World.{Happens, LeadTo, Setting, World, all_from, count_from, delivered, first_pool, given_to, given_all, given_each, idled, is_faulty, message_at, peers_of, said_by, start}
use Rattle.node_defs.specs.Programs.{setting_of}
use Rattle.node_laws.proofs.Run.{same_world}
use Rattle.node_laws.proofs.Same.{rules_local}
use Rattle.node_laws.proofs.Totals.{total_fits}
use Rattle.node_laws.specs.Fed.{Has, IsFed, IsOf, total, totals}
use Rattle.node_laws.specs.OneWorld.{AllEnds, OneWorld, most_messages, txns_carried}
use Rattle.txn_types.specs.declared.event.Event.{Event}
use Rattle.txn_types.specs.declared.message.Commit.{Commit}
use Rattle.txn_types.specs.declared.message.Node.TheVariants.{Peer}

-- WORLDS WHOSE LOGS COME FROM THE POOL

pub in_more : (pool more : List Letter) (x : Letter) → Has x pool → Has x (pool ++ more)
in_more [] more x h = absurd h
in_more (y ∷ pool) more x (inl e) = inl e
in_more (y ∷ pool) more x (inr h) = inr (in_more pool more x h)

pub of_more : (pool more : List Letter) (logs : List Log) → AllByRecursion (IsOf pool) logs → AllByRecursion (IsOf (pool ++ more)) logs
of_more pool more [] a = tt
of_more pool more (L ∷ logs) a = (λ x h. in_more pool more x (a.0 x h), of_more pool more logs a.1)

log_in : (pool : List Letter) (logs : List Log) (p : ℕ) → AllByRecursion (IsOf pool) logs → IsOf pool (get_or logs p [])
log_in pool [] p a = λ x h. absurd h
log_in pool (L ∷ logs) zero a = a.0
log_in pool (L ∷ logs) (suc p) a = log_in pool logs p a.1

set_in : (pool : List Letter) (logs : List Log) (p : ℕ) (L : Log) → AllByRecursion (IsOf pool) logs → IsOf pool L → AllByRecursion (IsOf pool) (set logs p L)
set_in pool [] zero L a h = a
set_in pool [] (suc p) L a h = a
set_in pool (M ∷ logs) zero L a h = (h, a.1)
set_in pool (M ∷ logs) (suc p) L a h = (a.0, set_in pool logs p L a.1 h)

log_more : (pool : List Letter) (x : Letter) (L : Log) → Has x pool → IsOf pool L → IsOf pool (x ∷ L)
log_more pool x L h sub y (inl e) = subst (λ (z : Letter). Has z pool) (sym e) h
log_more pool x L h sub y (inr k) = sub y k

pub given_fed : (s : Setting) (w : World) (p : ℕ) (x : Letter) → Has x w.pool → IsFed s w → IsFed s (given_to s w p x)
given_fed s w p x h fed =
    let L = x ∷ get_or w.logs p [] in
    let more = map (said_by p) (sent s.rules p L) in
    record {
      logs = set_in (w.pool ++ more) w.logs p L (of_more w.pool more w.logs fed.logs)
          (λ y k. in_more w.pool more y (log_more w.pool x (get_or w.logs p []) h (log_in w.pool w.logs p fed.logs) y k));
      count = length-set w.logs p L ∙ fed.count;
    }

pub carried_more : (pool more : List Letter) → txns_carried (pool ++ more) ≡ txns_carried pool + txns_carried more
carried_more [] more = omega arith
carried_more (x ∷ pool) more = let e = carried_more pool more in omega arith

commits_carry : (p : ℕ) (cs : List Commit) → txns_carried (map (said_by p) cs) ≡ 0
commits_carry p [] = refl
commits_carry p (c ∷ cs) = let e = commits_carry p cs in omega arith

-- WHAT THE PEERS SENT

totals_set : (rules : Rules) (i : ℕ) (logs : List Log) (p : ℕ) (L : Log) → p < length logs → totals rules i (set logs p L) + total rules (i + p) (get_or logs p []) ≡ totals rules i logs + total rules (i + p) L
totals_set rules i [] p L h = absurd (omega arith)
totals_set rules i (M ∷ logs) zero L h =
    let e : i + 0 ≡ i = omega arith in
    let f : total rules (i + 0) M ≡ total rules i M = ap (λ j. total rules j M) e in
    let g : total rules (i + 0) L ≡ total rules i L = ap (λ j. total rules j L) e in
    omega arith
totals_set rules i (M ∷ logs) (suc p) L h =
    let e : i + suc p ≡ suc i + p = omega arith in
    let f : total rules (i + suc p) (get_or logs p []) ≡ total rules (suc i + p) (get_or logs p []) = ap (λ j. total rules j (get_or logs p [])) e in
    let g : total rules (i + suc p) L ≡ total rules (suc i + p) L = ap (λ j. total rules j L) e in
    let more = totals_set rules (suc i) logs p L (omega arith) in
    omega arith

pub totals_fit : (rules : Rules) → IsLocal rules → (i : ℕ) (logs : List Log) (pool : List Letter) → AllByRecursion (IsOf pool) logs → totals rules i logs ≤ length logs * txns_carried pool
totals_fit rules l i [] pool a = omega arith
totals_fit rules l i (L ∷ logs) pool a =
    let h = totals_fit rules l (suc i) logs pool a.1 in
    let k = total_fits rules l i L pool a.0 in
    let e = times (length logs) (txns_carried pool) in
    omega (arith, h, k, e)
  where
    times : (a b : ℕ) → suc a * b ≡ b + a * b
    times a b = grind arith

-- one world comes from the other by deliveries: the pool grew by what was sent
pub record IsFrom (s : Setting) (w u : World) : Type 0 where
  pub fed : IsFed s u
  pub sent : length u.pool + totals s.rules 0 w.logs ≡ length w.pool + totals s.rules 0 u.logs
  pub carried : txns_carried u.pool ≡ txns_carried w.pool
  pub more : (x : Letter) → Has x w.pool → Has x u.pool

pub from_itself : (s : Setting) (w : World) → IsFed s w → IsFrom s w w
from_itself s w fed = record { fed = fed; sent = refl; carried = refl; more = λ x h. h }

pub given_from : (s : Setting) (w u : World) (p : ℕ) (x : Letter) → p < peers_of s → Has x u.pool → IsFrom s w u → IsFrom s w (given_to s u p x)
given_from s w u p x l h from =
    let L = x ∷ get_or u.logs p [] in
    let more = map (said_by p) (sent s.rules p L) in
    let here : p < length u.logs = omega (arith, from.fed.count) in
    let set_it = totals_set s.rules 0 u.logs p L here in
    let zero_add : 0 + p ≡ p = omega arith in
    let f : total s.rules (0 + p) (get_or u.logs p []) ≡ total s.rules p (get_or u.logs p []) = ap (λ j. total s.rules j (get_or u.logs p [])) zero_add in
    let g : total s.rules (0 + p) L ≡ length (sent s.rules p L) + total s.rules p (get_or u.logs p []) = ap (λ j. total s.rules j L) zero_add in
    record {
      fed = given_fed s u p x h from.fed;
      sent = omega (arith, set_it, f, g, from.sent, length-append u.pool more, length-map (sent s.rules p L) (said_by p));
      carried = omega (arith, carried_more u.pool more, commits_carry p (sent s.rules p L), from.carried);
      more = λ y k. in_more u.pool more y (from.more y k);
    }

each_from : (s : Setting) (w u : World) (x : Letter) → Has x w.pool → (i n : ℕ) → i + n ≤ peers_of s → IsFrom s w u → IsFrom s w (given_each s x (count_from i n) u)
each_from s w u x h i zero l from = from
each_from s w u x h i (suc n) l from = each_from s w (cond (is_faulty s (Peer i)) u (given_to s u i x)) x h (suc i) n (omega arith) (one (is_faulty s (Peer i)))
  where
    one : (b : Bool) → IsFrom s w (cond b u (given_to s u i x))
    one true = from
    one false = given_from s w u i x (omega arith) (from.more x h) from

from_on : (s : Setting) (w v u : World) → IsFrom s w v → IsFrom s v u → IsFrom s w u
from_on s w v u a b = record { fed = b.fed; sent = omega (arith, a.sent, b.sent); carried = b.carried ∙ a.carried; more = λ x h. b.more x (a.more x h) }

-- so the pool is never larger
pool_fits : (s : Setting) → IsLocal s.rules → (w u : World) → IsFrom s w u → length u.pool ≤ most_messages s w
pool_fits s l w u from =
    let h = totals_fit s.rules l 0 u.logs u.pool from.fed.logs in
    let e : length u.logs * txns_carried u.pool ≡ peers_of s * txns_carried w.pool = ap (λ n. n * txns_carried u.pool) from.fed.count ∙ ap (λ n. peers_of s * n) from.carried in
    omega (arith, h, e, from.sent)

got_has : (pool : List Letter) (m : ℕ) (x : Letter) → slice_get pool m ≡ Some x → Has x pool × (m < length pool)
got_has [] m x e = absurd (none-some x e)
got_has (y ∷ pool) zero x e = (inl (sym (same_Some y x e)), omega arith)
got_has (y ∷ pool) (suc m) x e = let r = got_has pool m x e in (inr r.0, omega (arith, r.1))

pub message_has : (w : World) (m : ℕ) (x : Letter) → message_at w m ≡ Some x → Has x w.pool × (m ≤ length w.pool)
message_has w zero x e = absurd (none-some x e)
message_has w (suc m) x e = let r = got_has w.pool m x e in (r.0, omega (arith, r.1))

ends_from : (s : Setting) → IsLocal s.rules → (w : World) (turns m : ℕ) (u : World) → most_messages s w < m + turns → IsFrom s w u → (v : World) × (all_from s turns m u ≡ Some v) × IsFrom s w v
ends_from s l w zero m u few from = go (message_at u m) refl
  where
    go : (o : Option Letter) → message_at u m ≡ o → (v : World) × (elim o [ None ↦ Some u | Some x ↦ None ] ≡ Some v) × IsFrom s w v
    go None e = (u, refl, from)
    go (Some x) e = absurd (omega (arith, (message_has u m x e).1, pool_fits s l w u from))
ends_from s l w (suc turns) m u few from = go (message_at u m) refl (λ v from_v. ends_from s l w turns (suc m) v (omega arith) from_v)
  where
    go : (o : Option Letter) → message_at u m ≡ o → ((v : World) → IsFrom s w v → (z : World) × (all_from s turns (suc m) v ≡ Some z) × IsFrom s w z) →
        (v : World) × (elim o [ None ↦ Some u | Some x ↦ all_from s turns (suc m) (given_all s x u) ] ≡ Some v) × IsFrom s w v
    go None e more = (u, refl, from)
    go (Some x) e more = more (given_all s x u) (from_on s w u (given_all s x u) from (each_from s u u x (message_has u m x e).0 0 (peers_of s) (omega arith) (from_itself s u from.fed)))

pub ends : (s : Setting) → IsLocal s.rules → (w : World) → IsFed s w → (v : World) × (all_from s (most_messages s w) 1 w ≡ Some v) × IsFrom s w v
ends s l w fed = ends_from s l w (most_messages s w) 1 w (omega arith) (from_itself s w fed)

-- EVENTS

next : (s : Setting) → IsLocal s.rules → (w : World) (e : Event) → IsFed s w → (u : World) × Happens s w e u × IsFed s u
next s l w event.All fed = let r = ends s l w fed in (r.0, (most_messages s w, r.1), r.2.fed)
next s l w (event.SayBlock from number prev items preds) fed = (_, (0, refl), record { logs = of_more w.pool _ w.logs fed.logs; count = fed.count })
next s l w (event.SayCommit from commit) fed = (_, (0, refl), record { logs = of_more w.pool _ w.logs fed.logs; count = fed.count })
next s l w (event.Deliver m p) fed = (delivered s w p (message_at w m), (0, refl), one (message_at w m) refl)
  where
    one : (o : Option Letter) → message_at w m ≡ o → IsFed s (delivered s w p o)
    one None e = record { logs = fed.logs; count = fed.count }
    one (Some x) e = elim (is_faulty s (Peer p)) as (λ b. IsFed s (cond b (idled w) (given_to s w p x))) [ true ↦ record { logs = fed.logs; count = fed.count } | false ↦ given_fed s w p x (message_has w m x e).0 fed ]

all_lead : (s : Setting) → IsLocal s.rules → (es : List Event) (w : World) → IsFed s w → (u : World) × LeadTo s w es u × IsFed s u
all_lead s l [] w fed = (w, refl, fed)
all_lead s l (e ∷ es) w fed =
    let a = next s l w e fed in
    let b = all_lead s l es a.0 a.2 in
    (b.0, (a.0, a.1, b.1), b.2)

empty_logs : (pool : List Letter) (n : ℕ) → AllByRecursion (IsOf pool) (replicate n [])
empty_logs pool zero = tt
empty_logs pool (suc n) = (λ x h. absurd h, empty_logs pool n)

pub length_logs : (n : ℕ) → length (replicate {A = Log} n []) ≡ n
length_logs zero = refl
length_logs (suc n) = ap suc (length_logs n)

pub start_fed : (s : Setting) → IsFed s (start s)
start_fed s = record { logs = empty_logs (first_pool s s.chain) (peers_of s); count = length_logs (peers_of s) }

pub one_world : OneWorld
one_world table genesis items bodies faulty events =
    let s = setting_of table genesis items bodies faulty in
    let r = all_lead s (rules_local table genesis) events (start s) (start_fed s) in
    record { world = r.0; is = r.1; only = λ other h. same_world s events (start s) other r.0 h r.1 }

pub all_ends : AllEnds
all_ends table genesis items bodies faulty events w lead =
    let s = setting_of table genesis items bodies faulty in
    let r = all_lead s (rules_local table genesis) events (start s) (start_fed s) in
    let fed = subst (IsFed s) (same_world s events (start s) r.0 w r.1 lead) r.2 in
    let e = ends s (rules_local table genesis) w fed in
    (e.0, e.1)
