-- One turn, against the log.
use Rattle.std.specs.Prelude.{ℕ, ◌==◌, ◌+◌, ◌<◌, ◌≡◌, Bool, true, false, cond, if◌then◌else◌, List, [], ◌∷◌, ◌++◌, map, reverse, length, get_or, set, Option, Some, None, suc, refl}
use Rattle.std.specs.List.{slice_index_or}
use Rattle.std.proofs.Common.{sym, ◌∙◌, ap, arith}
use Rattle.std.proofs.lemmas.Bool.{false≢true, eq-eqb, eqb-true}
use Rattle.std.proofs.lemmas.List.{reverse-append, map-append, length-map, length-reverse, length-set, get_or-map, get_or-set_same, get_or-set_other}
use Rattle.txn_types.specs.declared.block.Block.{Block}
use Rattle.txn_types.specs.declared.block.Config.{Config}
use Rattle.txn_types.specs.declared.message.Commit.{Commit}
use Rattle.oxii_defs.specs.State.{State}
use Rattle.oxii_defs.specs.Lines as lines
use Rattle.txn_core.specs.MeantTable.{table_of}
use Rattle.node_defs.specs.Rules.{Rules, in_force, agents_behind, tau_behind, changed}
use Rattle.node_defs.specs.Log.{Letter, Log}
use Rattle.node_defs.specs.Accepted.{accepted, tip}
use Rattle.node_defs.specs.Ledger.{completed, accepted_at}
use Rattle.hash_ledger.specs.declared.entry.Entry.{Entry}
use Rattle.hash_ledger.specs.Ledgers.{AreHashed, completed_of, entry_of, tip_of}
use Rattle.hash_ledger.proofs.HashLemmas.{tip_hashed}
use Rattle.peer_parts.specs.declared.force.Seats.{Seats}
use Rattle.peer_parts.specs.InForce.{IsForce, changed_force}
use Rattle.peer_work.specs.Completing.{forced_by}
use Rattle.peer_turns.specs.declared.listing.BlockSpans.{BlockSpans}
use Rattle.peer_turns.specs.Peers.{KeptPeer}
use Rattle.peer_turns.specs.Relation.{done_of, rules_for, MidwayAt}

-- THE LEDGER

pub done_push : (ledger : List Entry) (e : Entry) → completed_of (ledger ++ e ∷ []) ≡ entry_of e ∷ completed_of ledger
done_push ledger e = ap reverse (map-append entry_of ledger (e ∷ [])) ∙ reverse-append (map entry_of ledger) (entry_of e ∷ [])

pub length_done : (p : KeptPeer) → length (done_of p) ≡ length p.ledger
length_done p = length-reverse (map entry_of p.ledger) ∙ length-map p.ledger entry_of

-- WHAT IS IN FORCE

seat_agents : (force : List Seats) (app : ℕ) (c : Config) (a : ℕ) → a < length force → slice_index_or (map (λ s. s.agents) (changed_force force c)) a [] ≡ (if c.app == a then c.agents else slice_index_or (map (λ s. s.agents) force) a [])
seat_agents force app c a l = one (c.app == a) refl
  where
    d : Seats
    d = record { agents = []; tau = 0 }

    x : Seats
    x = record { agents = c.agents; tau = c.tau }

    one : (b : Bool) → (c.app == a) ≡ b → slice_index_or (map (λ s. s.agents) (set force c.app x)) a [] ≡ cond b c.agents (slice_index_or (map (λ s. s.agents) force) a [])
    one true e = let k : c.app ≡ a = eqb-true c.app a e in get_or-map (λ (s : Seats). s.agents) (set force c.app x) a d [] (omega (arith, l, length-set force c.app x)) ∙ ap (λ (s : Seats). s.agents) (ap (λ i. get_or (set force i x) a d) k ∙ get_or-set_same force a x d l)
    one false e = get_or-map (λ (s : Seats). s.agents) (set force c.app x) a d [] (omega (arith, l, length-set force c.app x)) ∙ (ap (λ (s : Seats). s.agents) (get_or-set_other force c.app a x d (λ k. false≢true (sym e ∙ eq-eqb c.app a (sym k)))) ∙ sym (get_or-map (λ (s : Seats). s.agents) force a d [] l))

seat_tau : (force : List Seats) (c : Config) (a : ℕ) → a < length force → slice_index_or (map (λ s. s.tau) (changed_force force c)) a 0 ≡ (if c.app == a then c.tau else slice_index_or (map (λ s. s.tau) force) a 0)
seat_tau force c a l = one (c.app == a) refl
  where
    d : Seats
    d = record { agents = []; tau = 0 }

    x : Seats
    x = record { agents = c.agents; tau = c.tau }

    one : (b : Bool) → (c.app == a) ≡ b → slice_index_or (map (λ s. s.tau) (set force c.app x)) a 0 ≡ cond b c.tau (slice_index_or (map (λ s. s.tau) force) a 0)
    one true e = let k : c.app ≡ a = eqb-true c.app a e in get_or-map (λ (s : Seats). s.tau) (set force c.app x) a d 0 (omega (arith, l, length-set force c.app x)) ∙ ap (λ (s : Seats). s.tau) (ap (λ i. get_or (set force i x) a d) k ∙ get_or-set_same force a x d l)
    one false e = get_or-map (λ (s : Seats). s.tau) (set force c.app x) a d 0 (omega (arith, l, length-set force c.app x)) ∙ (ap (λ (s : Seats). s.tau) (get_or-set_other force c.app a x d (λ k. false≢true (sym e ∙ eq-eqb c.app a (sym k)))) ∙ sym (get_or-map (λ (s : Seats). s.tau) force a d 0 l))

-- behind one more block
pub force_more : (rules : Rules) (done : List lines.Entry) (entry : lines.Entry) (force : List Seats) → IsForce (in_force rules done) force → IsForce (in_force rules (entry ∷ done)) (forced_by force entry.block.config)
force_more rules done entry force h = one entry.block.config refl
  where
    bs : List Block
    bs = map (λ (e : lines.Entry). e.block) done

    one : (c : Option Config) → entry.block.config ≡ c → IsForce (in_force rules (entry ∷ done)) (forced_by force c)
    one None q = record {
      agents = λ a l. h.agents a l ∙ sym (ap (λ (x : Option Config). changed x (λ c. c.agents) a (agents_behind rules bs a)) q);
      tau = λ a l. h.tau a l ∙ sym (ap (λ (x : Option Config). changed x (λ c. c.tau) a (tau_behind rules bs a)) q);
    }
    one (Some c) q = record {
      agents = λ a l. let k : a < length force = omega (arith, l, length-set force c.app (record { agents = c.agents; tau = c.tau })) in seat_agents force a c a k ∙ (ap (λ (xs : List ℕ). cond (c.app == a) c.agents xs) (h.agents a k) ∙ sym (ap (λ (x : Option Config). changed x (λ c. c.agents) a (agents_behind rules bs a)) q));
      tau = λ a l. let k : a < length force = omega (arith, l, length-set force c.app (record { agents = c.agents; tau = c.tau })) in seat_tau force c a k ∙ (ap (λ (n : ℕ). cond (c.app == a) c.tau n) (h.tau a k) ∙ sym (ap (λ (x : Option Config). changed x (λ c. c.tau) a (tau_behind rules bs a)) q));
    }

-- WHAT IS READY

pub accepted_is : (p : KeptPeer) (workers : ℕ) (genesis : State) (me m : ℕ) (e : Letter) (K : Log) (sent : List Commit) (spans : List BlockSpans) → AreHashed (table_of p.table) p.ledger → MidwayAt workers genesis me m e K p sent spans
    → accepted_at (rules_for p genesis) me m (e ∷ K) ≡ accepted (rules_for p genesis) (length p.ledger + 1) (tip_of p.ledger) (e ∷ K)
accepted_is p workers genesis me m e K sent spans w at =
    let rules = rules_for p genesis in
    let same : length p.ledger + 1 ≡ suc m = omega (arith, length_done p, ap length at.mid.blocks, at.mid.full) in
    ap (λ (c : Bool). cond c (accepted rules (suc m) (tip rules (completed rules me m (e ∷ K))) (e ∷ K)) None) (eq-eqb (length (completed rules me m (e ∷ K))) m at.mid.full)
    ∙ (ap (λ ds. accepted rules (suc m) (tip rules ds) (e ∷ K)) (sym at.mid.blocks)
    ∙ (ap (λ (h : List ℕ). accepted rules (suc m) h (e ∷ K)) (sym (tip_hashed (table_of p.table) genesis p.ledger w)) ∙ ap (λ n. accepted rules n (tip_of p.ledger) (e ∷ K)) (sym same)))
