-- Of a block that a log completed nothing more is sent
use Rattle.std.specs.Prelude.{ℕ, ◌<◌, ◌≤◌, ◌≡◌, Bool, true, false, ◌&&◌, not, cond, List, [], ◌∷◌, map, length, get_or, Option, Some, None, is_some, zero, suc, refl}
use Rattle.std.specs.List.{list_all}
use Rattle.std.proofs.Common.{◌∙◌, ap, arith}
use Rattle.node_laws.proofs.Growing.{ledger_grows, stays_open, after_keeps, completed_few, AllKnown, all_known}
use Rattle.node_laws.proofs.Settle.{beliefs_at}
use Rattle.node_laws.proofs.Standings.{length_standings}
use Rattle.peer_laws.proofs.Turn.{sent_is, did_run_is}
use Rattle.peer_laws.proofs.Steps.{work_from}
use Rattle.known_defs.specs.Known.{txn_at}
use Rattle.node_defs.specs.Ledger.{agreed_outcome, all_standings, completed, completed_with, is_agreed, accepted_at}
use Rattle.node_defs.specs.Log.{Letter, Log}
use Rattle.node_defs.specs.Position.{Standing, Work, is_agent}
use Rattle.node_defs.specs.Rules.{IsLocal, Rules, in_force}
use Rattle.node_defs.specs.Sent.{newly_ran, sent_in, sent_of, sent_upto, sent_with}
use Rattle.peer_laws.specs.Turns.{force_at, work_at}
use Rattle.txn_types.specs.declared.block.Block.{Block}

known_there : (xs : List Standing) → AllKnown xs → (t : ℕ) → t < length xs → is_some (get_or (map (λ (s : Standing). s.believed) xs) t None) ≡ true
known_there [] k t l = absurd (omega arith)
known_there (x ∷ xs) k zero l = ap is_some k.0.1
known_there (x ∷ xs) k (suc t) l = known_there xs k.1 t (omega arith)

pub nothing_new : (rules : Rules) (w : Work) (e : Letter) (L : Log) → AllKnown (all_standings rules w L) → (t : ℕ) → t ≤ length w.txns → newly_ran rules w e L t ≡ []
nothing_new rules w e L k zero h = refl
nothing_new rules w e L k (suc t) h =
    let old : is_some (get_or (beliefs_at rules w L (length w.txns)) t None) ≡ true = known_there (all_standings rules w L) k t (omega (arith, length_standings rules w L (length w.txns), h)) in
    rw (did_run_is rules w (e ∷ L) t (omega arith)) (rw (did_run_is rules w L t (omega arith)) (rw old (one (is_agent rules w.me (txn_at w.txns t)) (is_some (get_or (beliefs_at rules w (e ∷ L) (length w.txns)) t None)) (newly_ran rules w e L t) (nothing_new rules w e L k t (omega arith)))))
  where
    one : (a j : Bool) (xs : List ℕ) → xs ≡ [] → cond ((a && j) && not (a && true)) (t ∷ xs) xs ≡ []
    one true true xs q = q
    one true false xs q = q
    one false j xs q = q

-- how the positions of the block behind the first m stand
abbrev pub stood : Rules → ℕ → ℕ → Log → Block → List Standing
stood rules me m L b = all_standings (force_at rules me m L) (work_at rules me m L b) L

-- what was in work and is completed, with all of it agreed
pub finished : (rules : Rules) (me m : ℕ) (L : Log) → length (completed rules me (suc m) L) ≡ suc m → (b : Block) × (accepted_at rules me m L ≡ Some b) × (list_all is_agreed (stood rules me m L b) ≡ true)
finished rules me m L h = one (accepted_at rules me m L) refl h
  where
    one : (o : Option Block) → accepted_at rules me m L ≡ o → length (completed_with rules me m (completed rules me m) L o) ≡ suc m → (b : Block) × (accepted_at rules me m L ≡ Some b) × (list_all is_agreed (stood rules me m L b) ≡ true)
    one None q k = absurd (omega (arith, completed_few rules me m L, k))
    one (Some b) q k = two (list_all is_agreed (stood rules me m L b)) refl k
      where
        two : (c : Bool) → list_all is_agreed (stood rules me m L b) ≡ c → length (cond c (record { block = b; outcomes = map agreed_outcome (stood rules me m L b) } ∷ completed rules me m L) (completed rules me m L)) ≡ suc m → (a : Block) × (accepted_at rules me m L ≡ Some a) × (list_all is_agreed (stood rules me m L a) ≡ true)
        two true e j = (b, q, e)
        two false e j = absurd (omega (arith, completed_few rules me m L, j))

-- one block that the shorter log completed
pub nothing_of : (rules : Rules) → IsLocal rules → (me m : ℕ) (e : Letter) (L : Log) → length (completed rules me (suc m) L) ≡ suc m → sent_in rules me m e L ≡ []
nothing_of rules l me m e L h =
    let f = finished rules me m L h in
    let b = f.0 in
    let g = after_keeps rules me m (ledger_grows rules l me m) e L b f.1 in
    let op = stays_open rules me m (ledger_grows rules l me m) L b in
    let r = force_at rules me m L in
    let w = work_at rules me m L b in
    let known = all_known r w (length b.txns) L (ap is_some f.1) f.2 in
    ap (sent_with rules me m e L) g.0 ∙ (ap (λ ds. sent_of (in_force rules ds) (work_from rules me m b ds) e L) g.1
    ∙ (sent_is r l w op e L ∙ (rw (nothing_new r w e L known (length b.txns) (omega arith)) refl)))

pub less_full : (rules : Rules) (me m : ℕ) (L : Log) → length (completed rules me (suc m) L) ≡ suc m → length (completed rules me m L) ≡ m
less_full rules me m L h = one (accepted_at rules me m L) h
  where
    one : (o : Option Block) → length (completed_with rules me m (completed rules me m) L o) ≡ suc m → length (completed rules me m L) ≡ m
    one None k = absurd (omega (arith, completed_few rules me m L, k))
    one (Some b) k = two (list_all is_agreed (stood rules me m L b)) k
      where
        two : (c : Bool) → length (cond c (record { block = b; outcomes = map agreed_outcome (stood rules me m L b) } ∷ completed rules me m L) (completed rules me m L)) ≡ suc m → length (completed rules me m L) ≡ m
        two true j = omega (arith, j)
        two false j = absurd (omega (arith, completed_few rules me m L, j))

-- what a log has completed sends nothing more
pub nothing_sent : (rules : Rules) → IsLocal rules → (me m : ℕ) (e : Letter) (L : Log) → length (completed rules me m L) ≡ m → sent_upto rules me m e L ≡ []
nothing_sent rules l me zero e L h = refl
nothing_sent rules l me (suc m) e L h = rw (nothing_sent rules l me m e L (less_full rules me m L h)) (nothing_of rules l me m e L h)
