-- How the positions of a block stand, one by one, in a log.
use Rattle.std.specs.Prelude.{ℕ, ◌<◌, Bool, true, false, ◌&&◌, ◌||◌, not, cond, List, [], ◌∷◌, length, get_or, Option, Some, None, is_some, ◌≡◌, refl, suc, zero}
use Rattle.std.proofs.Common.{sym, ◌∙◌, ap, arith}
use Rattle.std.proofs.lemmas.Bool.{and_parts, and_from, false≢true, true≢false}
use Rattle.known_defs.specs.Known.{knows_all, txn_at}
use Rattle.node_defs.specs.Log.{Log}
use Rattle.node_defs.specs.Position.{Standing, Work, agreed, is_agent, is_ready, own_outcome, ran, standing, standings}
use Rattle.node_defs.specs.Rules.{Rules}
use Rattle.node_defs.specs.Sent.{did_run}
use Rattle.node_laws.proofs.Settle.{beliefs_at, front, length_beliefs}
use Rattle.node_laws.proofs.Standings.{standing_at}
use Rattle.oxii_defs.specs.Dependency.{depends}
use Rattle.txn_types.specs.declared.txn.Kind.{Kind}
use Rattle.txn_types.specs.declared.txn.Outcome.{Outcome}
use Rattle.txn_types.specs.declared.txn.Txn.{Txn}

-- whether position t ran, what it was agreed with, and what it is believed to be
abbrev pub ran_at : Rules → Work → ℕ → Log → Bool
ran_at r w t L = ran r w t (standings r w t) L

abbrev pub agreed_at : Rules → Work → ℕ → Log → Option Outcome
agreed_at r w t L = agreed r w t (standings r w t) L

abbrev pub believed_at : Rules → Work → ℕ → Log → Option Outcome
believed_at r w t L = (standing r w t (standings r w t) L).believed

abbrev pub ready_at : Rules → Work → ℕ → Log → Bool
ready_at r w t L = is_ready r w t (w.opens L) (standings r w t L)

pub did_run_is : (r : Rules) (w : Work) (t : ℕ) (L : Log) → t < length w.txns → did_run r w t L ≡ ran_at r w t L
did_run_is r w t L h = ap (λ (x : Standing). x.ran) (standing_at r w L (length w.txns) t h)

-- PREDECESSORS

pub knows_at : (kind : Kind) (t : Txn) (ts : List Txn) (xs : List (Option Outcome)) (i : ℕ) → knows_all kind t ts xs ≡ true → i < length xs → i < length ts → depends kind (txn_at ts i) t ≡ true → is_some (get_or xs i None) ≡ true
knows_at kind t [] xs i k l j d = absurd (omega arith)
knows_at kind t (a ∷ ts) [] i k l j d = absurd (omega arith)
knows_at kind t (a ∷ ts) (x ∷ xs) zero k l j d = one (depends kind a t) d (is_some x) (and_parts (not (depends kind a t) || is_some x) (knows_all kind t ts xs) k).0
  where
    one : (b : Bool) → b ≡ true → (c : Bool) → (not b || c) ≡ true → c ≡ true
    one true e c h = h
    one false e c h = absurd (false≢true e)
knows_at kind t (a ∷ ts) (x ∷ xs) (suc i) k l j d = knows_at kind t ts xs i (and_parts (not (depends kind a t) || is_some x) (knows_all kind t ts xs) k).1 (omega arith) (omega arith) d

pub knows_from : (kind : Kind) (t : Txn) (ts : List Txn) (xs : List (Option Outcome)) → ((i : ℕ) → i < length xs → i < length ts → depends kind (txn_at ts i) t ≡ true → is_some (get_or xs i None) ≡ true) → knows_all kind t ts xs ≡ true
knows_from kind t [] xs h = refl
knows_from kind t (a ∷ ts) [] h = refl
knows_from kind t (a ∷ ts) (x ∷ xs) h = and_from _ _ (one (depends kind a t) (h 0 (omega arith) (omega arith))) (knows_from kind t ts xs (λ i l j d. h (suc i) (omega (arith, l)) (omega (arith, j)) d))
  where
    one : (b : Bool) → (b ≡ true → is_some x ≡ true) → (not b || is_some x) ≡ true
    one true k = k refl
    one false k = refl

module _ (r : Rules) (w : Work) (L : Log) where
  -- what ran knows what it depends on
  pub ready_knows : (t i : ℕ) → ready_at r w t L ≡ true → i < t → t < length w.txns → depends r.table.kind (txn_at w.txns i) (txn_at w.txns t) ≡ true → is_some (believed_at r w i L) ≡ true
  ready_knows t i h l k d =
      let p = (and_parts (w.opens L) (knows_all r.table.kind (txn_at w.txns t) w.txns (beliefs_at r w L t)) h).1 in
      ap is_some (sym (front r w L t i l)) ∙ knows_at r.table.kind (txn_at w.txns t) w.txns (beliefs_at r w L t) i p (omega (arith, l, length_beliefs r w L t)) (omega (arith, l, k)) d

  -- what knows all that it depends on is ready
  pub knows_ready : (t : ℕ) → w.opens L ≡ true → ((i : ℕ) → i < t → depends r.table.kind (txn_at w.txns i) (txn_at w.txns t) ≡ true → is_some (believed_at r w i L) ≡ true) → ready_at r w t L ≡ true
  knows_ready t op h =
      and_from (w.opens L) _ op
      (knows_from r.table.kind (txn_at w.txns t) w.txns (beliefs_at r w L t) (λ i l j d. let k : i < t = omega (arith, l, length_beliefs r w L t) in ap is_some (front r w L t i k) ∙ h i k d))

  -- what ran is ready, and this peer's
  pub ran_parts : (t : ℕ) → ran_at r w t L ≡ true → (is_agent r w.me (txn_at w.txns t) ≡ true) × (ready_at r w t L ≡ true)
  ran_parts t h = and_parts (is_agent r w.me (txn_at w.txns t)) (ready_at r w t L) h

  pub ran_believed : (t : ℕ) → ran_at r w t L ≡ true → is_some (believed_at r w t L) ≡ true
  ran_believed t h = one (ran_at r w t L) h
    where
      one : (b : Bool) → b ≡ true → is_some (cond b (Some (own_outcome r w t (standings r w t) L)) (cond (ready_at r w t L) (agreed_at r w t L) None)) ≡ true
      one true e = refl
      one false e = absurd (false≢true e)

  pub own_ran : (t : ℕ) → is_agent r w.me (txn_at w.txns t) ≡ true → is_some (believed_at r w t L) ≡ true → ran_at r w t L ≡ true
  own_ran t a h = one (is_agent r w.me (txn_at w.txns t)) (ready_at r w t L) a h
    where
      one : (b c : Bool) → b ≡ true → is_some (cond (b && c) (Some (own_outcome r w t (standings r w t) L)) (cond c (agreed_at r w t L) None)) ≡ true → (b && c) ≡ true
      one true true e k = refl
      one true false e k = absurd (false≢true k)
      one false c e k = absurd (false≢true e)

  pub agreed_believed : (t : ℕ) → ready_at r w t L ≡ true → is_some (agreed_at r w t L) ≡ true → is_some (believed_at r w t L) ≡ true
  agreed_believed t e h = one (is_agent r w.me (txn_at w.txns t)) (ready_at r w t L) e
    where
      one : (b c : Bool) → c ≡ true → is_some (cond (b && c) (Some (own_outcome r w t (standings r w t) L)) (cond c (agreed_at r w t L) None)) ≡ true
      one true true k = refl
      one false true k = h
      one b false k = absurd (false≢true k)

  -- nothing ran where the block isn't accepted
  pub closed_ran : (t : ℕ) → w.opens L ≡ false → ran_at r w t L ≡ false
  closed_ran t e = one (is_agent r w.me (txn_at w.txns t)) (w.opens L) (knows_all r.table.kind (txn_at w.txns t) w.txns (beliefs_at r w L t)) e
    where
      one : (a b c : Bool) → b ≡ false → (a && (b && c)) ≡ false
      one true true c k = absurd (true≢false k)
      one true false c k = refl
      one false b c k = refl

  pub ran_opens : (t : ℕ) → ran_at r w t L ≡ true → w.opens L ≡ true
  ran_opens t h = (and_parts (w.opens L) (knows_all r.table.kind (txn_at w.txns t) w.txns (beliefs_at r w L t)) (ran_parts t h).1).0
