-- Before a block is accepted its ballots are the votes heard, and nothing of it is known
use Rattle.std.specs.Prelude.{ℕ, get_or, ◌≡◌, Bool, true, false, ◌&&◌, cond, [], ◌∷◌, ◌++◌, Option, Some, None, zero, suc, refl, length}
use Rattle.std.proofs.Common.{sym, ◌∙◌, ap, arith, ⊎_elim}
use Rattle.std.proofs.lemmas.Bool.{true≢false, cases_lt}
use Rattle.std.proofs.lemmas.List.{get_or_past}
use Rattle.node_laws.proofs.Growing.{StaysOpen}
use Rattle.node_laws.proofs.Settle.{beliefs_at, front, length_beliefs}
use Rattle.node_laws.proofs.Standings.{length_standings, standing_at}
use Rattle.known_defs.specs.Known.{knows_all, txn_at}
use Rattle.node_defs.specs.Log.{Letter, Log, votes_in}
use Rattle.node_defs.specs.Position.{Standing, Work, agreed, ballots, is_agent, own_outcome, ran, standing, standings}
use Rattle.node_defs.specs.Rules.{Rules}
use Rattle.node_defs.specs.Sent.{did_run, newly_ran, no_standing, run_order}
use Rattle.peer_laws.specs.Turns.{said}
use Rattle.txn_types.specs.declared.txn.Outcome.{Outcome}

not_before : (w : Work) → StaysOpen w → (e : Letter) (L : Log) → w.opens (e ∷ L) ≡ false → w.opens L ≡ false
not_before w op e L h = one (w.opens L) refl
  where
    one : (b : Bool) → w.opens L ≡ b → w.opens L ≡ false
    one true q = absurd (true≢false (sym (op e L q) ∙ h))
    one false q = q

never_ran : (a k : Bool) → (a && (false && k)) ≡ false
never_ran true k = refl
never_ran false k = refl

pub ran_not : (rules : Rules) (w : Work) (t : ℕ) (L : Log) → w.opens L ≡ false → ran rules w t (standings rules w t) L ≡ false
ran_not rules w t L h = rw h (never_ran (is_agent rules w.me (txn_at w.txns t)) (knows_all rules.table.kind (txn_at w.txns t) w.txns (beliefs_at rules w L t)))

pub said_is : (rules : Rules) (w : Work) → StaysOpen w → (t : ℕ) (L : Log) → w.opens L ≡ false → ballots rules w t (standings rules w t) L ≡ said rules w.me w.n t L
said_is rules w op t [] h = refl
said_is rules w op t (e ∷ L) h = rw (ran_not rules w t (e ∷ L) h) (ap (λ xs. votes_in rules w.me w.n t e ++ xs) (said_is rules w op t L (not_before w op e L h)))

pub none_believed : (rules : Rules) (w : Work) (t : ℕ) (L : Log) → w.opens L ≡ false → (standing rules w t (standings rules w t) L).believed ≡ None
none_believed rules w t L h = rw h (one (is_agent rules w.me (txn_at w.txns t)) (knows_all rules.table.kind (txn_at w.txns t) w.txns (beliefs_at rules w L t)) (Some (own_outcome rules w t (standings rules w t) L)) (agreed rules w t (standings rules w t) L))
  where
    one : (a k : Bool) (x y : Option Outcome) → cond (a && (false && k)) x (cond (false && k) y None) ≡ None
    one true k x y = refl
    one false k x y = refl

pub nothing_believed : (rules : Rules) (w : Work) (n : ℕ) (L : Log) → w.opens L ≡ false → (t : ℕ) → get_or (beliefs_at rules w L n) t None ≡ None
nothing_believed rules w n L h t = ⊎_elim (λ l. front rules w L n t l ∙ none_believed rules w t L h) (λ l. get_or_past (beliefs_at rules w L n) t None (omega (arith, length_beliefs rules w L n, l))) (cases_lt t n)

never_newly : (rules : Rules) (w : Work) (e : Letter) (L : Log) (n : ℕ) → ((t : ℕ) → did_run rules w t (e ∷ L) ≡ false) → newly_ran rules w e L n ≡ []
never_newly rules w e L zero h = refl
never_newly rules w e L (suc t) h = rw (h t) (never_newly rules w e L t h)

pub unrun : (rules : Rules) (w : Work) (L : Log) → w.opens L ≡ false → (t : ℕ) → did_run rules w t L ≡ false
unrun rules w L h t = ⊎_elim (λ l. ap (λ (s : Standing). s.ran) (standing_at rules w L (length w.txns) t l) ∙ ran_not rules w t L h) (λ l. ap (λ (s : Standing). s.ran) (get_or_past (standings rules w (length w.txns) L) t no_standing (omega (arith, length_standings rules w L (length w.txns), l)))) (cases_lt t (length w.txns))

pub no_order : (rules : Rules) (w : Work) → StaysOpen w → (L : Log) → w.opens L ≡ false → run_order rules w L ≡ []
no_order rules w op [] h = refl
no_order rules w op (e ∷ L) h = rw (never_newly rules w e L (length w.txns) (unrun rules w (e ∷ L) h)) (no_order rules w op L (not_before w op e L h))
