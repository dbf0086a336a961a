-- A peer sends each position of a block at most once
use Rattle.std.specs.Prelude.{ℕ, ◌+◌, ◌≤◌, ◌≡◌, Bool, true, false, ◌&&◌, not, cond, List, [], ◌∷◌, ◌++◌, reverse, length, filter, zero, suc, refl}
use Rattle.std.specs.List.{AllByRecursion}
use Rattle.std.proofs.Common.{ap, arith, length-append}
use Rattle.std.proofs.lemmas.List.{length-map, length-reverse}
use Rattle.std.proofs.lemmas.Bool.{false≢true}
use Rattle.node_defs.specs.Ledger.{all_standings}
use Rattle.node_defs.specs.Log.{Letter, Log}
use Rattle.node_defs.specs.Position.{Work}
use Rattle.node_defs.specs.Rules.{IsLocal, Rules}
use Rattle.node_defs.specs.Sent.{batches, commit_of, did_run, held, is_cut, is_due, newly_ran, run_order, sent_of}
use Rattle.node_laws.proofs.AgreeSent.{AllRan, keep_at, order_ran}
use Rattle.node_laws.proofs.Growing.{StaysOpen, standings_keep}

batches_few : (rules : Rules) (w : Work) (ts : List ℕ) → length (batches rules w ts) ≤ length ts
batches_few rules w [] = omega arith
batches_few rules w (t ∷ ts) = one (is_cut rules w (t ∷ ts)) (batches_few rules w ts)
  where
    one : (b : Bool) → length (batches rules w ts) ≤ length ts → length (cond b ((t ∷ held rules w ts) ∷ batches rules w ts) (batches rules w ts)) ≤ suc (length ts)
    one true h = omega arith
    one false h = omega arith

-- the batches that end with a position of `new`, and those of `old`, are the batches of both
new_batches : (rules : Rules) (w : Work) (p : List ℕ → Bool) (new old : List ℕ) → AllByRecursion (λ b. p b ≡ false) (batches rules w old) → length (filter p (batches rules w (new ++ old))) + length (batches rules w old) ≤ length (batches rules w (new ++ old))
new_batches rules w p [] old a = none (batches rules w old) a
  where
    none : (bs : List (List ℕ)) → AllByRecursion (λ b. p b ≡ false) bs → length (filter p bs) + length bs ≤ length bs
    none [] h = omega arith
    none (b ∷ bs) h = rw h.0 (let r = none bs h.1 in omega arith)
new_batches rules w p (t ∷ new) old a = one (is_cut rules w (t ∷ (new ++ old))) (new_batches rules w p new old a)
  where
    one : (c : Bool) → length (filter p (batches rules w (new ++ old))) + length (batches rules w old) ≤ length (batches rules w (new ++ old)) → length (filter p (cond c ((t ∷ held rules w (new ++ old)) ∷ batches rules w (new ++ old)) (batches rules w (new ++ old)))) + length (batches rules w old) ≤ length (cond c ((t ∷ held rules w (new ++ old)) ∷ batches rules w (new ++ old)) (batches rules w (new ++ old)))
    one false h = h
    one true h = two (p (t ∷ held rules w (new ++ old)))
      where
        two : (d : Bool) → length (cond d ((t ∷ held rules w (new ++ old)) ∷ filter p (batches rules w (new ++ old))) (filter p (batches rules w (new ++ old)))) + length (batches rules w old) ≤ suc (length (batches rules w (new ++ old)))
        two true = omega arith
        two false = omega arith

-- what ended a batch of the shorter log isn't new
pub old_batches : (rules : Rules) (w : Work) (e : Letter) (L : Log) (ts : List ℕ) → AllRan rules w L ts → AllByRecursion (λ b. is_due rules w e L b ≡ false) (batches rules w ts)
old_batches rules w e L [] a = tt
old_batches rules w e L (t ∷ ts) a = elim (is_cut rules w (t ∷ ts)) as (λ b. AllByRecursion (λ c. is_due rules w e L c ≡ false) (cond b ((t ∷ held rules w ts) ∷ batches rules w ts) (batches rules w ts))) [ true ↦ (ap not a.0, old_batches rules w e L ts a.1) | false ↦ old_batches rules w e L ts a.1 ]

-- COMMITs of one block: those of the last entry and those before are no more than the batches
pub sent_few : (rules : Rules) → IsLocal rules → (w : Work) → StaysOpen w → (e : Letter) (L : Log) → length (sent_of rules w e L) + length (batches rules w (run_order rules w L)) ≤ length (batches rules w (run_order rules w (e ∷ L)))
sent_few rules l w op e L =
    let bs = batches rules w (run_order rules w (e ∷ L)) in
    let h = new_batches rules w (is_due rules w e L) (newly_ran rules w e L (length w.txns)) (run_order rules w L) (old_batches rules w e L (run_order rules w L) (order_ran rules l w op L)) in
    omega (arith, h, length-map (reverse (filter (is_due rules w e L) bs)) (commit_of w (all_standings rules w (e ∷ L))), length-reverse (filter (is_due rules w e L) bs))

-- how many of the first n positions ran
abbrev pub ran_count : Rules → Work → Log → ℕ → ℕ
ran_count rules w L zero = 0
ran_count rules w L (suc t) = cond (did_run rules w t L) 1 0 + ran_count rules w L t

ran_few : (rules : Rules) (w : Work) (L : Log) (n : ℕ) → ran_count rules w L n ≤ n
ran_few rules w L zero = omega arith
ran_few rules w L (suc t) = one (did_run rules w t L) (ran_few rules w L t)
  where
    one : (b : Bool) → ran_count rules w L t ≤ t → cond b 1 0 + ran_count rules w L t ≤ suc t
    one true h = omega arith
    one false h = omega arith

newly_few : (rules : Rules) → IsLocal rules → (w : Work) → StaysOpen w → (e : Letter) (L : Log) (n : ℕ) → length (newly_ran rules w e L n) + ran_count rules w L n ≤ ran_count rules w (e ∷ L) n
newly_few rules l w op e L zero = omega arith
newly_few rules l w op e L (suc t) = one (did_run rules w t (e ∷ L)) (did_run rules w t L) (keep_at (all_standings rules w L) (all_standings rules w (e ∷ L)) t (standings_keep rules l w op (length w.txns) e L)) (newly_few rules l w op e L t)
  where
    one : (now before : Bool) → (before ≡ true → now ≡ true) → length (newly_ran rules w e L t) + ran_count rules w L t ≤ ran_count rules w (e ∷ L) t → length (cond (now && not before) (t ∷ newly_ran rules w e L t) (newly_ran rules w e L t)) + (cond before 1 0 + ran_count rules w L t) ≤ cond now 1 0 + ran_count rules w (e ∷ L) t
    one true true k h = omega arith
    one true false k h = omega arith
    one false true k h = absurd (false≢true (k refl))
    one false false k h = omega arith

order_few : (rules : Rules) → IsLocal rules → (w : Work) → StaysOpen w → (L : Log) → length (run_order rules w L) ≤ ran_count rules w L (length w.txns)
order_few rules l w op [] = omega arith
order_few rules l w op (e ∷ L) = omega (arith, order_few rules l w op L, newly_few rules l w op e L (length w.txns), length-append (newly_ran rules w e L (length w.txns)) (run_order rules w L))

-- the COMMITs of one block are never more than its positions
pub batches_bound : (rules : Rules) → IsLocal rules → (w : Work) → StaysOpen w → (L : Log) → length (batches rules w (run_order rules w L)) ≤ length w.txns
batches_bound rules l w op L = omega (arith, batches_few rules w (run_order rules w L), order_few rules l w op L, ran_few rules w L (length w.txns))
