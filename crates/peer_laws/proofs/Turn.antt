-- One block and one more entry: what is found, voted and cut
use Rattle.std.specs.Prelude.{ℕ, ◌<◌, ◌≤◌, ◌≡◌, Bool, true, false, ◌&&◌, not, cond, List, [], ◌∷◌, ◌++◌, map, reverse, filter, length, get_or, Option, Some, None, is_some, unwrap_or, zero, suc, refl}
use Rattle.std.specs.List.{AllByRecursion}
use Rattle.std.proofs.Common.{sym, ◌∙◌, ap, arith, append_assoc}
use Rattle.std.proofs.lemmas.List.{map_push}
use Rattle.node_laws.proofs.Growing.{StaysOpen}
use Rattle.node_laws.proofs.Settle.{beliefs_at, front, believed_is, push_same}
use Rattle.node_laws.proofs.Batches.{old_batches}
use Rattle.node_laws.proofs.AgreeSent.{order_ran}
use Rattle.node_laws.proofs.Standings.{standing_at}
use Rattle.known_defs.specs.Known.{knows_all, txn_at}
use Rattle.node_defs.specs.Ledger.{all_standings}
use Rattle.node_defs.specs.Log.{Letter, Log, votes_in}
use Rattle.node_defs.specs.Position.{Standing, Work, agreed, ballots, is_agent, is_ready, own_outcome, ran, standing, standings}
use Rattle.node_defs.specs.Rules.{IsLocal, Rules}
use Rattle.node_defs.specs.Sent.{batches, commit_of, did_run, held, is_cut, is_due, newly_ran, run_order, sent_of}
use Rattle.peer_laws.specs.Turns.{cuts_made, found_upto, found_one, just_ran, own_vote}
use Rattle.txn_types.specs.declared.txn.Outcome.{Outcome}

-- on another's position this peer has no vote of its own
pub foreign : (rules : Rules) (w : Work) (t : ℕ) (e : Letter) (L : Log) → is_agent rules w.me (txn_at w.txns t) ≡ false → ballots rules w t (standings rules w t) (e ∷ L) ≡ votes_in rules w.me w.n t e ++ ballots rules w t (standings rules w t) L
foreign rules w t e L h = rw h refl

pub found_is : (rules : Rules) (w : Work) (L : Log) → w.opens L ≡ true → (votes : ℕ → Option Outcome) → ((t : ℕ) → t < length w.txns → is_agent rules w.me (txn_at w.txns t) ≡ false → votes t ≡ agreed rules w t (standings rules w t) L) → (t : ℕ) → t ≤ length w.txns → found_upto rules w.me w.txns w.base votes t ≡ beliefs_at rules w L t
found_is rules w L op votes h zero n = refl
found_is rules w L op votes h (suc t) n =
    push_same (found_upto rules w.me w.txns w.base votes t) (beliefs_at rules w L t) (found_one rules w.me w.txns w.base (votes t) (txn_at w.txns t) (found_upto rules w.me w.txns w.base votes t)) (standing rules w t (standings rules w t) L).believed (found_is rules w L op votes h t (omega arith))
    (ap (found_one rules w.me w.txns w.base (votes t) (txn_at w.txns t)) (found_is rules w L op votes h t (omega arith)) ∙ (one (is_agent rules w.me (txn_at w.txns t)) refl (knows_all rules.table.kind (txn_at w.txns t) w.txns (beliefs_at rules w L t)) ∙ sym (believed_is rules w L t op)))
    ∙ sym (map_push (λ (s : Standing). s.believed) (standings rules w t L) (standing rules w t (standings rules w t) L))
  where
    own : Option Outcome
    own = Some (own_outcome rules w t (standings rules w t) L)

    one : (a : Bool) → is_agent rules w.me (txn_at w.txns t) ≡ a → (k : Bool) → cond k (cond a own (votes t)) None ≡ cond k (cond a own (agreed rules w t (standings rules w t) L)) None
    one a e false = refl
    one true e true = refl
    one false e true = h t (omega arith) e

-- a position ran where it is this peer's and known
pub ran_is : (rules : Rules) (w : Work) (L : Log) (n t : ℕ) → t < n → ran rules w t (standings rules w t) L ≡ (is_agent rules w.me (txn_at w.txns t) && is_some (get_or (beliefs_at rules w L n) t None))
ran_is rules w L n t l = rw (front rules w L n t l) (one (is_agent rules w.me (txn_at w.txns t)) (is_ready rules w t (w.opens L) (standings rules w t L)))
  where
    own : Option Outcome
    own = Some (own_outcome rules w t (standings rules w t) L)

    one : (a r : Bool) → (a && r) ≡ (a && is_some (cond (a && r) own (cond r (agreed rules w t (standings rules w t) L) None)))
    one true true = refl
    one true false = refl
    one false r = refl

-- what ran is believed to be what it came to
pub own_is : (rules : Rules) (w : Work) (L : Log) (t : ℕ) → ran rules w t (standings rules w t) L ≡ true → (standing rules w t (standings rules w t) L).believed ≡ Some (own_outcome rules w t (standings rules w t) L)
own_is rules w L t h = rw h refl

pub ballots_are : (rules : Rules) (w : Work) (e : Letter) (L : Log) (n t : ℕ) → t < n → ballots rules w t (standings rules w t) (e ∷ L) ≡ own_vote rules w.me (txn_at w.txns t) (get_or (beliefs_at rules w L n) t None) (get_or (beliefs_at rules w (e ∷ L) n) t None) ++ (votes_in rules w.me w.n t e ++ ballots rules w t (standings rules w t) L)
ballots_are rules w e L n t l =
    append_assoc (cond {A = List (ℕ × Outcome)} (ran rules w t (standings rules w t) (e ∷ L) && not (ran rules w t (standings rules w t) L)) ((w.me, own) ∷ []) []) (votes_in rules w.me w.n t e) (ballots rules w t (standings rules w t) L)
    ∙ ap (λ (xs : List (ℕ × Outcome)). xs ++ (votes_in rules w.me w.n t e ++ ballots rules w t (standings rules w t) L))
    (one (ran rules w t (standings rules w t) (e ∷ L)) refl (ran rules w t (standings rules w t) L) refl (is_agent rules w.me (txn_at w.txns t)) refl (get_or (beliefs_at rules w (e ∷ L) n) t None) refl (is_some (get_or (beliefs_at rules w L n) t None)) refl
    ∙ pick_is (get_or (beliefs_at rules w (e ∷ L) n) t None))
  where
    own : Outcome
    own = own_outcome rules w t (standings rules w t) (e ∷ L)

    now : (r : Bool) → ran rules w t (standings rules w t) (e ∷ L) ≡ r → (a : Bool) → is_agent rules w.me (txn_at w.txns t) ≡ a → (k : Option Outcome) → get_or (beliefs_at rules w (e ∷ L) n) t None ≡ k → r ≡ (a && is_some k)
    now r e1 a e2 k e3 = sym e1 ∙ (ran_is rules w (e ∷ L) n t l ∙ (ap (λ b. b && is_some (get_or (beliefs_at rules w (e ∷ L) n) t None)) e2 ∙ ap (λ x. a && is_some x) e3))

    then : (s : Bool) → ran rules w t (standings rules w t) L ≡ s → (a : Bool) → is_agent rules w.me (txn_at w.txns t) ≡ a → (j : Bool) → is_some (get_or (beliefs_at rules w L n) t None) ≡ j → s ≡ (a && j)
    then s e1 a e2 j e3 = sym e1 ∙ (ran_is rules w L n t l ∙ (ap (λ b. b && is_some (get_or (beliefs_at rules w L n) t None)) e2 ∙ ap (λ x. a && x) e3))

    same : ran rules w t (standings rules w t) (e ∷ L) ≡ true → (o : Outcome) → get_or (beliefs_at rules w (e ∷ L) n) t None ≡ Some o → Some own ≡ Some o
    same h o k = sym (own_is rules w (e ∷ L) t h) ∙ (sym (front rules w (e ∷ L) n t l) ∙ k)

    pick : Option Outcome → Bool → Bool → List (ℕ × Outcome)
    pick None a j = []
    pick (Some o) a j = cond (a && not j) ((w.me, o) ∷ []) []

    pick_is : (k : Option Outcome) → pick k (is_agent rules w.me (txn_at w.txns t)) (is_some (get_or (beliefs_at rules w L n) t None)) ≡ own_vote rules w.me (txn_at w.txns t) (get_or (beliefs_at rules w L n) t None) k
    pick_is None = refl
    pick_is (Some o) = refl

    plain : (r s a j : Bool) (k : Option Outcome) → r ≡ (a && is_some k) → s ≡ (a && j) → ((o : Outcome) → r ≡ true → k ≡ Some o → Some own ≡ Some o) → cond {A = List (ℕ × Outcome)} (r && not s) ((w.me, own) ∷ []) [] ≡ pick k a j
    plain r s true j None p q h = rw p refl
    plain r s false j None p q h = rw p refl
    plain r s true true (Some o) p q h = rw p (rw q refl)
    plain r s true false (Some o) p q h = rw q (rw p (ap (λ (x : Option Outcome). (w.me, unwrap_or x own) ∷ []) (h o p refl)))
    plain r s false j (Some o) p q h = rw p refl

    one : (r : Bool) → ran rules w t (standings rules w t) (e ∷ L) ≡ r → (s : Bool) → ran rules w t (standings rules w t) L ≡ s → (a : Bool) → is_agent rules w.me (txn_at w.txns t) ≡ a → (k : Option Outcome) → get_or (beliefs_at rules w (e ∷ L) n) t None ≡ k → (j : Bool) → is_some (get_or (beliefs_at rules w L n) t None) ≡ j → cond {A = List (ℕ × Outcome)} (r && not s) ((w.me, own) ∷ []) [] ≡ pick k a j
    one r e1 s e2 a e3 k e4 j e5 = plain r s a j k (now r e1 a e3 k e4) (then s e2 a e3 j e5) (λ o h q. same (e1 ∙ h) o (e4 ∙ q))

pub did_run_is : (rules : Rules) (w : Work) (L : Log) (t : ℕ) → t < length w.txns → did_run rules w t L ≡ (is_agent rules w.me (txn_at w.txns t) && is_some (get_or (beliefs_at rules w L (length w.txns)) t None))
did_run_is rules w L t l = ap (λ (s : Standing). s.ran) (standing_at rules w L (length w.txns) t l) ∙ ran_is rules w L (length w.txns) t l

pub newly_is : (rules : Rules) (w : Work) (e : Letter) (L : Log) (t : ℕ) → t ≤ length w.txns → newly_ran rules w e L t ≡ just_ran rules w.me w.txns (beliefs_at rules w L (length w.txns)) (beliefs_at rules w (e ∷ L) (length w.txns)) t
newly_is rules w e L zero h = refl
newly_is rules w e L (suc t) h =
    rw (did_run_is rules w (e ∷ L) t (omega arith)) (rw (did_run_is rules w L t (omega arith)) (rw (newly_is rules w e L t (omega arith)) (one (is_agent rules w.me (txn_at w.txns t)) (is_some (get_or (beliefs_at rules w (e ∷ L) (length w.txns)) t None)) (is_some (get_or (beliefs_at rules w L (length w.txns)) t None)) (just_ran rules w.me w.txns (beliefs_at rules w L (length w.txns)) (beliefs_at rules w (e ∷ L) (length w.txns)) t))))
  where
    one : (a k j : Bool) (xs : List ℕ) → cond ((a && k) && not (a && j)) (t ∷ xs) xs ≡ cond ((a && k) && not j) (t ∷ xs) xs
    one true k j xs = refl
    one false k j xs = refl

-- what is sent of a block is what is cut
abbrev pub NoneRan : Rules → Work → Log → List ℕ → Type 0
NoneRan rules w L ts = AllByRecursion (λ t. did_run rules w t L ≡ false) ts

newly_none : (rules : Rules) (w : Work) (e : Letter) (L : Log) (n : ℕ) → NoneRan rules w L (newly_ran rules w e L n)
newly_none rules w e L zero = tt
newly_none rules w e L (suc t) = one (did_run rules w t (e ∷ L)) (did_run rules w t L) refl (newly_none rules w e L t)
  where
    one : (a b : Bool) → did_run rules w t L ≡ b → NoneRan rules w L (newly_ran rules w e L t) → NoneRan rules w L (cond (a && not b) (t ∷ newly_ran rules w e L t) (newly_ran rules w e L t))
    one true true q r = r
    one true false q r = (q, r)
    one false b q r = r

new_cuts : (rules : Rules) (w : Work) (e : Letter) (L : Log) (new old : List ℕ) → NoneRan rules w L new → AllByRecursion (λ b. is_due rules w e L b ≡ false) (batches rules w old) → filter (is_due rules w e L) (batches rules w (new ++ old)) ≡ cuts_made rules w new old
new_cuts rules w e L [] old n o = none (batches rules w old) o
  where
    none : (bs : List (List ℕ)) → AllByRecursion (λ b. is_due rules w e L b ≡ false) bs → filter (is_due rules w e L) bs ≡ []
    none [] h = refl
    none (b ∷ bs) h = rw h.0 (none bs h.1)
new_cuts rules w e L (t ∷ new) old n o = one (is_cut rules w (t ∷ (new ++ old))) (new_cuts rules w e L new old n.1 o)
  where
    one : (b : Bool) → filter (is_due rules w e L) (batches rules w (new ++ old)) ≡ cuts_made rules w new old → filter (is_due rules w e L) (cond b ((t ∷ held rules w (new ++ old)) ∷ batches rules w (new ++ old)) (batches rules w (new ++ old))) ≡ cond b ((t ∷ held rules w (new ++ old)) ∷ cuts_made rules w new old) (cuts_made rules w new old)
    one false h = h
    one true h = rw n.0 (ap (λ bs. (t ∷ held rules w (new ++ old)) ∷ bs) h)

pub sent_is : (rules : Rules) → IsLocal rules → (w : Work) → StaysOpen w → (e : Letter) (L : Log) → sent_of rules w e L ≡ map (commit_of w (all_standings rules w (e ∷ L))) (reverse (cuts_made rules w (newly_ran rules w e L (length w.txns)) (run_order rules w L)))
sent_is rules l w op e L =
    ap (λ bs. map (commit_of w (all_standings rules w (e ∷ L))) (reverse bs))
    (new_cuts rules w e L (newly_ran rules w e L (length w.txns)) (run_order rules w L) (newly_none rules w e L (length w.txns)) (old_batches rules w e L (run_order rules w L) (order_ran rules l w op L)))
