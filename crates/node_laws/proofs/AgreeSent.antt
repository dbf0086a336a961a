-- Agreement, second part: no halt, and what is sent is right
use Rattle.std.specs.Prelude.{ℕ, ◌==◌, ◌<◌, Bool, true, false, ◌&&◌, not, cond, List, [], ◌∷◌, ◌++◌, map, reverse, length, get_or, filter, Option, Some, None, is_some, unwrap_or, option_map, ◌≡◌, refl, suc, zero}
use Rattle.std.specs.List.{AllByRecursion, list_any}
use Rattle.std.proofs.Common.{sym, ◌∙◌, ap, subst, arith}
use Rattle.std.proofs.lemmas.Bool.{false≢true, eqb-true, or_parts}
use Rattle.std.proofs.lemmas.Option.{none-some}
use Rattle.std.proofs.lemmas.List.{reverse-append}
use Rattle.known_defs.specs.Known.{no_outcome}
use Rattle.node_defs.specs.Accepted.{accepted, accepted_after, tip}
use Rattle.node_defs.specs.Ledger.{all_standings, completed, differs, first_halt, halt_in, heard, is_split, ledger, split, ledger_state, work_on}
use Rattle.node_defs.specs.Log.{Letter, Log}
use Rattle.node_defs.specs.Position.{Standing, Work, agreed, is_ready, own_outcome, ran, standing, standings}
use Rattle.node_defs.specs.Rules.{IsLocal, Rules, in_force}
use Rattle.node_defs.specs.Sent.{batches, commit_of, did_run, held, is_cut, is_due, newly_ran, no_standing, run_order, sent, sent_in, sent_of, sent_upto, sent_with, vote_on}
use Rattle.node_defs.specs.Serial.{IsNumbered, serial_base, serial_ledger, serial_outcomes_at}
use Rattle.node_defs.specs.Blocks.{block_at}
use Rattle.node_laws.proofs.Agree.{AllRight, Sound, accepted_right, block_right, ledger_right, none_differs}
use Rattle.node_laws.proofs.Few.{IsTameAll}
use Rattle.node_laws.proofs.Growing.{StaysOpen, ledger_grows, standings_keep, stays_open}
use Rattle.node_laws.proofs.Order.{length_serial}
use Rattle.node_laws.specs.Agreement.{IsRight}
use Rattle.node_laws.specs.Growth.{KeepAll}
use Rattle.oxii_defs.specs.Lines.{Entry}
use Rattle.txn_types.specs.declared.block.Block.{Block}
use Rattle.txn_types.specs.declared.message.Commit.{Commit}
use Rattle.txn_types.specs.declared.message.Node.{Node}
use Rattle.txn_types.specs.declared.txn.Outcome.{Outcome}
use Rattle.txn_types.specs.declared.txn.Txn.{Txn}

-- the block that a peer works on is the chain's, and each of its positions stands right
pub works_right : (rules : Rules) → IsLocal rules → (chain : List Block) (faulty : Node → Bool) → IsTameAll rules chain faulty → IsNumbered chain → (me m : ℕ) (L : Log) → Sound rules chain faulty L → (b : Block) → accepted_after rules m (completed rules me m L) L ≡ Some b → (m < length chain) × AllRight (serial_outcomes_at rules chain m) (standings (in_force rules (completed rules me m L)) (work_on rules me m (completed rules me m) L b) (length b.txns) L)
works_right rules l chain faulty tame numbered me m L s b q = one (length done == m) refl q
  where
    done : List Entry
    done = completed rules me m L

    one : (c : Bool) → (length done == m) ≡ c → cond c (accepted rules (suc m) (tip rules done) L) None ≡ Some b → (m < length chain) × AllRight (serial_outcomes_at rules chain m) (standings (in_force rules (completed rules me m L)) (work_on rules me m (completed rules me m) L b) (length b.txns) L)
    one false e k = absurd (none-some b k)
    one true e k =
        let n : length done ≡ m = eqb-true (length done) m e in
        let acc = accepted_right (in_force rules (serial_ledger rules chain m)) chain faulty m (tame m).orderers numbered (tip rules done) L s b k in
        let d : done ≡ serial_ledger rules chain m = (ledger_right rules l chain faulty tame numbered me m L s).0 ∙ ap (serial_ledger rules chain) n in
        let opens : Log → Bool = λ K. is_some (accepted_after rules m (completed rules me m K) K) in
        let P : Block → List Entry → Type 0 = λ c ds. AllRight (serial_outcomes_at rules chain m) (standings (in_force rules ds) (record { me = me; n = suc m; txns = c.txns; base = ledger_state rules ds; opens = opens }) (length c.txns) L) in
        let base : P (block_at chain m) (serial_ledger rules chain m) = block_right (in_force rules (serial_ledger rules chain m)) l chain faulty me m (tame m) opens acc.0 L s in
        (acc.0, subst (λ c. P c done) (sym acc.1) (subst (λ ds. P (block_at chain m) ds) (sym d) base))

no_halt : (n t : ℕ) (txns : List Txn) (all : List Standing) → list_any differs all ≡ false → first_halt n t txns all ≡ None
no_halt n t [] all h = refl
no_halt n t (x ∷ txns) [] h = refl
no_halt n t (x ∷ txns) (s ∷ all) h =
    let p = or_parts (differs s) (list_any differs all) h in
    rw p.0 (no_halt n (suc t) txns all p.1)

pub never_split : (rules : Rules) → IsLocal rules → (chain : List Block) (faulty : Node → Bool) → IsTameAll rules chain faulty → IsNumbered chain → (me : ℕ) (L : Log) → Sound rules chain faulty L → split rules me L ≡ None
never_split rules l chain faulty tame numbered me L s = one (accepted_after rules m (completed rules me m L) L) refl
  where
    m : ℕ
    m = length (ledger rules me L)

    one : (o : Option Block) → accepted_after rules m (completed rules me m L) L ≡ o → halt_in (in_force rules (completed rules me m L)) L (option_map (work_on rules me m (completed rules me m) L) o) ≡ None
    one None q = refl
    one (Some b) q = no_halt (suc m) 0 b.txns _ (none_differs (serial_outcomes_at rules chain m) _ (works_right rules l chain faulty tame numbered me m L s b q).1)

-- so a peer hears all of its log
pub hears_all : (rules : Rules) → IsLocal rules → (chain : List Block) (faulty : Node → Bool) → IsTameAll rules chain faulty → IsNumbered chain → (me : ℕ) (L : Log) → Sound rules chain faulty L → heard rules me L ≡ L
hears_all rules l chain faulty tame numbered me [] s = refl
hears_all rules l chain faulty tame numbered me (e ∷ L) s =
    let h = hears_all rules l chain faulty tame numbered me L s.1 in
    rw (h, heard) (rw (ap is_some (never_split rules l chain faulty tame numbered me L s.1)) refl)

-- WHAT IS SENT

pub all_map : {A B : Type 0} (P : B → Type 0) (f : A → B) (xs : List A) → AllByRecursion (λ x. P (f x)) xs → AllByRecursion P (map f xs)
all_map P f [] a = tt
all_map P f (x ∷ xs) a = (a.0, all_map P f xs a.1)

pub all_more : {A : Type 0} (P Q : A → Type 0) → ((x : A) → P x → Q x) → (xs : List A) → AllByRecursion P xs → AllByRecursion Q xs
all_more P Q h [] a = tt
all_more P Q h (x ∷ xs) a = (h x a.0, all_more P Q h xs a.1)

pub all_append : {A : Type 0} (P : A → Type 0) (xs ys : List A) → AllByRecursion P xs → AllByRecursion P ys → AllByRecursion P (xs ++ ys)
all_append P [] ys a b = b
all_append P (x ∷ xs) ys a b = (a.0, all_append P xs ys a.1 b)

pub all_reverse : {A : Type 0} (P : A → Type 0) (xs : List A) → AllByRecursion P xs → AllByRecursion P (reverse xs)
all_reverse P [] a = tt
all_reverse P (x ∷ xs) a = subst (AllByRecursion P) (sym (reverse-append (x ∷ []) xs)) (all_append P (reverse xs) (x ∷ []) (all_reverse P xs a.1) (a.0, tt))

pub all_filter : {A : Type 0} (P : A → Type 0) (p : A → Bool) (xs : List A) → AllByRecursion P xs → AllByRecursion P (filter p xs)
all_filter P p [] a = tt
all_filter P p (x ∷ xs) a = elim (p x) as (λ b. AllByRecursion P (cond b (x ∷ filter p xs) (filter p xs))) [ true ↦ (a.0, all_filter P p xs a.1) | false ↦ all_filter P p xs a.1 ]

pub all_at : {A : Type 0} (P : A → Type 0) (xs : List A) (t : ℕ) (d : A) → P d → AllByRecursion P xs → P (get_or xs t d)
all_at P [] t d h a = h
all_at P (x ∷ xs) zero d h a = a.0
all_at P (x ∷ xs) (suc t) d h a = all_at P xs t d h a.1

pub keep_at : (xs ys : List Standing) (t : ℕ) → KeepAll xs ys → (get_or xs t no_standing).ran ≡ true → (get_or ys t no_standing).ran ≡ true
keep_at [] [] t k h = h
keep_at [] (y ∷ ys) t k h = absurd k
keep_at (x ∷ xs) [] t k h = absurd k
keep_at (x ∷ xs) (y ∷ ys) zero k h = k.0.ran h
keep_at (x ∷ xs) (y ∷ ys) (suc t) k h = keep_at xs ys t k.1 h

if_ran : (r : Bool) (u : Outcome) (b : Option Outcome) → r ≡ true → is_some (cond r (Some u) b) ≡ true
if_ran true u b h = refl
if_ran false u b h = absurd (false≢true h)

-- what ran is known
pub ran_known : (rules : Rules) (w : Work) (K : Log) (t : ℕ) → AllByRecursion (λ (x : Standing). x.ran ≡ true → is_some x.believed ≡ true) (standings rules w t K)
ran_known rules w K zero = tt
ran_known rules w K (suc t) = all_append (λ (x : Standing). x.ran ≡ true → is_some x.believed ≡ true) (standings rules w t K) (standing rules w t (standings rules w t) K ∷ []) (ran_known rules w K t)
    (if_ran (ran rules w t (standings rules w t) K) (own_outcome rules w t (standings rules w t) K) (cond (is_ready rules w t (w.opens K) (standings rules w t K)) (agreed rules w t (standings rules w t) K) None), tt)

pub believed_at : (os : List Outcome) (xs : List Standing) (t : ℕ) (o : Outcome) → AllRight os xs → (get_or xs t no_standing).believed ≡ Some o → o ≡ get_or os t no_outcome
believed_at [] [] t o a h = absurd (none-some o h)
believed_at [] (x ∷ xs) t o a h = absurd a
believed_at (p ∷ os) [] t o a h = absurd a
believed_at (p ∷ os) (x ∷ xs) zero o a h = a.0.believed o h
believed_at (p ∷ os) (x ∷ xs) (suc t) o a h = believed_at os xs t o a.1 h

abbrev pub AllRan : Rules → Work → Log → List ℕ → Type 0
AllRan rules w K ts = AllByRecursion (λ t. did_run rules w t K ≡ true) ts

newly_all : (rules : Rules) (w : Work) (e : Letter) (L : Log) (n : ℕ) → AllRan rules w (e ∷ L) (newly_ran rules w e L n)
newly_all rules w e L zero = tt
newly_all rules w e L (suc t) = one (did_run rules w t (e ∷ L)) refl (not (did_run rules w t L)) (newly_all rules w e L t)
  where
    one : (a : Bool) → did_run rules w t (e ∷ L) ≡ a → (b : Bool) → AllRan rules w (e ∷ L) (newly_ran rules w e L t) → AllRan rules w (e ∷ L) (cond (a && b) (t ∷ newly_ran rules w e L t) (newly_ran rules w e L t))
    one false h b r = r
    one true h false r = r
    one true h true r = (h, r)

pub order_ran : (rules : Rules) → IsLocal rules → (w : Work) → StaysOpen w → (L : Log) → AllRan rules w L (run_order rules w L)
order_ran rules l w op [] = tt
order_ran rules l w op (e ∷ L) =
    all_append (λ t. did_run rules w t (e ∷ L) ≡ true) (newly_ran rules w e L (length w.txns)) (run_order rules w L) (newly_all rules w e L (length w.txns))
    (all_more (λ t. did_run rules w t L ≡ true) (λ t. did_run rules w t (e ∷ L) ≡ true) (λ t h. keep_at (all_standings rules w L) (all_standings rules w (e ∷ L)) t (standings_keep rules l w op (length w.txns) e L) h) (run_order rules w L) (order_ran rules l w op L))

pub held_all : (rules : Rules) (w : Work) (P : ℕ → Type 0) (ts : List ℕ) → AllByRecursion P ts → AllByRecursion P (held rules w ts)
held_all rules w P [] a = tt
held_all rules w P (t ∷ ts) a = elim (is_cut rules w (t ∷ ts)) as (λ b. AllByRecursion P (cond b [] (t ∷ held rules w ts))) [ true ↦ tt | false ↦ (a.0, held_all rules w P ts a.1) ]

pub batches_all : (rules : Rules) (w : Work) (P : ℕ → Type 0) (ts : List ℕ) → AllByRecursion P ts → AllByRecursion (AllByRecursion P) (batches rules w ts)
batches_all rules w P [] a = tt
batches_all rules w P (t ∷ ts) a = elim (is_cut rules w (t ∷ ts)) as (λ b. AllByRecursion (AllByRecursion P) (cond b ((t ∷ held rules w ts) ∷ batches rules w ts) (batches rules w ts))) [ true ↦ ((a.0, held_all rules w P ts a.1), batches_all rules w P ts a.1) | false ↦ batches_all rules w P ts a.1 ]

-- what ran is a position of the block
ran_in : (os : List Outcome) (xs : List Standing) (t : ℕ) → AllRight os xs → (get_or xs t no_standing).ran ≡ true → t < length os
ran_in [] [] t a h = absurd (false≢true h)
ran_in [] (x ∷ xs) t a h = absurd a
ran_in (o ∷ os) [] t a h = absurd a
ran_in (o ∷ os) (x ∷ xs) zero a h = omega arith
ran_in (o ∷ os) (x ∷ xs) (suc t) a h = omega (arith, ran_in os xs t a.1 h)

-- every vote that is sent is the serial outcome
vote_right : (rules : Rules) (chain : List Block) (w : Work) (m : ℕ) (K : Log) → m < length chain → AllRight (serial_outcomes_at rules chain m) (all_standings rules w K) → (t : ℕ) → did_run rules w t K ≡ true → IsRight rules chain (suc m) (vote_on (all_standings rules w K) t)
vote_right rules chain w m K within a t r = (
  m,
  within,
  refl,
  omega (arith, ran_in (serial_outcomes_at rules chain m) all t a r, length_serial rules (serial_base rules chain m) (block_at chain m).txns),
  one (get_or all t no_standing).believed refl (all_at (λ (x : Standing). x.ran ≡ true → is_some x.believed ≡ true) all t no_standing (λ h. absurd (false≢true h)) (ran_known rules w K (length w.txns)) r),
)
  where
    all : List Standing
    all = all_standings rules w K

    one : (b : Option Outcome) → (get_or all t no_standing).believed ≡ b → is_some (get_or all t no_standing).believed ≡ true → unwrap_or (get_or all t no_standing).believed no_outcome ≡ get_or (serial_outcomes_at rules chain m) t no_outcome
    one None e s = absurd (false≢true (sym (ap is_some e) ∙ s))
    one (Some o) e s = ap (λ (b : Option Outcome). unwrap_or b no_outcome) e ∙ believed_at (serial_outcomes_at rules chain m) all t o a e

-- each vote of a COMMIT is the serial outcome
abbrev pub IsRightCommit : Rules → List Block → Commit → Type 0
IsRightCommit rules chain c = AllByRecursion (IsRight rules chain c.n) c.votes

sent_of_right : (rules : Rules) → IsLocal rules → (chain : List Block) (w : Work) (m : ℕ) (e : Letter) (L : Log) → m < length chain → w.n ≡ suc m → StaysOpen w → AllRight (serial_outcomes_at rules chain m) (all_standings rules w (e ∷ L)) → AllByRecursion (IsRightCommit rules chain) (sent_of rules w e L)
sent_of_right rules l chain w m e L within n op a =
    let K = e ∷ L in
    let bs = batches rules w (run_order rules w K) in
    let ran = batches_all rules w (λ t. did_run rules w t K ≡ true) (run_order rules w K) (order_ran rules l w op K) in
    all_map (IsRightCommit rules chain) (commit_of w (all_standings rules w K)) (reverse (filter (is_due rules w e L) bs))
    (all_more (AllRan rules w K) (λ b. IsRightCommit rules chain (commit_of w (all_standings rules w K) b))
    (λ b r. all_map (IsRight rules chain w.n) (vote_on (all_standings rules w K)) (reverse b) (all_more (λ t. did_run rules w t K ≡ true) (λ t. IsRight rules chain w.n (vote_on (all_standings rules w K) t)) (λ t h. subst (λ j. IsRight rules chain j (vote_on (all_standings rules w K) t)) (sym n) (vote_right rules chain w m K within a t h)) (reverse b) (all_reverse (λ t. did_run rules w t K ≡ true) b r)))
    (reverse (filter (is_due rules w e L) bs)) (all_reverse (AllRan rules w K) (filter (is_due rules w e L) bs) (all_filter (AllRan rules w K) (is_due rules w e L) bs ran)))

pub sent_right : (rules : Rules) → IsLocal rules → (chain : List Block) (faulty : Node → Bool) → IsTameAll rules chain faulty → IsNumbered chain → (me : ℕ) (L : Log) → Sound rules chain faulty L → AllByRecursion (IsRightCommit rules chain) (sent rules me L)
sent_right rules l chain faulty tame numbered me [] s = tt
sent_right rules l chain faulty tame numbered me (e ∷ L) s = elim (is_split rules me (heard rules me L)) as (λ b. AllByRecursion (IsRightCommit rules chain) (cond b [] (sent_upto rules me (length (e ∷ L)) e L))) [ true ↦ tt | false ↦ upto (length (e ∷ L)) ]
  where
    one : (m : ℕ) (o : Option Block) → accepted_after rules m (completed rules me m (e ∷ L)) (e ∷ L) ≡ o → AllByRecursion (IsRightCommit rules chain) (sent_with rules me m e L o)
    one m None q = tt
    one m (Some b) q = sent_of_right (in_force rules (completed rules me m (e ∷ L))) l chain (work_on rules me m (completed rules me m) (e ∷ L) b) m e L (works_right rules l chain faulty tame numbered me m (e ∷ L) s b q).0 refl (stays_open rules me m (ledger_grows rules l me m) (e ∷ L) b) (works_right rules l chain faulty tame numbered me m (e ∷ L) s b q).1

    upto : (n : ℕ) → AllByRecursion (IsRightCommit rules chain) (sent_upto rules me n e L)
    upto zero = tt
    upto (suc m) = all_append (IsRightCommit rules chain) (sent_upto rules me m e L) (sent_in rules me m e L) (upto m) (one m (accepted_after rules m (completed rules me m (e ∷ L)) (e ∷ L)) refl)
