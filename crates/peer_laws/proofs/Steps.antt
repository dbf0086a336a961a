-- The steps of one turn, against the longer log
use Rattle.std.specs.Prelude.{ℕ, ◌==◌, ◌<◌, ◌≤◌, ◌≡◌, Bool, true, false, ◌&&◌, ◌||◌, not, cond, List, [], ◌∷◌, ◌++◌, map, reverse, replicate, length, get_or, Option, Some, None, is_some, unwrap_or, nat_lt, zero, suc, refl}
use Rattle.std.specs.List.{AllByRecursion}
use Rattle.std.proofs.Common.{sym, ◌∙◌, ap, arith, ⊎_elim}
use Rattle.std.proofs.Math.Bool.{and-false}
use Rattle.std.proofs.lemmas.Bool.{false≢true, and_parts, cases_lt, eqb-true, eq-eqb, lt-ltb, le-ltb}
use Rattle.std.proofs.lemmas.Option.{same_Some}
use Rattle.std.proofs.lemmas.List.{get_or_past}
use Rattle.node_laws.proofs.Growing.{StaysOpen, standings_keep, ledger_grows, stays_open, after_keeps}
use Rattle.node_laws.proofs.Settle.{beliefs_at, front, length_beliefs, push_same}
use Rattle.node_laws.proofs.AgreeSent.{held_all, order_ran, keep_at}
use Rattle.node_laws.proofs.Standings.{length_standings}
use Rattle.peer_laws.proofs.Unopened.{said_is, no_order, nothing_believed, unrun}
use Rattle.peer_laws.proofs.Turn.{ran_is, did_run_is}
use Rattle.oxii_defs.specs.State.{contains}
use Rattle.known_defs.specs.Known.{no_outcome, txn_at}
use Rattle.node_defs.specs.Ledger.{all_standings, completed, ledger_state, accepted_at}
use Rattle.node_defs.specs.Log.{Letter, Log}
use Rattle.node_defs.specs.Position.{Standing, Work, ballots, is_agent, standing, standings}
use Rattle.node_defs.specs.Rules.{IsLocal, Rules, in_force}
use Rattle.node_defs.specs.Sent.{did_run, held, newly_ran, no_standing, run_order, vote_on}
use Rattle.node_laws.specs.Growth.{KeepAll}
use Rattle.oxii_defs.specs.Lines.{Entry}
use Rattle.peer_laws.specs.Turns.{InWork, agreed_in, force_at, open_at, open_with, said, shown, shown_one, taken_up, vote_of, votes_behind, votes_with, work_at}
use Rattle.txn_types.specs.declared.block.Block.{Block}
use Rattle.txn_types.specs.declared.message.Vote.{Vote}
use Rattle.txn_types.specs.declared.txn.Outcome.{Outcome}

abbrev pub work_from : Rules → ℕ → ℕ → Block → List Entry → Work
work_from rules me m b ds = record { me = me; n = suc m; txns = b.txns; base = ledger_state rules ds; opens = λ K. is_some (accepted_at rules me m K) }

-- a block that was in work still is, and the blocks behind it are the same
pub still : (rules : Rules) → IsLocal rules → (me m : ℕ) (e : Letter) (L : Log) (a b : Block) → accepted_at rules me m L ≡ Some a → accepted_at rules me m (e ∷ L) ≡ Some b → (a ≡ b) × (completed rules me m L ≡ completed rules me m (e ∷ L))
still rules l me m e L a b h k =
    let g = after_keeps rules me m (ledger_grows rules l me m) e L a h in
    (same_Some a b (sym g.0 ∙ k), sym g.1)

pub opens_now : (rules : Rules) (me m : ℕ) (K : Log) (c : Block) (b : Block) → accepted_at rules me m K ≡ Some c → (work_at rules me m K b).opens K ≡ true
opens_now rules me m K c b h = ap is_some h

-- the votes before this entry, whether the block has just been accepted or stood before
pub votes_before : (rules : Rules) → IsLocal rules → (me m : ℕ) (e : Letter) (L : Log) (b : Block) → accepted_at rules me m (e ∷ L) ≡ Some b → (t : ℕ) → t < length b.txns → votes_behind rules me m t L ≡ ballots (force_at rules me m (e ∷ L)) (work_at rules me m (e ∷ L) b) t (standings (force_at rules me m (e ∷ L)) (work_at rules me m (e ∷ L) b) t) L
votes_before rules l me m e L b k t lt = one (accepted_at rules me m L) refl
  where
    r : Rules
    r = force_at rules me m (e ∷ L)

    w : Work
    w = work_at rules me m (e ∷ L) b

    one : (o : Option Block) → accepted_at rules me m L ≡ o → votes_with rules me m t L o ≡ ballots r w t (standings r w t) L
    one None h = sym (said_is r w (stays_open rules me m (ledger_grows rules l me m) (e ∷ L) b) t L (ap is_some h))
    one (Some a) h =
        let s = still rules l me m e L a b h k in
        ap (λ c. votes_with rules me m t L (Some c)) s.0 ∙ (rw (lt-ltb t (length b.txns) lt)
        (ap (λ ds. ballots (in_force rules ds) (work_from rules me m b ds) t (standings (in_force rules ds) (work_from rules me m b ds) t) L) s.1))

-- the votes with this entry on places that the block doesn't have
pub votes_outside : (rules : Rules) → IsLocal rules → (me m : ℕ) (e : Letter) (L : Log) (b : Block) → accepted_at rules me m (e ∷ L) ≡ Some b → (t : ℕ) → length b.txns ≤ t → votes_behind rules me m t L ≡ said rules me (suc m) t L
votes_outside rules l me m e L b k t lt = one (accepted_at rules me m L) refl
  where
    one : (o : Option Block) → accepted_at rules me m L ≡ o → votes_with rules me m t L o ≡ said rules me (suc m) t L
    one None h = refl
    one (Some a) h =
        let s = still rules l me m e L a b h k in
        ap (λ c. votes_with rules me m t L (Some c)) s.0 ∙ rw (le-ltb t (length b.txns) lt) refl

abbrev pub opened_as : Rules → Work → Log → Block → InWork
opened_as rules w L b = record { block = b; known = beliefs_at rules w L (length w.txns); held = reverse (map (vote_on (all_standings rules w L)) (held rules w (run_order rules w L))) }

none_list : (n : ℕ) (xs : List (Option Outcome)) → length xs ≡ n → ((t : ℕ) → get_or xs t None ≡ None) → replicate n None ≡ xs
none_list zero [] l h = refl
none_list zero (x ∷ xs) l h = absurd (omega (arith, l))
none_list (suc n) [] l h = absurd (omega (arith, l))
none_list (suc n) (x ∷ xs) l h = let more = none_list n xs (omega (arith, l)) (λ t. h (suc t)) in let one : x ≡ None = h 0 in cc

made_as : (b : Block) (xs ys : List (Option Outcome)) (us vs : List Vote) → xs ≡ ys → us ≡ vs → ◌≡◌ {A = InWork} (record { block = b; known = xs; held = us }) (record { block = b; known = ys; held = vs })
made_as b xs ys us vs p q = cc

pub taken_up_is : (rules : Rules) → IsLocal rules → (me m : ℕ) (e : Letter) (L : Log) (b : Block) → accepted_at rules me m (e ∷ L) ≡ Some b → taken_up b (open_at rules me m L) ≡ opened_as (force_at rules me m (e ∷ L)) (work_at rules me m (e ∷ L) b) L b
taken_up_is rules l me m e L b k = one (accepted_at rules me m L) refl
  where
    r : Rules
    r = force_at rules me m (e ∷ L)

    w : Work
    w = work_at rules me m (e ∷ L) b

    one : (o : Option Block) → accepted_at rules me m L ≡ o → taken_up b (open_with rules me m L o) ≡ opened_as r w L b
    one None h =
        let shut = ap is_some h in
        made_as b (replicate (length b.txns) None) (beliefs_at r w L (length b.txns)) [] (reverse (map (vote_on (all_standings r w L)) (held r w (run_order r w L))))
        (none_list (length b.txns) (beliefs_at r w L (length b.txns)) (length_beliefs r w L (length b.txns)) (nothing_believed r w (length b.txns) L shut))
        (sym (ap (λ ts. reverse (map (vote_on (all_standings r w L)) (held r w ts))) (no_order r w (stays_open rules me m (ledger_grows rules l me m) (e ∷ L) b) L shut)))
    one (Some a) h =
        let s = still rules l me m e L a b h k in
        ap (λ c. opened_as (force_at rules me m L) (work_at rules me m L c) L c) s.0 ∙ ap (λ ds. opened_as (in_force rules ds) (work_from rules me m b ds) L b) s.1

-- WHAT IS HELD

believed_at : (xs : List Standing) (t : ℕ) → (get_or xs t no_standing).believed ≡ get_or (map (λ (s : Standing). s.believed) xs) t None
believed_at [] t = refl
believed_at (x ∷ xs) zero = refl
believed_at (x ∷ xs) (suc t) = believed_at xs t

abbrev pub vote_from : ℕ → Option Outcome → Vote
vote_from t o = record { t = t; outcome = unwrap_or o no_outcome }

-- a vote as the peer makes it, from what it knows
pub vote_is : (rules : Rules) (w : Work) (K : Log) (t : ℕ) → vote_on (all_standings rules w K) t ≡ vote_of (beliefs_at rules w K (length w.txns)) t
vote_is rules w K t = ap (vote_from t) (believed_at (all_standings rules w K) t)

pub map_same : {A B : Type 0} (f g : A → B) (P : A → Type 0) → ((x : A) → P x → f x ≡ g x) → (xs : List A) → AllByRecursion P xs → map f xs ≡ map g xs
map_same f g P h [] a = refl
map_same f g P h (x ∷ xs) a = let p = h x a.0 in let q = map_same f g P h xs a.1 in cc

-- a vote on a position that ran stays
vote_stays : (xs ys : List Standing) → KeepAll xs ys → (t : ℕ) → ((get_or xs t no_standing).ran ≡ true → is_some (get_or xs t no_standing).believed ≡ true) → (get_or xs t no_standing).ran ≡ true → vote_on xs t ≡ vote_on ys t
vote_stays [] [] k t s r = refl
vote_stays [] (y ∷ ys) k t s r = absurd k
vote_stays (x ∷ xs) [] k t s r = absurd k
vote_stays (x ∷ xs) (y ∷ ys) k zero s r = one x.believed refl (s r)
  where
    one : (o : Option Outcome) → x.believed ≡ o → is_some x.believed ≡ true → vote_on (x ∷ xs) zero ≡ vote_on (y ∷ ys) zero
    one None e i = absurd (false≢true (sym (ap is_some e) ∙ i))
    one (Some o) e i = ap (vote_from zero) (e ∙ sym (k.0.believed o e))
vote_stays (x ∷ xs) (y ∷ ys) k (suc t) s r = let m = vote_stays xs ys k.1 t s r in ap (λ (v : Vote). vote_from (suc t) (Some v.outcome)) m

ran_believed : (rules : Rules) (w : Work) (K : Log) (t : ℕ) → did_run rules w t K ≡ true → is_some (get_or (all_standings rules w K) t no_standing).believed ≡ true
ran_believed rules w K t h = ⊎_elim inside (λ l. absurd (false≢true (sym (ap (λ (s : Standing). s.ran) (get_or_past (all_standings rules w K) t no_standing (omega (arith, length_standings rules w K (length w.txns), l)))) ∙ h))) (cases_lt t (length w.txns))
  where
    inside : t < length w.txns → is_some (get_or (all_standings rules w K) t no_standing).believed ≡ true
    inside l = ap is_some (believed_at (all_standings rules w K) t) ∙ (and_parts (is_agent rules w.me (txn_at w.txns t)) _ (sym (did_run_is rules w K t l) ∙ h)).1

-- what was held is held with the same votes
pub held_keeps : (rules : Rules) → IsLocal rules → (w : Work) → StaysOpen w → (e : Letter) (L : Log) → map (vote_on (all_standings rules w L)) (held rules w (run_order rules w L)) ≡ map (vote_of (beliefs_at rules w (e ∷ L) (length w.txns))) (held rules w (run_order rules w L))
held_keeps rules l w op e L =
    map_same (vote_on (all_standings rules w L)) (vote_of (beliefs_at rules w (e ∷ L) (length w.txns))) (λ t. did_run rules w t L ≡ true)
    (λ t r. vote_stays (all_standings rules w L) (all_standings rules w (e ∷ L)) (standings_keep rules l w op (length w.txns) e L) t (ran_believed rules w L t) r ∙ vote_is rules w (e ∷ L) t)
    (held rules w (run_order rules w L)) (held_all rules w (λ t. did_run rules w t L ≡ true) (run_order rules w L) (order_ran rules l w op L))

-- WHAT RAN

pub contains-append : (xs ys : List ℕ) (t : ℕ) → contains (xs ++ ys) t ≡ (contains xs t || contains ys t)
contains-append [] ys t = refl
contains-append (x ∷ xs) ys t = elim (t == x) as (λ b. (b || contains (xs ++ ys) t) ≡ ((b || contains xs t) || contains ys t)) [ true ↦ refl | false ↦ contains-append xs ys t ]

-- the places below n at which a test holds, with one place more
pub place_more : (B : ℕ → Bool) (n t : ℕ) (xs : List ℕ) → contains xs t ≡ (nat_lt t n && B t) → contains (cond (B n) (n ∷ xs) xs) t ≡ (nat_lt t (suc n) && B t)
place_more B n t xs ih = one (B n) refl
  where
    rest : (n ≡ t → B t ≡ false) → contains xs t ≡ (nat_lt t (suc n) && B t)
    rest h = ⊎_elim (λ lt. ih ∙ ap (λ b. b && B t) (lt-ltb t n lt ∙ sym (lt-ltb t (suc n) (omega arith))))
        (λ ge. ih ∙ (ap (λ b. b && B t) (le-ltb t n ge) ∙ ⊎_elim (λ lt. let q : n ≡ t = omega arith in sym (rw (h q) (and-false (nat_lt t (suc n))))) (λ ge2. sym (ap (λ b. b && B t) (le-ltb t (suc n) ge2))) (cases_lt t (suc n)))) (cases_lt t n)

    one : (b : Bool) → B n ≡ b → contains (cond b (n ∷ xs) xs) t ≡ (nat_lt t (suc n) && B t)
    one false q = rest (λ s. ap B (sym s) ∙ q)
    one true q = two (t == n) refl
      where
        two : (c : Bool) → (t == n) ≡ c → (c || contains xs t) ≡ (nat_lt t (suc n) && B t)
        two true s = let k : n ≡ t = sym (eqb-true t n s) in sym (rw (lt-ltb t (suc n) (omega (arith, k))) (ap B (sym k) ∙ q))
        two false s = rest (λ k. absurd (false≢true (sym s ∙ eq-eqb t n (sym k))))

-- among the first n positions
in_newly : (rules : Rules) (w : Work) (e : Letter) (L : Log) (n t : ℕ) → contains (newly_ran rules w e L n) t ≡ (nat_lt t n && (did_run rules w t (e ∷ L) && not (did_run rules w t L)))
in_newly rules w e L zero t = rw (le-ltb t 0 (omega arith)) refl
in_newly rules w e L (suc n) t = place_more (λ u. did_run rules w u (e ∷ L) && not (did_run rules w u L)) n t (newly_ran rules w e L n) (in_newly rules w e L n t)

-- the run order has each position that ran
pub in_order : (rules : Rules) → IsLocal rules → (w : Work) → StaysOpen w → w.opens [] ≡ false → (t : ℕ) → t < length w.txns → (L : Log) → contains (run_order rules w L) t ≡ did_run rules w t L
in_order rules l w op shut t lt [] = sym (unrun rules w [] shut t)
in_order rules l w op shut t lt (e ∷ L) =
    contains-append (newly_ran rules w e L (length w.txns)) (run_order rules w L) t
    ∙ (ap (λ b. b || contains (run_order rules w L) t) (in_newly rules w e L (length w.txns) t ∙ ap (λ b. b && (did_run rules w t (e ∷ L) && not (did_run rules w t L))) (lt-ltb t (length w.txns) lt))
    ∙ (ap (λ b. (did_run rules w t (e ∷ L) && not (did_run rules w t L)) || b) (in_order rules l w op shut t lt L)
    ∙ one (did_run rules w t (e ∷ L)) (did_run rules w t L) (keep_at (all_standings rules w L) (all_standings rules w (e ∷ L)) t (standings_keep rules l w op (length w.txns) e L))))
  where
    one : (now before : Bool) → (before ≡ true → now ≡ true) → ((now && not before) || before) ≡ now
    one true true k = refl
    one true false k = refl
    one false true k = absurd (false≢true (k refl))
    one false false k = refl

pub shut_at_first : (rules : Rules) (me m : ℕ) (K : Log) (b : Block) → (work_at rules me m K b).opens [] ≡ false
shut_at_first rules me m K b = one (length (completed rules me m []) == m)
  where
    one : (c : Bool) → is_some (cond {A = Option Block} c None None) ≡ false
    one true = refl
    one false = refl

-- HOW THE POSITIONS STAND

made_standing : (a b : Bool) (x y u v : Option Outcome) → a ≡ b → x ≡ y → u ≡ v → ◌≡◌ {A = Standing} (record { ran = a; agreed = x; believed = u }) (record { ran = b; agreed = y; believed = v })
made_standing a b x y u v p q r = cc

pub shown_is : (rules : Rules) (w : Work) (K : Log) (votes : ℕ → List (ℕ × Outcome)) → ((t : ℕ) → t < length w.txns → votes t ≡ ballots rules w t (standings rules w t) K) → (n : ℕ) → n ≤ length w.txns → shown rules w.me w.txns (beliefs_at rules w K (length w.txns)) votes n ≡ standings rules w n K
shown_is rules w K votes h zero l = refl
shown_is rules w K votes h (suc t) l =
    push_same (shown rules w.me w.txns known votes t) (standings rules w t K) (shown_one rules w.me (txn_at w.txns t) (get_or known t None) (agreed_in rules (txn_at w.txns t) (votes t))) (standing rules w t (standings rules w t) K) (shown_is rules w K votes h t (omega arith))
    (made_standing (is_agent rules w.me (txn_at w.txns t) && is_some (get_or known t None)) (standing rules w t (standings rules w t) K).ran
    (agreed_in rules (txn_at w.txns t) (votes t)) (standing rules w t (standings rules w t) K).agreed
    (get_or known t None) (standing rules w t (standings rules w t) K).believed
    (sym (ran_is rules w K (length w.txns) t (omega arith))) (ap (agreed_in rules (txn_at w.txns t)) (h t (omega arith))) (front rules w K (length w.txns) t (omega arith)))
  where
    known : List (Option Outcome)
    known = beliefs_at rules w K (length w.txns)
