-- What a peer sends it believes, and goes on believing.
use Rattle.std.specs.Prelude.{ℕ, ◌≡◌, Bool, true, false, cond, List, [], ◌∷◌, map, reverse, filter, length, get_or, Option, Some, None, is_some, unwrap_or, zero, suc, refl}
use Rattle.std.specs.List.{AllByRecursion}
use Rattle.std.proofs.Common.{sym, ◌∙◌, ap, subst}
use Rattle.std.proofs.lemmas.Bool.{false≢true, true≢false}
use Rattle.txn_types.specs.declared.txn.Outcome.{Outcome}
use Rattle.txn_types.specs.declared.block.Block.{Block}
use Rattle.txn_types.specs.declared.message.Vote.{Vote}
use Rattle.txn_types.specs.declared.message.Commit.{Commit}
use Rattle.known_defs.specs.Known.{no_outcome}
use Rattle.node_defs.specs.Rules.{IsLocal, Rules, in_force}
use Rattle.node_defs.specs.Log.{Letter, Log}
use Rattle.node_defs.specs.Position.{Standing, Work}
use Rattle.node_defs.specs.Ledger.{accepted_at, all_standings, completed, heard, is_split, work_on}
use Rattle.node_defs.specs.Sent.{batches, commit_of, did_run, is_due, no_standing, run_order, sent, sent_in, sent_of, sent_upto, sent_with, vote_on}
use Rattle.node_laws.specs.Growth.{KeepAll, Stays, standings_at}
use Rattle.node_laws.proofs.AgreeSent.{AllRan, all_append, all_at, all_filter, all_map, all_more, all_reverse, batches_all, order_ran, ran_known}
use Rattle.node_laws.proofs.Growing.{StaysOpen, ledger_grows, stays_open}
use Rattle.node_laws.proofs.GrowthLaw.{stays}

-- WHAT RAN IS BELIEVED

-- a vote on a position that ran is what is believed of it
abbrev IsBelievedAt : List Standing → Vote → Type 0
IsBelievedAt all v = (get_or all v.t no_standing).believed ≡ Some v.outcome

vote_believed : (rules : Rules) (w : Work) (K : Log) (t : ℕ) → did_run rules w t K ≡ true → IsBelievedAt (all_standings rules w K) (vote_on (all_standings rules w K) t)
vote_believed rules w K t r = one (get_or all t no_standing).believed refl (all_at (λ (x : Standing). x.ran ≡ true → is_some x.believed ≡ true) all t no_standing (λ h. absurd (false≢true h)) (ran_known rules w K (length w.txns)) r)
  where
    all : List Standing
    all = all_standings rules w K

    one : (b : Option Outcome) → (get_or all t no_standing).believed ≡ b → is_some (get_or all t no_standing).believed ≡ true → (get_or all t no_standing).believed ≡ Some (unwrap_or (get_or all t no_standing).believed no_outcome)
    one None e s = absurd (false≢true (sym (ap is_some e) ∙ s))
    one (Some o) e s = e ∙ ap (λ (b : Option Outcome). Some (unwrap_or b no_outcome)) (sym e)

-- so is each vote that is sent of a block
sent_of_believed : (rules : Rules) → IsLocal rules → (w : Work) (e : Letter) (L : Log) → StaysOpen w → AllByRecursion (λ (c : Commit). (c.n ≡ w.n) × AllByRecursion (IsBelievedAt (all_standings rules w (e ∷ L))) c.votes) (sent_of rules w e L)
sent_of_believed rules l w e L op =
    let K = e ∷ L in
    let all = all_standings rules w K in
    let bs = batches rules w (run_order rules w K) in
    let ran = batches_all rules w (λ t. did_run rules w t K ≡ true) (run_order rules w K) (order_ran rules l w op K) in
    all_map (λ (c : Commit). (c.n ≡ w.n) × AllByRecursion (IsBelievedAt all) c.votes) (commit_of w all) (reverse (filter (is_due rules w e L) bs))
    (all_more (AllRan rules w K) (λ b. (w.n ≡ w.n) × AllByRecursion (IsBelievedAt all) (map (vote_on all) (reverse b)))
    (λ b r. (refl, all_map (IsBelievedAt all) (vote_on all) (reverse b) (all_more (λ t. did_run rules w t K ≡ true) (λ t. IsBelievedAt all (vote_on all t)) (vote_believed rules w K) (reverse b) (all_reverse (λ t. did_run rules w t K ≡ true) b r))))
    (reverse (filter (is_due rules w e L) bs)) (all_reverse (AllRan rules w K) (filter (is_due rules w e L) bs) (all_filter (AllRan rules w K) (is_due rules w e L) bs ran)))

-- AGAINST A LOG

-- the peer believes this of a position of block n
abbrev pub IsBelieved : Rules → ℕ → Log → ℕ → Vote → Type 0
IsBelieved rules me K n v = (m : ℕ) × (b : Block) × (n ≡ suc m) × (accepted_at rules me m K ≡ Some b) × IsBelievedAt (standings_at rules me m b K) v

-- all votes of a COMMIT
abbrev pub AreBelieved : Rules → ℕ → Log → Commit → Type 0
AreBelieved rules me K c = AllByRecursion (IsBelieved rules me K c.n) c.votes

keeps_at : (xs ys : List Standing) (t : ℕ) (o : Outcome) → KeepAll xs ys → (get_or xs t no_standing).believed ≡ Some o → (get_or ys t no_standing).believed ≡ Some o
keeps_at [] [] t o k h = h
keeps_at [] (y ∷ ys) t o k h = absurd k
keeps_at (x ∷ xs) [] t o k h = absurd k
keeps_at (x ∷ xs) (y ∷ ys) zero o k h = k.0.believed o h
keeps_at (x ∷ xs) (y ∷ ys) (suc t) o k h = keeps_at xs ys t o k.1 h

-- it goes on believing it
pub believed_on : (rules : Rules) → IsLocal rules → (me : ℕ) (e : Letter) (K : Log) (n : ℕ) (v : Vote) → IsBelieved rules me K n v → IsBelieved rules me (e ∷ K) n v
believed_on rules l me e K n v h =
    let s : Stays rules me K (e ∷ K) = stays rules l me K (e ∷ []) in
    (h.0, h.1, h.2, s.accepted h.0 h.1 h.3, keeps_at (standings_at rules me h.0 h.1 K) (standings_at rules me h.0 h.1 (e ∷ K)) v.t v.outcome (s.positions h.0 h.1 h.3) h.4)

-- also where it is halted and hears nothing more
pub believed_heard : (rules : Rules) → IsLocal rules → (me : ℕ) (e : Letter) (L : Log) (n : ℕ) (v : Vote) → IsBelieved rules me (heard rules me L) n v → IsBelieved rules me (heard rules me (e ∷ L)) n v
believed_heard rules l me e L n v h = elim (is_split rules me (heard rules me L)) as (λ b. IsBelieved rules me (cond b (heard rules me L) (e ∷ heard rules me L)) n v) [ true ↦ h | false ↦ believed_on rules l me e (heard rules me L) n v h ]

heard_whole : (rules : Rules) (me : ℕ) (L : Log) → is_split rules me (heard rules me L) ≡ false → heard rules me L ≡ L
heard_whole rules me [] h = refl
heard_whole rules me (e ∷ L) h = one (is_split rules me (heard rules me L)) refl h (λ q. heard_whole rules me L q)
  where
    one : (b : Bool) → is_split rules me (heard rules me L) ≡ b → is_split rules me (cond b (heard rules me L) (e ∷ heard rules me L)) ≡ false → (is_split rules me (heard rules me L) ≡ false → heard rules me L ≡ L) → cond b (heard rules me L) (e ∷ heard rules me L) ≡ e ∷ L
    one true q k more = absurd (true≢false (sym q ∙ k))
    one false q k more = ap (λ K. e ∷ K) (more q)

-- what it sends it believes by what it heard
pub sent_believed : (rules : Rules) → IsLocal rules → (me : ℕ) (L : Log) → AllByRecursion (AreBelieved rules me (heard rules me L)) (sent rules me L)
sent_believed rules l me [] = tt
sent_believed rules l me (e ∷ L) = one (is_split rules me (heard rules me L)) refl
  where
    with_block : (m : ℕ) (o : Option Block) → accepted_at rules me m (e ∷ L) ≡ o → AllByRecursion (AreBelieved rules me (e ∷ L)) (sent_with rules me m e L o)
    with_block m None q = tt
    with_block m (Some b) q =
        let w : Work = work_on rules me m (completed rules me m) (e ∷ L) b in
        let r : Rules = in_force rules (completed rules me m (e ∷ L)) in
        all_more (λ (c : Commit). (c.n ≡ suc m) × AllByRecursion (IsBelievedAt (standings_at rules me m b (e ∷ L))) c.votes) (AreBelieved rules me (e ∷ L))
        (λ c h. all_more (IsBelievedAt (standings_at rules me m b (e ∷ L))) (IsBelieved rules me (e ∷ L) c.n) (λ v k. (m, b, h.0, q, k)) c.votes h.1)
        (sent_of r w e L) (sent_of_believed r l w e L (stays_open rules me m (ledger_grows rules l me m) (e ∷ L) b))

    upto : (n : ℕ) → AllByRecursion (AreBelieved rules me (e ∷ L)) (sent_upto rules me n e L)
    upto zero = tt
    upto (suc m) = all_append (AreBelieved rules me (e ∷ L)) (sent_upto rules me m e L) (sent_in rules me m e L) (upto m) (with_block m (accepted_at rules me m (e ∷ L)) refl)

    one : (b : Bool) → is_split rules me (heard rules me L) ≡ b → AllByRecursion (AreBelieved rules me (cond b (heard rules me L) (e ∷ heard rules me L))) (cond b [] (sent_upto rules me (length (e ∷ L)) e L))
    one true q = tt
    one false q = subst (λ K. AllByRecursion (AreBelieved rules me (e ∷ K)) (sent_upto rules me (length (e ∷ L)) e L)) (sym (heard_whole rules me L q)) (upto (length (e ∷ L)))

-- ONE BELIEF

-- what a peer believes of a position, if anything
abbrev pub belief_with : Rules → ℕ → ℕ → Log → ℕ → Option Block → Outcome
belief_with rules me m K t None = no_outcome
belief_with rules me m K t (Some b) = unwrap_or (get_or (standings_at rules me m b K) t no_standing).believed no_outcome

abbrev pub belief : Rules → ℕ → Log → ℕ → ℕ → Outcome
belief rules me K zero t = no_outcome
belief rules me K (suc m) t = belief_with rules me m K t (accepted_at rules me m K)

pub belief_is : (rules : Rules) (me : ℕ) (K : Log) (n : ℕ) (v : Vote) → IsBelieved rules me K n v → v.outcome ≡ belief rules me K n v.t
belief_is rules me K n v h =
    let m : ℕ = h.0 in
    let b : Block = h.1 in
    sym (ap (λ i. belief rules me K i v.t) h.2
    ∙ (ap (belief_with rules me m K v.t) h.3
    ∙ ap (λ (o : Option Outcome). unwrap_or o no_outcome) h.4))
