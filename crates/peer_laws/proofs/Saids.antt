-- The votes of each peer, as the log has them.
use Rattle.std.specs.Prelude.{ℕ, suc, ◌==◌, ◌≡◌, ◌≤◌, Bool, true, false, ◌&&◌, not, cond, List, [], ◌∷◌, ◌++◌, map, reverse, get_or, length, nat_lt, Option, Some, None, is_some, refl}
use Rattle.std.proofs.Common.{sym, ◌∙◌, ap, subst, arith}
use Rattle.std.proofs.lemmas.Bool.{and_parts, and_from, eqb-true, eq-eqb, false≢true}
use Rattle.std.proofs.lemmas.List.{append-nil}
use Rattle.txn_types.specs.declared.txn.Outcome.{Outcome}
use Rattle.txn_types.specs.declared.block.Block.{Block}
use Rattle.txn_types.specs.declared.message.Node.{Node}
use Rattle.txn_types.specs.declared.message.Node.TheVariants.{Peer, Orderer}
use Rattle.txn_types.specs.declared.message.Message.{Message}
use Rattle.txn_types.specs.declared.message.Message.TheVariants as message
use Rattle.known_defs.specs.Known.{txn_at}
use Rattle.node_defs.specs.Same.{same_outcome}
use Rattle.node_defs.specs.Rules.{IsLocal, Rules}
use Rattle.node_defs.specs.Log.{Letter, Log, outcomes_on, votes_from, votes_in}
use Rattle.node_defs.specs.Position.{Work, ballots, is_agent, is_ready, own_outcome, ran, standings}
use Rattle.node_defs.specs.Ledger.{accepted_at}
use Rattle.node_laws.proofs.Growing.{StaysOpen, ledger_grows, ready_keeps, standings_keep, stays_open}
use Rattle.evidence_marks.specs.declared.evidence.AgentMark.{AgentMark}
use Rattle.evidence_marks.specs.Evidence.{agent_differs, says_two, votes_on}
use Rattle.evidence_marks.proofs.Sayings.{two_filtered, two_of_few}
use Rattle.peer_laws.specs.Delivery.{VotesAreSaid, votes_of}
use Rattle.peer_laws.specs.Turns.{Casts, VotesPut, force_at, own_at, said, votes_behind, votes_with, work_at}

pub votes_append : (p : ℕ) (xs ys : List (ℕ × Outcome)) → votes_of p (xs ++ ys) ≡ votes_of p xs ++ votes_of p ys
votes_append p [] ys = refl
votes_append p (x ∷ xs) ys = one (x.0 == p) (votes_append p xs ys)
  where
    one : (b : Bool) → votes_of p (xs ++ ys) ≡ votes_of p xs ++ votes_of p ys → cond b (x ∷ votes_of p (xs ++ ys)) (votes_of p (xs ++ ys)) ≡ cond b (x ∷ votes_of p xs) (votes_of p xs) ++ votes_of p ys
    one true h = ap (λ zs. x ∷ zs) h
    one false h = h

-- votes of q are none of p
of_other : (p q : ℕ) (os : List Outcome) → (q == p) ≡ false → votes_of p (map (λ o. (q, o)) os) ≡ []
of_other p q [] h = refl
of_other p q (o ∷ os) h = ap (λ b. cond b ((q, o) ∷ votes_of p (map (λ o. (q, o)) os)) (votes_of p (map (λ o. (q, o)) os))) h ∙ of_other p q os h

-- a message has no vote of the peer that hears it
own_unsaid : (rules : Rules) (me n t : ℕ) (e : Letter) → votes_of me (votes_in rules me n t e) ≡ []
own_unsaid rules me n t e = from e.from e.message
  where
    shut : (a b : Bool) → ((a && false) && b) ≡ false
    shut true b = refl
    shut false b = refl

    from : (x : Node) (m : Message) → votes_of me (votes_from rules me n t x m) ≡ []
    from (Orderer o) (message.NewBlock m) = refl
    from (Orderer o) (message.Commit c) = refl
    from (Peer p) (message.NewBlock m) = refl
    from (Peer p) (message.Commit c) = one (p == me) refl
      where
        os : List Outcome
        os = reverse (outcomes_on t c.votes)

        two : (b : Bool) → (p == me) ≡ false → votes_of me (cond b (map (λ o. (p, o)) os) []) ≡ []
        two true h = of_other me p os h
        two false h = refl

        one : (b : Bool) → (p == me) ≡ b → votes_of me (cond ((nat_lt p (length rules.table.peers) && not (p == me)) && (c.n == n)) (map (λ o. (p, o)) os) []) ≡ []
        one true h = ap (λ b. votes_of me (cond ((nat_lt p (length rules.table.peers) && not b) && (c.n == n)) (map (λ o. (p, o)) os) [])) h ∙ ap (λ b. votes_of me (cond b (map (λ o. (p, o)) os) [])) (shut (nat_lt p (length rules.table.peers)) (c.n == n))
        one false h = two ((nat_lt p (length rules.table.peers) && not (p == me)) && (c.n == n)) h

own_in_said : (rules : Rules) (me n t : ℕ) (K : Log) → votes_of me (said rules me n t K) ≡ []
own_in_said rules me n t [] = refl
own_in_said rules me n t (e ∷ K) =
    votes_append me (votes_in rules me n t e) (said rules me n t K) ∙ (ap (λ xs. xs ++ votes_of me (said rules me n t K)) (own_unsaid rules me n t e) ∙ own_in_said rules me n t K)

-- a message is heard
pub said_more : (rules : Rules) (me : ℕ) (e : Letter) (L : Log) (cast cast2 : Casts) → ((n t : ℕ) → cast2 n t ≡ votes_in rules me n t e ++ cast n t) → VotesAreSaid rules me cast L → VotesAreSaid rules me cast2 (e ∷ L)
said_more rules me e L cast cast2 h s = record {
  others = λ n t p other.
      ap (votes_of p) (h n t) ∙ (votes_append p (votes_in rules me n t e) (cast n t)
      ∙ (ap (λ xs. votes_of p (votes_in rules me n t e) ++ xs) (s.others n t p other) ∙ sym (votes_append p (votes_in rules me n t e) (said rules me n t L))));
  own = λ n t. subst (λ xs. length xs ≤ 1) (sym (ap (votes_of me) (h n t) ∙ (votes_append me (votes_in rules me n t e) (cast n t) ∙ ap (λ xs. xs ++ votes_of me (cast n t)) (own_unsaid rules me n t e)))) (s.own n t);
}

-- THIS PEER'S OWN

-- its own vote is no other's
own_of_other : (rules : Rules) (me : ℕ) (b : Block) (before after : List (Option Outcome)) (t p : ℕ) → (p == me) ≡ false → votes_of p (own_at rules me b before after t) ≡ []
own_of_other rules me b before after t p h = one (nat_lt t (length b.txns)) (get_or after t None) (is_agent rules me (txn_at b.txns t) && not (is_some (get_or before t None)))
  where
    turned : (me == p) ≡ false
    turned = two (me == p) refl
      where
        two : (c : Bool) → (me == p) ≡ c → (me == p) ≡ false
        two false q = q
        two true q = let k : me ≡ p = eqb-true me p q in absurd (false≢true (sym h ∙ eq-eqb p me (sym k)))

    one : (c : Bool) (o : Option Outcome) (d : Bool) → votes_of p (cond {A = List (ℕ × Outcome)} c (elim o [ None ↦ [] | Some x ↦ cond {A = List (ℕ × Outcome)} d ((me, x) ∷ []) [] ]) []) ≡ []
    one false o d = refl
    one true None d = refl
    one true (Some x) false = refl
    one true (Some x) true = rw turned refl

-- own votes are put, one on a position at most
pub said_own : (rules r : Rules) (me n : ℕ) (b : Block) (before after : List (Option Outcome)) (cast cast2 : Casts) (K : Log) → VotesPut r me b n before after cast cast2 → ((t : ℕ) → length (votes_of me (cast2 n t)) ≤ 1) → VotesAreSaid rules me cast K → VotesAreSaid rules me cast2 K
said_own rules r me n b before after cast cast2 K put once s = record { others = λ j t p other. others j t p other (j == n) refl; own = λ j t. own j t (j == n) refl }
  where
    others : (j t p : ℕ) → (p == me) ≡ false → (c : Bool) → (j == n) ≡ c → votes_of p (cast2 j t) ≡ votes_of p (said rules me j t K)
    others j t p other false q = ap (votes_of p) (put.others j t q) ∙ s.others j t p other
    others j t p other true q =
        let k : j ≡ n = eqb-true j n q in
        ap (λ i. votes_of p (cast2 i t)) k ∙ (ap (votes_of p) (put.here t) ∙ (votes_append p (own_at r me b before after t) (cast n t)
        ∙ (ap (λ xs. xs ++ votes_of p (cast n t)) (own_of_other r me b before after t p other) ∙ (s.others n t p other ∙ ap (λ i. votes_of p (said rules me i t K)) (sym k)))))

    own : (j t : ℕ) (c : Bool) → (j == n) ≡ c → length (votes_of me (cast2 j t)) ≤ 1
    own j t false q = subst (λ (xs : List (ℕ × Outcome)). length (votes_of me xs) ≤ 1) (sym (put.others j t q)) (s.own j t)
    own j t true q = subst (λ i. length (votes_of me (cast2 i t)) ≤ 1) (sym (eqb-true j n q)) (once t)

-- a position that ran has run for each longer log
ran_keeps : (r : Rules) → IsLocal r → (w : Work) → StaysOpen w → (t : ℕ) (e : Letter) (L : Log) → ran r w t (standings r w t) L ≡ true → ran r w t (standings r w t) (e ∷ L) ≡ true
ran_keeps r l w op t e L h =
    let p = and_parts (is_agent r w.me (txn_at w.txns t)) (is_ready r w t (w.opens L) (standings r w t L)) h in
    and_from _ _ p.0 (ready_keeps r w t (standings r w t) op (λ f K. standings_keep r l w op t f K) e L p.1)

-- so this peer votes on it once
ballots_once : (r : Rules) → IsLocal r → (w : Work) → StaysOpen w → (t : ℕ) (L : Log) →
    (ran r w t (standings r w t) L ≡ false → votes_of w.me (ballots r w t (standings r w t) L) ≡ []) × (length (votes_of w.me (ballots r w t (standings r w t) L)) ≤ 1)
ballots_once r l w op t [] = ((λ h. refl), omega arith)
ballots_once r l w op t (e ∷ L) = one (ran r w t (standings r w t) (e ∷ L)) refl (ran r w t (standings r w t) L) refl (ballots_once r l w op t L)
  where
    me : ℕ
    me = w.me

    rest : List (ℕ × Outcome)
    rest = ballots r w t (standings r w t) L

    own : Bool → Bool → List (ℕ × Outcome)
    own now before = cond (now && not before) ((me, own_outcome r w t (standings r w t) (e ∷ L)) ∷ []) []

    all : Bool → Bool → List (ℕ × Outcome)
    all now before = own now before ++ votes_in r me w.n t e ++ rest

    are : (now before : Bool) → votes_of me (all now before) ≡ votes_of me (own now before) ++ votes_of me rest
    are now before =
        votes_append me (own now before ++ votes_in r me w.n t e) rest
        ∙ ap (λ xs. xs ++ votes_of me rest) (votes_append me (own now before) (votes_in r me w.n t e) ∙ (ap (λ xs. votes_of me (own now before) ++ xs) (own_unsaid r me w.n t e) ∙ append-nil (votes_of me (own now before))))

    single : (b : Bool) (o : Outcome) → length (cond {A = List (ℕ × Outcome)} b ((me, o) ∷ []) [] ++ []) ≤ 1
    single true o = omega arith
    single false o = omega arith

    one : (now : Bool) → ran r w t (standings r w t) (e ∷ L) ≡ now → (before : Bool) → ran r w t (standings r w t) L ≡ before
        → (ran r w t (standings r w t) L ≡ false → votes_of me rest ≡ []) × (length (votes_of me rest) ≤ 1)
        → (now ≡ false → votes_of me (all now before) ≡ []) × (length (votes_of me (all now before)) ≤ 1)
    one true p true q ih = ((λ h. absurd (false≢true (sym h))), subst (λ (xs : List (ℕ × Outcome)). length xs ≤ 1) (sym (are true true)) ih.1)
    one true p false q ih = (
      (λ h. absurd (false≢true (sym h))),
      subst (λ (xs : List (ℕ × Outcome)). length xs ≤ 1) (sym (are true false ∙ ap (λ xs. votes_of me (own true false) ++ xs) (ih.0 q))) (single (me == me) (own_outcome r w t (standings r w t) (e ∷ L))),
    )
    one false p true q ih = absurd (false≢true (sym p ∙ ran_keeps r l w op t e L q))
    one false p false q ih = ((λ h. are false false ∙ ih.0 q), subst (λ (xs : List (ℕ × Outcome)). length xs ≤ 1) (sym (are false false)) ih.1)

none_few : (xs : List (ℕ × Outcome)) → xs ≡ [] → length xs ≤ 1
none_few xs e = subst (λ (ys : List (ℕ × Outcome)). length ys ≤ 1) (sym e) (omega arith)

-- among the votes on a block that is accepted or not
pub behind_once : (rules : Rules) → IsLocal rules → (me m t : ℕ) (K : Log) → length (votes_of me (votes_behind rules me m t K)) ≤ 1
behind_once rules l me m t K = one (accepted_at rules me m K)
  where
    unsaid : length (votes_of me (said rules me (suc m) t K)) ≤ 1
    unsaid = none_few (votes_of me (said rules me (suc m) t K)) (own_in_said rules me (suc m) t K)

    one : (o : Option Block) → length (votes_of me (votes_with rules me m t K o)) ≤ 1
    one None = unsaid
    one (Some b) = two (nat_lt t (length b.txns))
      where
        two : (c : Bool) → length (votes_of me (cond c (ballots (force_at rules me m K) (work_at rules me m K b) t (standings (force_at rules me m K) (work_at rules me m K b) t) K) (said rules me (suc m) t K))) ≤ 1
        two true = (ballots_once (force_at rules me m K) l (work_at rules me m K b) (stays_open rules me m (ledger_grows rules l me m) K b) t K).1
        two false = unsaid

-- EVIDENCE

said_votes : (rules : Rules) (me n t : ℕ) (K : Log) → said rules me n t K ≡ votes_on rules me n t K
said_votes rules me n t [] = refl
said_votes rules me n t (e ∷ K) = ap (λ xs. votes_in rules me n t e ++ xs) (said_votes rules me n t K)

-- who votes two things among the votes that are put, does so in the log
pub evident : (rules : Rules) (me : ℕ) (cast : Casts) (K : Log) → VotesAreSaid rules me cast K → (m : AgentMark) → says_two same_outcome m.agent (cast m.n m.t) ≡ agent_differs rules me K m
evident rules me cast K s m = one (m.agent == me) refl
  where
    logged : List (ℕ × Outcome)
    logged = votes_on rules me m.n m.t K

    same : votes_of m.agent (said rules me m.n m.t K) ≡ votes_of m.agent logged
    same = ap (votes_of m.agent) (said_votes rules me m.n m.t K)

    one : (b : Bool) → (m.agent == me) ≡ b → says_two same_outcome m.agent (cast m.n m.t) ≡ says_two same_outcome m.agent logged
    one false h = two_filtered same_outcome m.agent (cast m.n m.t) ∙ (ap (says_two same_outcome m.agent) (s.others m.n m.t m.agent h ∙ same) ∙ sym (two_filtered same_outcome m.agent logged))
    one true h =
        let k : m.agent ≡ me = eqb-true m.agent me h in
        let few : length (votes_of m.agent (cast m.n m.t)) ≤ 1 = subst (λ p. length (votes_of p (cast m.n m.t)) ≤ 1) (sym k) (s.own m.n m.t) in
        let none : votes_of m.agent logged ≡ [] = sym same ∙ subst (λ p. votes_of p (said rules me m.n m.t K) ≡ []) (sym k) (own_in_said rules me m.n m.t K) in
        two_of_few same_outcome m.agent (cast m.n m.t) few ∙ sym (two_of_few same_outcome m.agent logged (none_few (votes_of m.agent logged) none))
