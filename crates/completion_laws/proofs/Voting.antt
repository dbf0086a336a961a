-- A position is agreed, where enough agents that aren't faulty voted on it.
use Rattle.std.proofs.lemmas.Bool.Decides.{nat_tests}
use Rattle.std.specs.Prelude.{nat_lt, ℕ, ◌==◌, ◌<◌, ◌≤◌, Bool, true, false, ◌&&◌, not, cond, List, [], ◌∷◌, ◌++◌, map, reverse, length, filter, is_some, ◌≡◌, refl, ◌≢◌}
use Rattle.std.specs.List.{IsDistinct}
use Rattle.std.specs.Set.{is_member}
use Rattle.std.proofs.Common.{sym, ◌∙◌, ap, subst, arith, inl, inr, eqb, ne_eqb, ⊎_elim}
use Rattle.std.proofs.lemmas.Bool.{and_from, cases_Bool, eq-eqb, false≢true, true≢false}
use Rattle.std.proofs.lemmas.List.{reverse-append}
use Rattle.known_defs.specs.Known.{txn_at}
use Rattle.node_defs.specs.Blocks.{block_at}
use Rattle.node_defs.specs.Counting.{first_of_each}
use Rattle.node_defs.specs.Log.{Letter, Log, is_other, outcomes_on, votes_in}
use Rattle.node_defs.specs.Position.{Standing, Work, agreed, ballots, is_agent, own_outcome, ran, standings}
use Rattle.node_defs.specs.Rules.{IsLocal, Rules}
use Rattle.node_defs.specs.Same.{same_outcome}
use Rattle.node_defs.specs.Sent.{commit_of, vote_on}
use Rattle.node_defs.specs.World.{said_by}
use Rattle.node_defs.proofs.SameLemmas.{same_outcome_decides}
use Rattle.node_laws.proofs.Agree.{Sound, beliefs_right, chain_work, right_at}
use Rattle.node_laws.specs.Fed.{Has}
use Rattle.node_laws.proofs.Few.{IsTameAt}
use Rattle.txn_types.specs.Fitting.{is_fit}
use Rattle.txn_types.specs.declared.block.Block.{Block}
use Rattle.txn_types.specs.declared.message.Node.{Node}
use Rattle.txn_types.specs.declared.message.Node.TheVariants.{Peer}
use Rattle.txn_types.specs.declared.message.Vote.{Vote}
use Rattle.txn_types.specs.declared.txn.Outcome.{Outcome}
use Rattle.completion_laws.proofs.Delivered.{has_left, has_map, has_right}
use Rattle.completion_laws.proofs.Enough.{enough, first_has, has_filter}
use Rattle.completion_laws.proofs.Places.{closed_ran}
use Rattle.node_laws.proofs.Agree.{ballots_right, for_first, for_has}

-- BALLOTS

pub has_reverse : {A : Type 0} (xs : List A) (x : A) → Has x xs → Has x (reverse xs)
has_reverse [] x h = h
has_reverse (y ∷ xs) x (inl e) = subst (Has x) (sym (reverse-append (y ∷ []) xs)) (has_right (reverse xs) (y ∷ []) x (inl e))
has_reverse (y ∷ xs) x (inr h) = subst (Has x) (sym (reverse-append (y ∷ []) xs)) (has_left (reverse xs) (y ∷ []) x (has_reverse xs x h))

-- what an entry of the log votes is a ballot
pub heard_vote : (r : Rules) (w : Work) (t : ℕ) (earlier : Log → List Standing) (L : Log) (e : Letter) (v : ℕ × Outcome) → Has e L → Has v (votes_in r w.me w.n t e) → Has v (ballots r w t earlier L)
heard_vote r w t earlier [] e v h k = absurd h
heard_vote r w t earlier (x ∷ L) e v (inl q) k =
    let own : List (ℕ × Outcome) = cond (ran r w t earlier (x ∷ L) && not (ran r w t earlier L)) ((w.me, own_outcome r w t earlier (x ∷ L)) ∷ []) [] in
    has_left (own ++ votes_in r w.me w.n t x) (ballots r w t earlier L) v (has_right own (votes_in r w.me w.n t x) v (subst (λ (y : Letter). Has v (votes_in r w.me w.n t y)) q k))
heard_vote r w t earlier (x ∷ L) e v (inr q) k =
    let own : List (ℕ × Outcome) = cond (ran r w t earlier (x ∷ L) && not (ran r w t earlier L)) ((w.me, own_outcome r w t earlier (x ∷ L)) ∷ []) [] in
    has_right (own ++ votes_in r w.me w.n t x) (ballots r w t earlier L) v (heard_vote r w t earlier L e v q k)

-- where a position ran, the peer's own vote is a ballot
pub own_vote : (r : Rules) (w : Work) (t : ℕ) → w.opens [] ≡ false → (L : Log) → ran r w t (standings r w t) L ≡ true → (o : Outcome) × Has (w.me, o) (ballots r w t (standings r w t) L)
own_vote r w t op [] h = absurd (false≢true (sym (closed_ran r w [] t op) ∙ h))
own_vote r w t op (x ∷ L) h = ⊎_elim (λ k. earlier (own_vote r w t op L k)) (λ k. now (ran r w t (standings r w t) (x ∷ L)) (ran r w t (standings r w t) L) h k) (cases_Bool (ran r w t (standings r w t) L))
  where
    own : Bool → Bool → List (ℕ × Outcome)
    own a b = cond (a && not b) ((w.me, own_outcome r w t (standings r w t) (x ∷ L)) ∷ []) []

    earlier : (o : Outcome) × Has (w.me, o) (ballots r w t (standings r w t) L) → (o : Outcome) × Has (w.me, o) (ballots r w t (standings r w t) (x ∷ L))
    earlier (o, k) = (o, has_right (cond (ran r w t (standings r w t) (x ∷ L) && not (ran r w t (standings r w t) L)) ((w.me, own_outcome r w t (standings r w t) (x ∷ L)) ∷ []) [] ++ votes_in r w.me w.n t x) (ballots r w t (standings r w t) L) (w.me, o) k)

    now : (a b : Bool) → a ≡ true → b ≡ false → (o : Outcome) × Has (w.me, o) ((cond (a && not b) ((w.me, own_outcome r w t (standings r w t) (x ∷ L)) ∷ []) [] ++ votes_in r w.me w.n t x) ++ ballots r w t (standings r w t) L)
    now true false p q = (own_outcome r w t (standings r w t) (x ∷ L), inl refl)
    now true true p q = absurd (true≢false q)
    now false b p q = absurd (false≢true p)

-- a COMMIT of another peer with a batch votes on each position of the batch
pub batch_votes : (r : Rules) (w : Work) (all : List Standing) (b : List ℕ) (t g h : ℕ) → h < length r.table.peers → h ≢ g → Has t b → (o : Outcome) × Has (h, o) (votes_in r g w.n t (said_by h (commit_of w all b)))
batch_votes r w all b t g h few other k = made (is_other r g h && (w.n == w.n)) good
  where
    votes : List Vote
    votes = map (vote_on all) (reverse b)

    on_it : (vs : List Vote) (v : Vote) → Has v vs → v.t ≡ t → (o : Outcome) × Has o (outcomes_on t vs)
    on_it [] v h q = absurd h
    on_it (u ∷ vs) v (inl e) q = here (u.t == t) (eq-eqb u.t t (ap (λ (x : Vote). x.t) (sym e) ∙ q))
      where
        here : (c : Bool) → c ≡ true → (o : Outcome) × Has o (cond c (u.outcome ∷ outcomes_on t vs) (outcomes_on t vs))
        here true p = (u.outcome, inl refl)
        here false p = absurd (false≢true p)
    on_it (u ∷ vs) v (inr e) q = let z = on_it vs v e q in (z.0, there (u.t == t) z.0 z.1)
      where
        there : (c : Bool) (o : Outcome) → Has o (outcomes_on t vs) → Has o (cond c (u.outcome ∷ outcomes_on t vs) (outcomes_on t vs))
        there true o i = inr i
        there false o i = i

    good : (is_other r g h && (w.n == w.n)) ≡ true
    good = and_from (is_other r g h) (w.n == w.n) (and_from (nat_lt h (length r.table.peers)) (not (h == g)) (grind (arith, nat_tests, few)) (ap not (ne_eqb h g other))) (eq-eqb w.n w.n refl)

    made : (c : Bool) → c ≡ true → (o : Outcome) × Has {A = ℕ × Outcome} (h, o) (cond c (map (λ o. (h, o)) (reverse (outcomes_on t (map (vote_on all) (reverse b))))) [])
    made false q = absurd (false≢true q)
    made true q =
        let z = on_it (map (vote_on all) (reverse b)) (vote_on all t) (has_map (vote_on all) (reverse b) t (has_reverse b t k)) refl in
        (z.0, has_map (λ (o : Outcome). (h, o)) (reverse (outcomes_on t (map (vote_on all) (reverse b)))) z.0 (has_reverse (outcomes_on t (map (vote_on all) (reverse b))) z.0 z.1))

-- AGREED

-- these agents aren't faulty, and each of them has a ballot
abbrev pub AllVoted : Rules → Work → (Node → Bool) → ℕ → Log → List ℕ → Type 0
AllVoted r w faulty t L N = (p : ℕ) → is_member eqb N p ≡ true → (faulty (Peer p) ≡ false) × (is_agent r p (txn_at w.txns t) ≡ true) × ((o : Outcome) × Has (p, o) (ballots r w t (standings r w t) L))

pub agrees : (r : Rules) → IsLocal r → (chain : List Block) (faulty : Node → Bool) (me m t : ℕ) → IsTameAt r chain faulty m → (opens : Log → Bool) → m < length chain → t < length (block_at chain m).txns → (L : Log) → Sound r chain faulty L →
    is_fit (txn_at (block_at chain m).txns t) (right_at r chain m t) ≡ true → (N : List ℕ) → r.tau (txn_at (block_at chain m).txns t).app ≤ length N → IsDistinct eqb N → AllVoted r (chain_work r chain me m opens) faulty t L N →
    is_some (agreed r (chain_work r chain me m opens) t (standings r (chain_work r chain me m opens) t) L) ≡ true
agrees r l chain faulty me m t tame opens j k L s fits N many distinct voted =
    let w = chain_work r chain me m opens in
    let T = txn_at w.txns t in
    let all = ballots r w t (standings r w t) L in
    let right = for_first faulty (right_at r chain m t) all (ballots_right r l chain faulty me m t opens (standings r w t) j k (beliefs_right r l chain faulty me m tame opens j t (omega (arith, k))) L s) in
    let each : (p : ℕ) → is_member eqb N p ≡ true → Has (p, right_at r chain m t) (filter (λ (v : ℕ × Outcome). is_agent r v.0 T) (first_of_each all)) = λ p i.
    let v = voted p i in
    let f = first_has all p v.2.0 v.2.1 in
    let e : f.0 ≡ right_at r chain m t = for_has faulty (right_at r chain m t) (first_of_each all) (p, f.0) right f.1 v.0 in
    has_filter (λ (v : ℕ × Outcome). is_agent r v.0 T) (first_of_each all) (p, right_at r chain m t) (subst (λ (o : Outcome). Has (p, o) (first_of_each all)) e f.1) v.1 in
    enough same_outcome same_outcome_decides (is_fit T) (r.tau T.app) (filter (λ (v : ℕ × Outcome). is_agent r v.0 T) (first_of_each all)) (right_at r chain m t) N (omega (arith, (tame.agents t j k).few)) many distinct fits each
