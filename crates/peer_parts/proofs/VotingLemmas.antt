-- Votes put one after another.
use Rattle.std.specs.Prelude.{ℕ, ◌==◌, ◌+◌, ◌<◌, ◌≤◌, ◌≡◌, Bool, true, false, ◌&&◌, ◌||◌, not, cond, if◌then◌else◌, List, [], ◌∷◌, ◌++◌, map, reverse, length, get_or, Option, Some, None, is_some, nat_lt, suc, zero, refl}
use Rattle.std.specs.List.{cons_option}
use Rattle.std.specs.Option.{option_map}
use Rattle.std.proofs.Common.{sym, ◌∙◌, ap, arith, append_assoc, inl, inr, ◌⊎◌}
use Rattle.std.proofs.lemmas.Bool.{false≢true, eqb-true, eq-eqb, cases_lt, lt-ltb, le-ltb}
use Rattle.std.proofs.lemmas.List.{reverse-append, map-append}
use Rattle.txn_types.specs.declared.txn.Outcome.{Outcome}
use Rattle.txn_types.specs.declared.block.Block.{Block}
use Rattle.txn_types.specs.declared.message.Node.{Node}
use Rattle.txn_types.specs.declared.message.Node.TheVariants.{Peer}
use Rattle.txn_types.specs.declared.message.Vote.{Vote}
use Rattle.known_defs.specs.Known.{txn_at}
use Rattle.oxii_defs.specs.State.{contains}
use Rattle.node_defs.specs.Rules.{Rules}
use Rattle.node_defs.specs.Log as log
use Rattle.vote_book.specs.Puts.{Cast, cast_of, answer_to_vote, voter_of, cast_on}
use Rattle.peer_laws.specs.Turns.{own_vote, own_at, VotesPut}
use Rattle.peer_parts.specs.Voting.{with_casts, any_new, is_counted, own_casts, own_upto}
use Rattle.peer_parts.specs.Owning.{IsOwn}

pub casts_push : (from : Node) (n : ℕ) (vs : List Vote) (v : Vote) (puts : List Cast) → with_casts from n (vs ++ v ∷ []) puts ≡ cast_of from n v.t v.outcome ∷ with_casts from n vs puts
casts_push from n [] v puts = refl
casts_push from n (u ∷ us) v puts = casts_push from n us v (cast_of from n u.t u.outcome ∷ puts)

pub new_push : (voters : List ℕ) (from : Node) (n : ℕ) (vs : List Vote) (v : Vote) (puts : List Cast) → any_new voters from n (vs ++ v ∷ []) puts ≡ (is_counted (answer_to_vote (voter_of voters from) (cast_on voters n v.t (with_casts from n vs puts))) || any_new voters from n vs puts)
new_push voters from n [] v puts = refl
new_push voters from n (u ∷ us) v puts = ap (λ b. x || b) (new_push voters from n us v (cast_of from n u.t u.outcome ∷ puts)) ∙ swap x y z
  where
    x : Bool
    x = is_counted (answer_to_vote (voter_of voters from) (cast_on voters n u.t puts))

    y : Bool
    y = is_counted (answer_to_vote (voter_of voters from) (cast_on voters n v.t (with_casts from n us (cast_of from n u.t u.outcome ∷ puts))))

    z : Bool
    z = any_new voters from n us (cast_of from n u.t u.outcome ∷ puts)

    swap : (a b c : Bool) → (a || (b || c)) ≡ (b || (a || c))
    swap true true c = refl
    swap true false c = refl
    swap false b c = refl

-- AGAINST THE LOG

tag : ℕ → Outcome → ℕ × Outcome
tag p o = (p, o)

-- one put is one vote on its position, and none on others
pub one_put : (voters : List ℕ) (p n t : ℕ) (o : Outcome) (k u : ℕ) (puts : List Cast) → contains voters p ≡ true → cast_on voters k u (cast_of (Peer p) n t o ∷ puts) ≡ cond ((n == k) && (t == u)) ((p, o) ∷ cast_on voters k u puts) (cast_on voters k u puts)
one_put voters p n t o k u puts h = one ((n == k) && (t == u))
  where
    one : (b : Bool) → cons_option (cond b (option_map (λ q. (q, o)) (voter_of voters (Peer p))) None) (cast_on voters k u puts) ≡ cond b ((p, o) ∷ cast_on voters k u puts) (cast_on voters k u puts)
    one false = refl
    one true = rw h refl

nil : {A : Type 0} (xs : List A) → xs ++ [] ≡ xs
nil [] = refl
nil (x ∷ xs) = ap (λ ys. x ∷ ys) (nil xs)

-- the votes of a message on a position come before what was put
pub heard_is : (voters : List ℕ) (p n : ℕ) (vs : List Vote) (k u : ℕ) (puts : List Cast) → contains voters p ≡ true → cast_on voters k u (with_casts (Peer p) n vs puts) ≡ (if n == k then map (λ o. (p, o)) (reverse (log.outcomes_on u vs)) else []) ++ cast_on voters k u puts
heard_is voters p n vs k u puts h = one (n == k) refl
  where
    other : (n == k) ≡ false → (ws : List Vote) (ps : List Cast) → cast_on voters k u (with_casts (Peer p) n ws ps) ≡ cast_on voters k u ps
    other e [] ps = refl
    other e (w ∷ ws) ps = other e ws (cast_of (Peer p) n w.t w.outcome ∷ ps) ∙ (one_put voters p n w.t w.outcome k u ps h ∙ ap (λ b. cond (b && (w.t == u)) ((p, w.outcome) ∷ cast_on voters k u ps) (cast_on voters k u ps)) e)

    same : (n == k) ≡ true → (ws : List Vote) (ps : List Cast) → cast_on voters k u (with_casts (Peer p) n ws ps) ≡ map (λ o. (p, o)) (reverse (log.outcomes_on u ws)) ++ cast_on voters k u ps
    same e [] ps = refl
    same e (w ∷ ws) ps = same e ws (cast_of (Peer p) n w.t w.outcome ∷ ps) ∙ (ap (λ (xs : List (ℕ × Outcome)). map (λ (o : Outcome). (p, o)) (reverse (log.outcomes_on u ws)) ++ xs) (one_put voters p n w.t w.outcome k u ps h ∙ ap (λ b. cond (b && (w.t == u)) ((p, w.outcome) ∷ cast_on voters k u ps) (cast_on voters k u ps)) e) ∙ two (w.t == u))
      where
        rest : List (ℕ × Outcome)
        rest = map (λ o. (p, o)) (reverse (log.outcomes_on u ws))

        two : (b : Bool) → rest ++ cond b ((p, w.outcome) ∷ cast_on voters k u ps) (cast_on voters k u ps) ≡ map (λ o. (p, o)) (reverse (cond b (w.outcome ∷ log.outcomes_on u ws) (log.outcomes_on u ws))) ++ cast_on voters k u ps
        two false = refl
        two true =
            sym (append_assoc rest ((p, w.outcome) ∷ []) (cast_on voters k u ps))
            ∙ ap (λ (xs : List (ℕ × Outcome)). xs ++ cast_on voters k u ps) (sym (map-append (λ (o : Outcome). (p, o)) (reverse (log.outcomes_on u ws)) (w.outcome ∷ [])) ∙ ap (map (λ (o : Outcome). (p, o))) (sym (reverse-append (w.outcome ∷ []) (log.outcomes_on u ws))))

    one : (b : Bool) → (n == k) ≡ b → cast_on voters k u (with_casts (Peer p) n vs puts) ≡ cond b (map (λ o. (p, o)) (reverse (log.outcomes_on u vs))) [] ++ cast_on voters k u puts
    one true e = same e vs puts
    one false e = other e vs puts

-- THIS PEER'S OWN

own_one : (voters : List ℕ) (me n t : ℕ) (own : Bool) (before after : Option Outcome) (k u : ℕ) (puts : List Cast) → contains voters me ≡ true → cast_on voters k u (own_casts me n t own before after ++ puts) ≡ cond ((n == k) && (t == u)) (elim after [ None ↦ [] | Some o ↦ cond {A = List (ℕ × Outcome)} (own && not (is_some before)) ((me, o) ∷ []) [] ]) [] ++ cast_on voters k u puts
own_one voters me n t own before None k u puts h = elim ((n == k) && (t == u)) as (λ b. cast_on voters k u puts ≡ cond {A = List (ℕ × Outcome)} b [] [] ++ cast_on voters k u puts) [ true ↦ refl | false ↦ refl ]
own_one voters me n t own before (Some o) k u puts h = one (own && not (is_some before))
  where
    one : (b : Bool) → cast_on voters k u (cond b (cast_of (Peer me) n t o ∷ []) [] ++ puts) ≡ cond ((n == k) && (t == u)) (cond {A = List (ℕ × Outcome)} b ((me, o) ∷ []) []) [] ++ cast_on voters k u puts
    one false = elim ((n == k) && (t == u)) as (λ b. cast_on voters k u puts ≡ cond {A = List (ℕ × Outcome)} b [] [] ++ cast_on voters k u puts) [ true ↦ refl | false ↦ refl ]
    one true = one_put voters me n t o k u puts h ∙ elim ((n == k) && (t == u)) as (λ b. cond b ((me, o) ∷ cast_on voters k u puts) (cast_on voters k u puts) ≡ cond {A = List (ℕ × Outcome)} b ((me, o) ∷ []) [] ++ cast_on voters k u puts) [ true ↦ refl | false ↦ refl ]

abbrev ran_votes : ℕ → Bool → Option Outcome → Option Outcome → List (ℕ × Outcome)
ran_votes me own before None = []
ran_votes me own before (Some o) = if own && not (is_some before) then (me, o) ∷ [] else []

own_all : (voters : List ℕ) (me n : ℕ) (own : List Bool) (before after : List (Option Outcome)) (m k u : ℕ) (puts : List Cast) → contains voters me ≡ true
    → cast_on voters k u (own_upto me n own before after m puts) ≡ cond ((n == k) && nat_lt u m) (ran_votes me (get_or own u false) (get_or before u None) (get_or after u None)) [] ++ cast_on voters k u puts
own_all voters me n own before after zero k u puts h = rw (le-ltb u 0 (omega arith)) (elim (n == k) as (λ b. cast_on voters k u puts ≡ cond {A = List (ℕ × Outcome)} (b && false) (ran_votes me (get_or own u false) (get_or before u None) (get_or after u None)) [] ++ cast_on voters k u puts) [ true ↦ refl | false ↦ refl ])
own_all voters me n own before after (suc m) k u puts h =
    own_one voters me n m (get_or own m false) (get_or before m None) (get_or after m None) k u (own_upto me n own before after m puts) h
    ∙ (ap (λ (xs : List (ℕ × Outcome)). cond ((n == k) && (m == u)) (ran_votes me (get_or own m false) (get_or before m None) (get_or after m None)) [] ++ xs) (own_all voters me n own before after m k u puts h)
    ∙ one (m == u) refl (cases_lt u m))
  where
    R : ℕ → List (ℕ × Outcome)
    R i = ran_votes me (get_or own i false) (get_or before i None) (get_or after i None)

    join : (a b c d : List (ℕ × Outcome)) → a ++ b ≡ c → a ++ (b ++ d) ≡ c ++ d
    join a b c d e = sym (append_assoc a b d) ∙ ap (λ (xs : List (ℕ × Outcome)). xs ++ d) e

    one : (b : Bool) → (m == u) ≡ b → (u < m) ⊎ (m ≤ u) → cond ((n == k) && (m == u)) (R m) [] ++ (cond ((n == k) && nat_lt u m) (R u) [] ++ cast_on voters k u puts) ≡ cond ((n == k) && nat_lt u (suc m)) (R u) [] ++ cast_on voters k u puts
    one true e c =
        let q : m ≡ u = eqb-true m u e in
        rw e (rw (le-ltb u m (omega (arith, q))) (rw (lt-ltb u (suc m) (omega (arith, q))) (two (n == k) (ap R q))))
      where
        two : (b : Bool) → R m ≡ R u → cond (b && true) (R m) [] ++ (cond {A = List (ℕ × Outcome)} (b && false) (R u) [] ++ cast_on voters k u puts) ≡ cond (b && true) (R u) [] ++ cast_on voters k u puts
        two true s = ap (λ (xs : List (ℕ × Outcome)). xs ++ cast_on voters k u puts) s
        two false s = refl
    one false e (inl l) = rw e (rw (lt-ltb u m l) (rw (lt-ltb u (suc m) (omega arith)) (elim (n == k) as (λ b. cond {A = List (ℕ × Outcome)} (b && false) (R m) [] ++ (cond (b && true) (R u) [] ++ cast_on voters k u puts) ≡ cond (b && true) (R u) [] ++ cast_on voters k u puts) [ true ↦ refl | false ↦ refl ])))
    one false e (inr l) =
        let past : suc m ≤ u = further (cases_lt m u) in
        rw e (rw (le-ltb u m l) (rw (le-ltb u (suc m) past) (elim (n == k) as (λ b. cond {A = List (ℕ × Outcome)} (b && false) (R m) [] ++ (cond {A = List (ℕ × Outcome)} (b && false) (R u) [] ++ cast_on voters k u puts) ≡ cond {A = List (ℕ × Outcome)} (b && false) (R u) [] ++ cast_on voters k u puts) [ true ↦ refl | false ↦ refl ])))
      where
        further : (m < u) ⊎ (u ≤ m) → suc m ≤ u
        further (inl g) = omega arith
        further (inr g) = absurd (false≢true (sym e ∙ eq-eqb m u (let q : m ≡ u = omega arith in q)))

-- own votes are put on block n, and nothing else
pub votes_put : (r : Rules) (voters : List ℕ) (me n : ℕ) (b : Block) (own : List Bool) (before after : List (Option Outcome)) (puts : List Cast) → contains voters me ≡ true → IsOwn r me b.txns own
    → VotesPut r me b n before after (λ k u. cast_on voters k u puts) (λ k u. cast_on voters k u (own_upto me n own before after (length b.txns) puts))
votes_put r voters me n b own before after puts h o = record {
  here = λ t. own_all voters me n own before after (length b.txns) n t puts h ∙ ap (λ (xs : List (ℕ × Outcome)). xs ++ cast_on voters n t puts) (ap (λ c. cond (c && nat_lt t (length b.txns)) (ran_votes me (get_or own t false) (get_or before t None) (get_or after t None)) []) (eq-eqb n n refl) ∙ one t (cases_lt t (length b.txns)));
  others = λ k t e. own_all voters me n own before after (length b.txns) k t puts h ∙ ap (λ c. cond (c && nat_lt t (length b.txns)) (ran_votes me (get_or own t false) (get_or before t None) (get_or after t None)) [] ++ cast_on voters k t puts) (turned k e);
}
  where
    turned : (k : ℕ) → (k == n) ≡ false → (n == k) ≡ false
    turned k e = two (n == k) refl
      where
        two : (c : Bool) → (n == k) ≡ c → (n == k) ≡ false
        two false q = q
        two true q = let s : n ≡ k = eqb-true n k q in absurd (false≢true (sym e ∙ eq-eqb k n (sym s)))

    one : (t : ℕ) → (t < length b.txns) ⊎ (length b.txns ≤ t) → cond (nat_lt t (length b.txns)) (ran_votes me (get_or own t false) (get_or before t None) (get_or after t None)) [] ≡ own_at r me b before after t
    one t (inl l) = ap (λ c. cond c (ran_votes me (get_or own t false) (get_or before t None) (get_or after t None)) []) (lt-ltb t (length b.txns) l) ∙ (three (get_or after t None) ∙ sym (ap (λ c. cond c (own_vote r me (txn_at b.txns t) (get_or before t None) (get_or after t None)) []) (lt-ltb t (length b.txns) l)))
      where
        three : (x : Option Outcome) → ran_votes me (get_or own t false) (get_or before t None) x ≡ own_vote r me (txn_at b.txns t) (get_or before t None) x
        three None = refl
        three (Some p) = ap (λ c. cond {A = List (ℕ × Outcome)} (c && not (is_some (get_or before t None))) ((me, p) ∷ []) []) (o t l)
    one t (inr l) = ap (λ c. cond c (ran_votes me (get_or own t false) (get_or before t None) (get_or after t None)) []) (le-ltb t (length b.txns) l) ∙ sym (ap (λ c. cond c (own_vote r me (txn_at b.txns t) (get_or before t None) (get_or after t None)) []) (le-ltb t (length b.txns) l))

pub ran_cast : (me n t : ℕ) (own : Bool) (before after : Option Outcome) (o : Outcome) → own ≡ true → is_some before ≡ false → after ≡ Some o → cast_of (Peer me) n t o ∷ [] ≡ own_casts me n t own before after
ran_cast me n t own before after o p q s = rw s (rw p (rw q refl))

-- one position more
pub own_more : (me n : ℕ) (own : List Bool) (before after : List (Option Outcome)) (t : ℕ) (puts : List Cast) (x : Bool) (y z : Option Outcome) → x ≡ get_or own t false → y ≡ get_or before t None → z ≡ get_or after t None
    → own_casts me n t x y z ++ own_upto me n own before after t puts ≡ own_upto me n own before after (t + 1) puts
own_more me n own before after t puts x y z p q r =
    ap (λ a. own_casts me n t a y z ++ own_upto me n own before after t puts) p ∙ (ap (λ a. own_casts me n t (get_or own t false) a z ++ own_upto me n own before after t puts) q ∙ (ap (λ a. own_casts me n t (get_or own t false) (get_or before t None) a ++ own_upto me n own before after t puts) r
    ∙ (let e : suc t ≡ t + 1 = omega arith in ap (λ k. own_upto me n own before after k puts) e)))
