-- A node that isn't faulty says no two different things, whatever the events.
use Rattle.std.specs.Prelude.{ℕ, ◌==◌, ◌-◌, ◌<◌, ◌≡◌, Bool, true, false, ◌&&◌, cond, List, [], ◌∷◌, ◌++◌, map, reverse, length, get_or, set, nat_lt, Option, Some, None, zero, suc, refl}
use Rattle.std.specs.List.{AllByRecursion, cons_option}
use Rattle.std.proofs.Common.{sym, ◌∙◌, ap, subst, arith, replicate}
use Rattle.std.proofs.lemmas.Bool.{true≢false, false≢true, and_parts, eqb-true, eq-eqb}
use Rattle.std.proofs.lemmas.Bool.Decides.{nat_tests}
use Rattle.std.proofs.lemmas.Option.{none-some, same_Some, cond_some}
use Rattle.std.proofs.lemmas.List.{length-set, get_or-set_same, get_or-set_other, length-replicate}
use Rattle.std.proofs.lemmas.List.Elements.{recursion_from_All}
use Rattle.txn_types.specs.declared.txn.Outcome.{Outcome}
use Rattle.txn_types.specs.declared.block.Block.{Block}
use Rattle.txn_types.specs.declared.event.Event.{Event}
use Rattle.txn_types.specs.declared.event.Event.TheVariants as event
use Rattle.txn_types.specs.declared.message.Node.{Node}
use Rattle.txn_types.specs.declared.message.Node.TheVariants.{Orderer, Peer}
use Rattle.txn_types.specs.declared.message.Vote.{Vote}
use Rattle.txn_types.specs.declared.message.Commit.{Commit}
use Rattle.txn_types.specs.declared.message.NewBlock.{NewBlock}
use Rattle.txn_types.specs.declared.message.Message.{Message}
use Rattle.txn_types.specs.declared.message.Message.TheVariants as message
use Rattle.oxii_defs.specs.Chain.{no_hash}
use Rattle.node_defs.specs.Same.{same_block, same_outcome}
use Rattle.node_defs.specs.Rules.{IsLocal, Rules}
use Rattle.node_defs.specs.Log.{Letter, Log, is_good, is_other, newblock_from, newblock_in, outcomes_on, votes_from, votes_in}
use Rattle.node_defs.specs.Ledger.{heard, is_split}
use Rattle.node_defs.specs.Sent.{sent}
use Rattle.node_defs.specs.Serial.{IsNumbered}
use Rattle.node_defs.specs.Blocks.{block_at}
use Rattle.node_defs.specs.World.{IsWorld, LeadTo, Setting, World, all_from, count_from, delivered, given_to, given_all, given_each, happens, idled, is_faulty, log_of, message_at, newblock_of, newblocks_of, first_pool, orderers_of, peers_of, said_by, says, start}
use Rattle.node_defs.specs.LawfulEvents.{IsSaidByFaulty}
use Rattle.node_defs.proofs.SameLemmas.{same_block_decides, same_outcome_decides}
use Rattle.node_defs.proofs.Settings.{agreed_setting_is}
use Rattle.node_laws.proofs.AgreeSent.{all_append, all_at, all_map, all_more, all_reverse}
use Rattle.node_laws.proofs.AgreeWorld.{numbered_from}
use Rattle.node_laws.proofs.Letters.{IsOf, all_get, all_of, all_replicate, all_set}
use Rattle.node_laws.proofs.Same.{rules_local}
use Rattle.evidence_marks.specs.Evidence.{newblocks_on, votes_on}
use Rattle.evidence_laws.specs.Innocence.{Innocence}
use Rattle.evidence_laws.proofs.Beliefs.{AreBelieved, IsBelieved, belief, belief_is, believed_heard, sent_believed}
use Rattle.evidence_laws.proofs.Saying.{SaysOnly, no_two}

-- WHAT AN INNOCENT NODE SAYS

-- an orderer blocks of the chain, a peer of the table what it believes by what it heard
abbrev Says : Setting → List Log → Node → Message → Type 0
Says s logs (Orderer o) (message.NewBlock m) = IsOf s.chain m.block
Says s logs (Peer p) (message.Commit c) = p < length logs → AreBelieved s.rules p (heard s.rules p (get_or logs p [])) c
Says s logs _ _ = Unit {0}

abbrev IsInnocent : Setting → List Log → Letter → Type 0
IsInnocent s logs x = is_faulty s x.from ≡ false → Says s logs x.from x.message

-- all messages of the pool and of the logs
record WorldInnocent (s : Setting) (w : World) : Type 0 where
  pool : AllByRecursion (IsInnocent s w.logs) w.pool
  logs : AllByRecursion (AllByRecursion (IsInnocent s w.logs)) w.logs
  many : length w.logs ≡ peers_of s

-- what is said stays so when a log grows
innocent_more : (s : Setting) → IsLocal s.rules → (logs : List Log) (p : ℕ) (x : Letter) (y : Letter) → IsInnocent s logs y → IsInnocent s (set logs p (x ∷ get_or logs p [])) y
innocent_more s l logs p x y h honest = from y.from y.message (h honest)
  where
    L : Log
    L = x ∷ get_or logs p []

    new : List Log
    new = set logs p L

    commit : (q : ℕ) (c : Commit) → (q < length logs → AreBelieved s.rules q (heard s.rules q (get_or logs q [])) c) → q < length new → AreBelieved s.rules q (heard s.rules q (get_or new q [])) c
    commit q c a k = one (q == p) refl
      where
        here : q < length logs
        here = omega (arith, k, length-set logs p L)

        one : (b : Bool) → (q == p) ≡ b → AreBelieved s.rules q (heard s.rules q (get_or new q [])) c
        one true e =
            let i : q ≡ p = eqb-true q p e in
            let grown = all_more (IsBelieved s.rules q (heard s.rules q (get_or logs q [])) c.n) (IsBelieved s.rules q (heard s.rules q (x ∷ get_or logs q [])) c.n) (λ v g. believed_heard s.rules l q x (get_or logs q []) c.n v g) c.votes (a here) in
            let there : get_or new q [] ≡ x ∷ get_or logs q [] = ap (λ j. get_or new j []) i ∙ (get_or-set_same logs p L [] (omega (arith, here, i)) ∙ ap (λ j. x ∷ get_or logs j []) (sym i)) in
            subst (λ K. AreBelieved s.rules q (heard s.rules q K) c) (sym there) grown
        one false e = subst (λ K. AreBelieved s.rules q (heard s.rules q K) c) (sym (get_or-set_other logs p q L [] (λ i. false≢true (sym e ∙ eq-eqb q p i)))) (a here)

    from : (n : Node) (m : Message) → Says s logs n m → Says s new n m
    from (Orderer o) (message.NewBlock m) a = a
    from (Orderer o) (message.Commit c) a = tt
    from (Peer q) (message.NewBlock m) a = tt
    from (Peer q) (message.Commit c) a = commit q c a

given_innocent : (s : Setting) → IsLocal s.rules → (w : World) (p : ℕ) (x : Letter) → IsInnocent s w.logs x → WorldInnocent s w → WorldInnocent s (given_to s w p x)
given_innocent s l w p x good a = record {
  pool = all_append (IsInnocent s new) w.pool (map (said_by p) (sent s.rules p L)) (all_more (IsInnocent s w.logs) (IsInnocent s new) more w.pool a.pool)
      (all_map (IsInnocent s new) (said_by p) (sent s.rules p L) (all_more (AreBelieved s.rules p (heard s.rules p L)) (λ c. IsInnocent s new (said_by p c)) (λ c h _ k. said c h k) (sent s.rules p L) (sent_believed s.rules l p L)));
  logs = all_set (AllByRecursion (IsInnocent s new)) w.logs p L
      (all_more (AllByRecursion (IsInnocent s w.logs)) (AllByRecursion (IsInnocent s new)) (λ K h. all_more (IsInnocent s w.logs) (IsInnocent s new) more K h) w.logs a.logs)
      (more x good, all_more (IsInnocent s w.logs) (IsInnocent s new) more (get_or w.logs p []) (all_at (AllByRecursion (IsInnocent s w.logs)) w.logs p [] tt a.logs));
  many = length-set w.logs p L ∙ a.many;
}
  where
    L : Log
    L = x ∷ get_or w.logs p []

    new : List Log
    new = set w.logs p L

    more : (y : Letter) → IsInnocent s w.logs y → IsInnocent s new y
    more = innocent_more s l w.logs p x

    said : (c : Commit) → AreBelieved s.rules p (heard s.rules p L) c → p < length new → AreBelieved s.rules p (heard s.rules p (get_or new p [])) c
    said c h k = subst (λ K. AreBelieved s.rules p (heard s.rules p K) c) (sym (get_or-set_same w.logs p L [] (omega (arith, k, length-set w.logs p L)))) h

-- A MESSAGE THAT IS THERE

at_innocent : (s : Setting) (w : World) (m : ℕ) (x : Letter) → message_at w m ≡ Some x → WorldInnocent s w → IsInnocent s w.logs x
at_innocent s w zero x e a = absurd (none-some x e)
at_innocent s w (suc m) x e a = all_get (IsInnocent s w.logs) w.pool m x e a.pool

-- what holds of an innocent world with its message x holds of the next one
record WithLetter (s : Setting) (x : Letter) (w : World) : Type 0 where
  world : WorldInnocent s w
  letter : IsInnocent s w.logs x

each_innocent : (s : Setting) → IsLocal s.rules → (x : Letter) (ps : List ℕ) (w : World) → WithLetter s x w → WithLetter s x (given_each s x ps w)
each_innocent s l x [] w a = a
each_innocent s l x (p ∷ ps) w a = each_innocent s l x ps _ (one (is_faulty s (Peer p)))
  where
    one : (b : Bool) → WithLetter s x (cond b w (given_to s w p x))
    one true = a
    one false = record { world = given_innocent s l w p x a.letter a.world; letter = innocent_more s l w.logs p x x a.letter }

all_innocent : (s : Setting) → IsLocal s.rules → (turns m : ℕ) (w u : World) → all_from s turns m w ≡ Some u → WorldInnocent s w → WorldInnocent s u
all_innocent s l zero m w u e a = go (message_at w m) e
  where
    go : (o : Option Letter) → elim o [ None ↦ Some w | Some x ↦ None ] ≡ Some u → WorldInnocent s u
    go None k = subst (WorldInnocent s) (same_Some w u k) a
    go (Some x) k = absurd (none-some u k)
all_innocent s l (suc turns) m w u e a = go (message_at w m) refl e (λ v k. all_innocent s l turns (suc m) v u k)
  where
    go : (o : Option Letter) → message_at w m ≡ o → elim o [ None ↦ Some w | Some x ↦ all_from s turns (suc m) (given_all s x w) ] ≡ Some u → ((v : World) → all_from s turns (suc m) v ≡ Some u → WorldInnocent s v → WorldInnocent s u) → WorldInnocent s u
    go None q k r = subst (WorldInnocent s) (same_Some w u k) a
    go (Some x) q k r = r (given_all s x w) k (each_innocent s l x (count_from 0 (peers_of s)) w (record { world = a; letter = at_innocent s w m x q a })).world

says_innocent : (s : Setting) (w : World) (from : Node) (m : Message) → is_faulty s from ≡ true → WorldInnocent s w → WorldInnocent s (says w from m)
says_innocent s w from m f a = record { pool = all_append (IsInnocent s w.logs) w.pool (record { from = from; message = m } ∷ []) a.pool ((λ g. absurd (true≢false (sym f ∙ g))), tt); logs = a.logs; many = a.many }

happens_innocent : (s : Setting) → IsLocal s.rules → (turns : ℕ) (w u : World) (e : Event) → IsSaidByFaulty s e → happens s turns w e ≡ Some u → WorldInnocent s w → WorldInnocent s u
happens_innocent s l turns w u event.All f q a = all_innocent s l turns 1 w u q a
happens_innocent s l turns w u (event.SayBlock from number prev items preds) f q a = subst (WorldInnocent s) (same_Some _ u q) (says_innocent s w from _ f a)
happens_innocent s l turns w u (event.SayCommit from commit) f q a = subst (WorldInnocent s) (same_Some _ u q) (says_innocent s w from _ f a)
happens_innocent s l turns w u (event.Deliver m p) f q a = subst (WorldInnocent s) (same_Some _ u q) (one (message_at w m) refl)
  where
    idle : WorldInnocent s (idled w)
    idle = record { pool = a.pool; logs = a.logs; many = a.many }

    one : (o : Option Letter) → message_at w m ≡ o → WorldInnocent s (delivered s w p o)
    one None k = idle
    one (Some x) k = elim (is_faulty s (Peer p)) as (λ b. WorldInnocent s (cond b (idled w) (given_to s w p x))) [ true ↦ idle | false ↦ given_innocent s l w p x (at_innocent s w m x k a) a ]

world_innocent : (s : Setting) → IsLocal s.rules → (es : List Event) (w u : World) → AllByRecursion (IsSaidByFaulty s) es → LeadTo s w es u → WorldInnocent s w → WorldInnocent s u
world_innocent s l [] w u f q a = subst (WorldInnocent s) (sym q) a
world_innocent s l (e ∷ es) w u f q a = world_innocent s l es q.0 u f.1 q.2 (happens_innocent s l q.1.0 w q.0 e f.0 q.1.1 a)

-- THE START

newblocks_innocent : (s : Setting) (logs : List Log) (b : Block) (os : List ℕ) → IsOf s.chain b → AllByRecursion (IsInnocent s logs) (newblocks_of s b os)
newblocks_innocent s logs b [] k = tt
newblocks_innocent s logs b (o ∷ os) k = elim (is_faulty s (Orderer o)) as (λ c. AllByRecursion (IsInnocent s logs) (cond c (newblocks_of s b os) (newblock_of s b o ∷ newblocks_of s b os))) [ true ↦ newblocks_innocent s logs b os k | false ↦ ((λ _. k), newblocks_innocent s logs b os k) ]

pool_innocent : (s : Setting) (logs : List Log) (bs : List Block) → AllByRecursion (IsOf s.chain) bs → AllByRecursion (IsInnocent s logs) (first_pool s bs)
pool_innocent s logs [] a = tt
pool_innocent s logs (b ∷ bs) a = all_append (IsInnocent s logs) (newblocks_of s b (count_from 0 (orderers_of s))) (first_pool s bs) (newblocks_innocent s logs b (count_from 0 (orderers_of s)) a.0) (pool_innocent s logs bs a.1)

start_innocent : (s : Setting) → WorldInnocent s (start s)
start_innocent s = record {
  pool = pool_innocent s (replicate (peers_of s) []) s.chain (all_of s.chain);
  logs = all_replicate (AllByRecursion (IsInnocent s (replicate (peers_of s) []))) (peers_of s) [] tt;
  many = length-replicate (peers_of s) [];
}

-- what is heard is of the log
heard_all : (P : Letter → Type 0) (rules : Rules) (me : ℕ) (L : Log) → AllByRecursion P L → AllByRecursion P (heard rules me L)
heard_all P rules me [] a = tt
heard_all P rules me (e ∷ L) a = elim (is_split rules me (heard rules me L)) as (λ b. AllByRecursion P (cond b (heard rules me L) (e ∷ heard rules me L))) [ true ↦ heard_all P rules me L a.1 | false ↦ (a.0, heard_all P rules me L a.1) ]

-- ONE THING

only_append : {A : Type 0} (who : ℕ) (c : A) (xs ys : List (ℕ × A)) → SaysOnly who c xs → SaysOnly who c ys → SaysOnly who c (xs ++ ys)
only_append who c xs ys a b = all_append (λ y. (y.0 == who) ≡ true → y.1 ≡ c) xs ys a b

-- an orderer's blocks with one number are one block of the chain
blocks_only : (s : Setting) (logs : List Log) → IsNumbered s.chain → (o n : ℕ) → is_faulty s (Orderer o) ≡ false → (L : Log) → AllByRecursion (IsInnocent s logs) L → SaysOnly o (block_at s.chain (n - 1)) (newblocks_on s.rules n L)
blocks_only s logs numbered o n honest [] a = tt
blocks_only s logs numbered o n honest (e ∷ L) a = one (newblock_in s.rules n e) refl (blocks_only s logs numbered o n honest L a.1)
  where
    good : (q : ℕ) (m : NewBlock) → (is_faulty s (Orderer q) ≡ false → IsOf s.chain m.block) → is_good s.rules n q m ≡ true → (q == o) ≡ true → m.block ≡ block_at s.chain (n - 1)
    good q m i g same =
        let p = and_parts (nat_lt q (length s.rules.table.orderers) && (m.block.number == n)) _ g in
        let number : m.block.number ≡ n = eqb-true m.block.number n (and_parts (nat_lt q (length s.rules.table.orderers)) (m.block.number == n) p.0).1 in
        let k = i (ap (λ z. is_faulty s (Orderer z)) (eqb-true q o same) ∙ honest) in
        let at : k.0 ≡ n - 1 = let c : suc k.0 ≡ n = sym (numbered k.0 k.1) ∙ (ap (λ (b : Block). b.number) (sym k.2) ∙ number) in omega (arith, c) in
        k.2 ∙ ap (block_at s.chain) at

    from : (x : Node) (m : Message) → (is_faulty s x ≡ false → Says s logs x m) → (y : ℕ × Block) → newblock_from s.rules n x m ≡ Some y → (y.0 == o) ≡ true → y.1 ≡ block_at s.chain (n - 1)
    from (Peer q) (message.NewBlock m) i y k same = absurd (none-some y k)
    from (Peer q) (message.Commit c) i y k same = absurd (none-some y k)
    from (Orderer q) (message.Commit c) i y k same = absurd (none-some y k)
    from (Orderer q) (message.NewBlock m) i y k same =
        let g = cond_some (is_good s.rules n q m) (q, m.block) y k in
        sym (ap (λ (z : ℕ × Block). z.1) g.1) ∙ good q m i g.0 (ap (λ (z : ℕ × Block). z.0 == o) g.1 ∙ same)

    one : (r : Option (ℕ × Block)) → newblock_in s.rules n e ≡ r → SaysOnly o (block_at s.chain (n - 1)) (newblocks_on s.rules n L) → SaysOnly o (block_at s.chain (n - 1)) (cons_option r (newblocks_on s.rules n L))
    one None q rest = rest
    one (Some y) q rest = (from e.from e.message a.0 y q, rest)

-- a peer's votes on one position are one outcome, which it believes
votes_only : (s : Setting) (logs : List Log) → length logs ≡ peers_of s → (me q n t : ℕ) → is_faulty s (Peer q) ≡ false → (L : Log) → AllByRecursion (IsInnocent s logs) L → SaysOnly q (belief s.rules q (heard s.rules q (get_or logs q [])) n t) (votes_on s.rules me n t L)
votes_only s logs many me q n t honest [] a = tt
votes_only s logs many me q n t honest (e ∷ L) a = only_append q c (votes_in s.rules me n t e) (votes_on s.rules me n t L) (from e.from e.message a.0) (votes_only s logs many me q n t honest L a.1)
  where
    K : Log
    K = heard s.rules q (get_or logs q [])

    c : Outcome
    c = belief s.rules q K n t

    outcomes : (vs : List Vote) → AllByRecursion (IsBelieved s.rules q K n) vs → AllByRecursion (λ o. o ≡ c) (outcomes_on t vs)
    outcomes [] b = tt
    outcomes (v ∷ vs) b = one (v.t == t) refl (outcomes vs b.1)
      where
        one : (h : Bool) → (v.t == t) ≡ h → AllByRecursion (λ o. o ≡ c) (outcomes_on t vs) → AllByRecursion (λ o. o ≡ c) (cond h (v.outcome ∷ outcomes_on t vs) (outcomes_on t vs))
        one false k rest = rest
        one true k rest = (belief_is s.rules q K n v b.0 ∙ ap (belief s.rules q K n) (eqb-true v.t t k), rest)

    of_other : (p : ℕ) (os : List Outcome) → (p == q) ≡ false → SaysOnly q c (map (λ o. (p, o)) os)
    of_other p [] k = tt
    of_other p (o ∷ os) k = ((λ h. absurd (false≢true (sym k ∙ h))), of_other p os k)

    of_it : (p : ℕ) (os : List Outcome) → AllByRecursion (λ o. o ≡ c) os → SaysOnly q c (map (λ o. (p, o)) os)
    of_it p [] b = tt
    of_it p (o ∷ os) b = ((λ _. b.0), of_it p os b.1)

    commit : (p : ℕ) (m : Commit) → (is_faulty s (Peer p) ≡ false → p < length logs → AreBelieved s.rules p (heard s.rules p (get_or logs p [])) m) → SaysOnly q c (cond (is_other s.rules me p && (m.n == n)) (map (λ o. (p, o)) (reverse (outcomes_on t m.votes))) [])
    commit p m i = one (is_other s.rules me p) refl (m.n == n) refl
      where
        one : (h : Bool) → is_other s.rules me p ≡ h → (g : Bool) → (m.n == n) ≡ g → SaysOnly q c (cond (h && g) (map (λ o. (p, o)) (reverse (outcomes_on t m.votes))) [])
        one false h g k = tt
        one true h false k = tt
        one true h true k = two (p == q) refl
          where
            two : (d : Bool) → (p == q) ≡ d → SaysOnly q c (map (λ o. (p, o)) (reverse (outcomes_on t m.votes)))
            two false d = of_other p (reverse (outcomes_on t m.votes)) d
            two true d =
                let same : p ≡ q = eqb-true p q d in
                let inside : nat_lt p (length s.rules.table.peers) ≡ true = (and_parts (nat_lt p (length s.rules.table.peers)) _ h).0 in
                let small : p < length logs = grind (arith, nat_tests, inside, many) in
                let believed = i (ap (λ z. is_faulty s (Peer z)) same ∙ honest) small in
                let here : AllByRecursion (IsBelieved s.rules q K n) m.votes = subst (λ j. AllByRecursion (IsBelieved s.rules q K j) m.votes) (eqb-true m.n n k) (subst (λ z. AllByRecursion (IsBelieved s.rules z (heard s.rules z (get_or logs z [])) m.n) m.votes) same believed) in
                of_it p (reverse (outcomes_on t m.votes)) (all_reverse (λ o. o ≡ c) (outcomes_on t m.votes) (outcomes m.votes here))

    from : (x : Node) (m : Message) → (is_faulty s x ≡ false → Says s logs x m) → SaysOnly q c (votes_from s.rules me n t x m)
    from (Orderer o) (message.NewBlock m) i = tt
    from (Orderer o) (message.Commit m) i = tt
    from (Peer p) (message.NewBlock m) i = tt
    from (Peer p) (message.Commit m) i = commit p m i

-- THE LAW

record Premises (s : Setting) : Type 0 where
  local : IsLocal s.rules
  numbered : IsNumbered s.chain

none_innocent : (s : Setting) → Premises s → (events : List Event) (w : World) → AllByRecursion (IsSaidByFaulty s) events → IsWorld s events w → WorldInnocent s w
none_innocent s h events w said led = world_innocent s h.local events (start s) w said led (start_innocent s)

pub innocence : Innocence
innocence table genesis items limits faulty s events w p orderers agents is said led evidence = record {
  orderers = λ m honest. evidence.orderers_are.are m ∙ no_two same_block (λ b. (same_block_decides b b).1 refl) m.orderer (block_at s.chain (m.n - 1)) (newblocks_on s.rules m.n K) (blocks_only s w.logs premises.numbered m.orderer m.n honest K all);
  agents = λ m honest. evidence.agents_are.are m ∙ no_two same_outcome (λ o. (same_outcome_decides o o).1 refl) m.agent (belief s.rules m.agent (heard s.rules m.agent (get_or w.logs m.agent [])) m.n m.t) (votes_on s.rules p m.n m.t K) (votes_only s w.logs innocent.many p m.agent m.n m.t honest K all);
}
  where
    K : Log
    K = heard s.rules p (log_of w p)

    premises : Premises s
    premises = subst Premises (sym (agreed_setting_is table genesis items limits faulty s is)) (record {
      local = rules_local table genesis;
      numbered = λ m h. numbered_from table is.bodies 1 no_hash m h ∙ omega arith;
    })

    innocent : WorldInnocent s w
    innocent = none_innocent s premises events w (recursion_from_All (IsSaidByFaulty s) events said) led

    all : AllByRecursion (IsInnocent s w.logs) K
    all = heard_all (IsInnocent s w.logs) s.rules p (log_of w p) (all_at (AllByRecursion (IsInnocent s w.logs)) w.logs p [] tt innocent.logs)
