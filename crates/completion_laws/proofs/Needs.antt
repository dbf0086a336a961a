-- A peer that completed every block heard a quorum of orderers, and of each transaction as many agents as are to agree: where faulty nodes are silent, these aren't faulty.
use Rattle.txn_types.specs.declared.message.Message.TheVariants as message
use Rattle.std.proofs.lemmas.Bool.Decides.{nat_tests}
use Rattle.std.specs.Prelude.{nat_lt, ℕ, ◌==◌, ◌<◌, ◌≤◌, ◌≡◌, Bool, true, false, ◌&&◌, ◌||◌, not, cond, List, [], ◌∷◌, ◌++◌, map, reverse, length, get_or, filter, filter_map, Option, Some, None, is_some, refl, suc, zero}
use Rattle.std.specs.List.{AllByRecursion, IsDistinct, cons_option, list_all, list_any}
use Rattle.std.specs.Set.{is_member}
use Rattle.std.specs.Cmp.{nat_eq_equiv}
use Rattle.std.proofs.Common.{sym, ◌∙◌, ap, subst, arith, eqb, ⊎_elim}
use Rattle.std.proofs.lemmas.Bool.{and_parts, cases_lt, eqb-true, false≢true}
use Rattle.std.proofs.lemmas.List.{length-map}
use Rattle.std.proofs.lemmas.List.Sums.{count_by-le-length, length-filter}
use Rattle.std.proofs.lemmas.Map.Made.{length-le_from_is_member}
use Rattle.std.proofs.lemmas.Option.{none-some, cond_some}
use Rattle.known_defs.specs.Known.{txn_at}
use Rattle.node_defs.specs.Accepted.{accepted}
use Rattle.node_defs.specs.Counting.{first_of_each, first_to_reach}
use Rattle.node_defs.specs.Ledger.{accepted_at, agreed_outcome, completed, completed_with, is_agreed, with_entry, work_on}
use Rattle.node_defs.specs.Log.{Letter, Log, is_good, is_other, newblock_from, newblock_in, outcomes_on, votes_from, votes_in}
use Rattle.node_defs.specs.Position.{Standing, Work, agreed, ballots, is_agent, own_outcome, ran, standings}
use Rattle.node_defs.specs.Rules.{Rules, in_force}
use Rattle.node_defs.specs.Same.{same_block, same_list, same_number, same_outcome}
use Rattle.node_laws.proofs.Counting.{distinct_filter, distinct_senders, reached_count}
use Rattle.node_laws.proofs.Growing.{completed_few}
use Rattle.node_laws.proofs.Whole.{step}
use Rattle.txn_types.specs.Fitting.{is_fit}
use Rattle.txn_types.specs.declared.block.Block.{Block}
use Rattle.txn_types.specs.declared.message.Message.{Message}
use Rattle.txn_types.specs.declared.message.Node.{Node}
use Rattle.txn_types.specs.declared.message.Node.TheVariants.{Orderer, Peer}
use Rattle.txn_types.specs.declared.txn.Outcome.{Outcome}
use Rattle.node_laws.proofs.Standings.{length_standings, standing_at}

-- LISTS OF SENDERS

firsts : {A : Type 0} (P : ℕ × A → Type 0) (xs : List (ℕ × A)) → AllByRecursion P xs → AllByRecursion P (first_of_each xs)
firsts P [] a = tt
firsts {A} P (x ∷ xs) a = elim (list_any (λ y. y.0 == x.0) xs) as (λ b. AllByRecursion P (cond b (first_of_each xs) (x ∷ first_of_each xs))) [ true ↦ firsts P xs a.1 | false ↦ (a.0, firsts P xs a.1) ]

joined : {A : Type 0} (P : A → Type 0) (xs ys : List A) → AllByRecursion P xs → AllByRecursion P ys → AllByRecursion P (xs ++ ys)
joined P [] ys a b = b
joined P (x ∷ xs) ys a b = (a.0, joined P xs ys a.1 b)

member_all : {A : Type 0} (Q : ℕ → Type 0) (xs : List (ℕ × A)) → AllByRecursion (λ x. Q x.0) xs → (k : ℕ) → is_member eqb (map (λ (x : ℕ × A). x.0) xs) k ≡ true → Q k
member_all Q [] a k h = absurd (false≢true h)
member_all {A} Q (x ∷ xs) a k h = one (eqb k x.0) refl h (λ i. member_all Q xs a.1 k i)
  where
    one : (b : Bool) → eqb k x.0 ≡ b → (b || (is_member eqb (map (λ (y : ℕ × A). y.0) xs) k)) ≡ true → (is_member eqb (map (λ (y : ℕ × A). y.0) xs) k ≡ true → Q k) → Q k
    one true e i more = subst Q (sym (eqb-true k x.0 e)) a.0
    one false e i more = more i

-- what reached a count did so among entries of different senders, and these are among some nodes
counted_among : {A : Type 0} (same : A → A → Bool) (fit : A → Bool) (q : ℕ) (es : List (ℕ × A)) (x : A) (nodes : List ℕ) → first_to_reach same q (filter fit (map (λ (e : ℕ × A). e.1) es)) ≡ Some x → IsDistinct eqb (map (λ (e : ℕ × A). e.0) es) →
    ((k : ℕ) → is_member eqb (map (λ (e : ℕ × A). e.0) es) k ≡ true → is_member eqb nodes k ≡ true) → q ≤ length nodes
counted_among {A} same fit q es x nodes h distinct each =
    let contents = map (λ (e : ℕ × A). e.1) es in
    omega (
      arith,
      reached_count same q (filter fit contents) x h,
      count_by-le-length (same x) (filter fit contents),
      length-filter fit contents,
      count_by-le-length fit contents,
      length-map es (λ (e : ℕ × A). e.1),
      length-le_from_is_member nat_eq_equiv (map (λ (e : ℕ × A). e.0) es) nodes distinct each,
      length-map es (λ (e : ℕ × A). e.0),
    )

-- NEWBLOCKS

-- a log of messages of nodes that aren't faulty
abbrev pub IsHonestLog : (Node → Bool) → Log → Type 0
IsHonestLog faulty L = AllByRecursion (λ (e : Letter). faulty e.from ≡ false) L

abbrev IsHonestOrderer : Rules → (Node → Bool) → ℕ → Type 0
IsHonestOrderer rules faulty o = (o < length rules.table.orderers) × (faulty (Orderer o) ≡ false)

good_honest : (rules : Rules) (faulty : Node → Bool) (n : ℕ) (e : Letter) → faulty e.from ≡ false → (x : ℕ × Block) → newblock_in rules n e ≡ Some x → IsHonestOrderer rules faulty x.0
good_honest rules faulty n e f x h = from e.from e.message f h
  where
    from : (y : Node) (msg : Message) → faulty y ≡ false → newblock_from rules n y msg ≡ Some x → IsHonestOrderer rules faulty x.0
    from (Peer p) (message.NewBlock m) i k = absurd (none-some x k)
    from (Peer p) (message.Commit c) i k = absurd (none-some x k)
    from (Orderer o) (message.Commit c) i k = absurd (none-some x k)
    from (Orderer o) (message.NewBlock m) i k =
        let y : ℕ × Block = (o, m.block) in
        let q = cond_some (is_good rules n o m) y x k in
        let p = and_parts (nat_lt o (length rules.table.orderers)) (m.block.number == n) (and_parts (nat_lt o (length rules.table.orderers) && (m.block.number == n)) _ q.0).0 in
        let l : o < length rules.table.orderers = grind (arith, nat_tests, p.0) in
        subst (λ (z : ℕ × Block). IsHonestOrderer rules faulty z.0) q.1 (l, i)

goods_honest : (rules : Rules) (faulty : Node → Bool) (n : ℕ) (L : Log) → IsHonestLog faulty L → AllByRecursion (λ (x : ℕ × Block). IsHonestOrderer rules faulty x.0) (filter_map (newblock_in rules n) L)
goods_honest rules faulty n [] a = tt
goods_honest rules faulty n (e ∷ L) a = one (newblock_in rules n e) refl (goods_honest rules faulty n L a.1)
  where
    one : (o : Option (ℕ × Block)) → newblock_in rules n e ≡ o → AllByRecursion (λ (x : ℕ × Block). IsHonestOrderer rules faulty x.0) (filter_map (newblock_in rules n) L) → AllByRecursion (λ (x : ℕ × Block). IsHonestOrderer rules faulty x.0) (cons_option o (filter_map (newblock_in rules n) L))
    one None q h = h
    one (Some x) q h = (good_honest rules faulty n e a.0 x q, h)

-- an accepted block was said by a quorum of orderers that aren't faulty
pub quorum_needed : (rules : Rules) (faulty : Node → Bool) (n : ℕ) (hash : List ℕ) (L : Log) (b : Block) (nodes : List ℕ) → IsHonestLog faulty L → accepted rules n hash L ≡ Some b → ((o : ℕ) → IsHonestOrderer rules faulty o → is_member eqb nodes o ≡ true) → rules.table.quorum ≤ length nodes
quorum_needed rules faulty n hash L b nodes a h each =
    let goods = filter_map (newblock_in rules n) L in
    counted_among same_block (λ (c : Block). same_list same_number c.prev hash) rules.table.quorum (first_of_each goods) b nodes h (distinct_senders goods)
    (λ k i. each k (member_all (IsHonestOrderer rules faulty) (first_of_each goods) (firsts (λ (x : ℕ × Block). IsHonestOrderer rules faulty x.0) goods (goods_honest rules faulty n L a)) k i))

-- VOTES

abbrev IsHonestPeer : Rules → (Node → Bool) → ℕ → Type 0
IsHonestPeer rules faulty p = (p < length rules.table.peers) × (faulty (Peer p) ≡ false)

votes_honest : (rules : Rules) (faulty : Node → Bool) (me n t : ℕ) (e : Letter) → faulty e.from ≡ false → AllByRecursion (λ (x : ℕ × Outcome). IsHonestPeer rules faulty x.0) (votes_in rules me n t e)
votes_honest rules faulty me n t e f = from e.from e.message f
  where
    all_of : (p : ℕ) (os : List Outcome) → IsHonestPeer rules faulty p → AllByRecursion (λ (x : ℕ × Outcome). IsHonestPeer rules faulty x.0) (map (λ o. (p, o)) os)
    all_of p [] h = tt
    all_of p (o ∷ os) h = (h, all_of p os h)

    one : (p : ℕ) (os : List Outcome) (b c : Bool) → (b ≡ true → IsHonestPeer rules faulty p) → AllByRecursion (λ (x : ℕ × Outcome). IsHonestPeer rules faulty x.0) (cond (b && c) (map (λ o. (p, o)) os) [])
    one p os true true h = all_of p os (h refl)
    one p os true false h = tt
    one p os false c h = tt

    from : (y : Node) (msg : Message) → faulty y ≡ false → AllByRecursion (λ (x : ℕ × Outcome). IsHonestPeer rules faulty x.0) (votes_from rules me n t y msg)
    from (Orderer o) (message.NewBlock m) i = tt
    from (Orderer o) (message.Commit c) i = tt
    from (Peer p) (message.NewBlock m) i = tt
    from (Peer p) (message.Commit c) i = one p (reverse (outcomes_on t c.votes)) (is_other rules me p) (c.n == n) (λ q. let z = and_parts (nat_lt p (length rules.table.peers)) (not (p == me)) q in let l : p < length rules.table.peers = grind (arith, nat_tests, z.0) in (l, i))

ballots_honest : (rules : Rules) (faulty : Node → Bool) (w : Work) (t : ℕ) (earlier : Log → List Standing) → IsHonestPeer rules faulty w.me → (L : Log) → IsHonestLog faulty L → AllByRecursion (λ (x : ℕ × Outcome). IsHonestPeer rules faulty x.0) (ballots rules w t earlier L)
ballots_honest rules faulty w t earlier me [] a = tt
ballots_honest rules faulty w t earlier me (e ∷ L) a =
    let P : ℕ × Outcome → Type 0 = λ x. IsHonestPeer rules faulty x.0 in
    let own : List (ℕ × Outcome) = cond (ran rules w t earlier (e ∷ L) && not (ran rules w t earlier L)) ((w.me, own_outcome rules w t earlier (e ∷ L)) ∷ []) [] in
    joined P (own ++ votes_in rules w.me w.n t e) (ballots rules w t earlier L) (joined P own (votes_in rules w.me w.n t e) (one (ran rules w t earlier (e ∷ L) && not (ran rules w t earlier L))) (votes_honest rules faulty w.me w.n t e a.0)) (ballots_honest rules faulty w t earlier me L a.1)
  where
    one : (b : Bool) → AllByRecursion (λ (x : ℕ × Outcome). IsHonestPeer rules faulty x.0) (cond b ((w.me, own_outcome rules w t earlier (e ∷ L)) ∷ []) [])
    one true = (me, tt)
    one false = tt

agents_kept : (rules : Rules) (faulty : Node → Bool) (w : Work) (t : ℕ) (xs : List (ℕ × Outcome)) → AllByRecursion (λ (x : ℕ × Outcome). IsHonestPeer rules faulty x.0) xs →
    AllByRecursion (λ (x : ℕ × Outcome). IsHonestPeer rules faulty x.0 × (is_agent rules x.0 (txn_at w.txns t) ≡ true)) (filter (λ (x : ℕ × Outcome). is_agent rules x.0 (txn_at w.txns t)) xs)
agents_kept rules faulty w t [] a = tt
agents_kept rules faulty w t (x ∷ xs) a = one (is_agent rules x.0 (txn_at w.txns t)) refl (agents_kept rules faulty w t xs a.1)
  where
    one : (b : Bool) → is_agent rules x.0 (txn_at w.txns t) ≡ b → AllByRecursion (λ (y : ℕ × Outcome). IsHonestPeer rules faulty y.0 × (is_agent rules y.0 (txn_at w.txns t) ≡ true)) (filter (λ (y : ℕ × Outcome). is_agent rules y.0 (txn_at w.txns t)) xs) →
        AllByRecursion (λ (y : ℕ × Outcome). IsHonestPeer rules faulty y.0 × (is_agent rules y.0 (txn_at w.txns t) ≡ true)) (cond b (x ∷ filter (λ (y : ℕ × Outcome). is_agent rules y.0 (txn_at w.txns t)) xs) (filter (λ (y : ℕ × Outcome). is_agent rules y.0 (txn_at w.txns t)) xs))
    one true e more = ((a.0, e), more)
    one false e more = more

-- an agreed position was voted on by as many agents that aren't faulty
pub votes_needed : (rules : Rules) (faulty : Node → Bool) (w : Work) (t : ℕ) (earlier : Log → List Standing) (L : Log) (o : Outcome) (nodes : List ℕ) → IsHonestPeer rules faulty w.me → IsHonestLog faulty L → agreed rules w t earlier L ≡ Some o →
    ((p : ℕ) → IsHonestPeer rules faulty p → is_agent rules p (txn_at w.txns t) ≡ true → is_member eqb nodes p ≡ true) → rules.tau (txn_at w.txns t).app ≤ length nodes
votes_needed rules faulty w t earlier L o nodes me a h each =
    let all = ballots rules w t earlier L in
    let T = txn_at w.txns t in
    let es = filter (λ (v : ℕ × Outcome). is_agent rules v.0 T) (first_of_each all) in
    let Q : ℕ → Type 0 = λ p. IsHonestPeer rules faulty p × (is_agent rules p T ≡ true) in
    let kept = agents_kept rules faulty w t (first_of_each all) (firsts (λ (x : ℕ × Outcome). IsHonestPeer rules faulty x.0) all (ballots_honest rules faulty w t earlier me L a)) in
    counted_among same_outcome (is_fit T) (rules.tau T.app) es o nodes h (distinct_filter (λ (v : ℕ × Outcome). is_agent rules v.0 T) (first_of_each all) (distinct_senders all))
    (λ k i. let q = member_all Q es kept k i in each k q.0 q.1)

-- COMPLETED BLOCKS

-- where j blocks are completed, so are the first m of them
pub full_below : (rules : Rules) (me : ℕ) (L : Log) (n j : ℕ) → j ≤ length (completed rules me n L) → (m : ℕ) → m ≤ j → length (completed rules me m L) ≡ m
full_below rules me L zero j h m k = let q : m ≡ 0 = omega (arith, h, k) in let e = ap (λ i. length (completed rules me i L)) q in omega (arith, e, q)
full_below rules me L (suc n) j h m k = ⊎_elim (λ same. full_below rules me L n j (omega (arith, h, ap length same)) m k) (λ p. ⊎_elim (λ e. full_below rules me L n n (omega (arith, p.0)) m (omega (arith, e))) (λ e. top (let q : m ≡ suc n = omega (arith, e, k, h, completed_few rules me (suc n) L) in q)) (cases_lt m (suc n))) (step rules me n L)
  where
    top : m ≡ suc n → length (completed rules me m L) ≡ m
    top q = let e = ap (λ i. length (completed rules me i L)) q in omega (arith, e, q, h, k, completed_few rules me (suc n) L)

-- a completed block was accepted, and each of its positions agreed
pub was_agreed : (rules : Rules) (me m : ℕ) (L : Log) → length (completed rules me m L) ≡ m → length (completed rules me (suc m) L) ≡ suc m →
    (b : Block) × (accepted_at rules me m L ≡ Some b) × (list_all is_agreed (standings (in_force rules (completed rules me m L)) (work_on rules me m (completed rules me m) L b) (length b.txns) L) ≡ true)
was_agreed rules me m L now next = one (accepted_at rules me m L) refl next
  where
    one : (o : Option Block) → accepted_at rules me m L ≡ o → length (completed_with rules me m (completed rules me m) L o) ≡ suc m →
        (b : Block) × (accepted_at rules me m L ≡ Some b) × (list_all is_agreed (standings (in_force rules (completed rules me m L)) (work_on rules me m (completed rules me m) L b) (length b.txns) L) ≡ true)
    one None q h = absurd (omega (arith, h, now))
    one (Some b) q h = (b, q, two (standings (in_force rules (completed rules me m L)) (work_on rules me m (completed rules me m) L b) (length b.txns) L) h)
      where
        two : (all : List Standing) → length (with_entry b all (completed rules me m L)) ≡ suc m → list_all is_agreed all ≡ true
        two all k = three (list_all is_agreed all) refl k
          where
            three : (c : Bool) → list_all is_agreed all ≡ c → length (cond c (record { block = b; outcomes = map agreed_outcome all } ∷ completed rules me m L) (completed rules me m L)) ≡ suc m → list_all is_agreed all ≡ true
            three true e i = e
            three false e i = absurd (omega (arith, i, now))

all_at_place : (p : Standing → Bool) (xs : List Standing) (t : ℕ) (d : Standing) → t < length xs → list_all p xs ≡ true → p (get_or xs t d) ≡ true
all_at_place p [] t d h a = absurd (omega arith)
all_at_place p (x ∷ xs) zero d h a = (and_parts (p x) (list_all p xs) a).0
all_at_place p (x ∷ xs) (suc t) d h a = all_at_place p xs t d (omega arith) (and_parts (p x) (list_all p xs) a).1

-- so position t is agreed
pub agreed_there : (r : Rules) (w : Work) (L : Log) (n t : ℕ) → t < n → list_all is_agreed (standings r w n L) ≡ true → is_some (agreed r w t (standings r w t) L) ≡ true
agreed_there r w L n t h a =
    let here = all_at_place is_agreed (standings r w n L) t (record { ran = false; agreed = None; believed = None }) (omega (arith, h, length_standings r w L n)) a in
    (and_parts (is_some (agreed r w t (standings r w t) L)) _ (sym (ap is_agreed (standing_at r w L n t h)) ∙ here)).0
