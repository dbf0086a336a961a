-- Agreement: over sound logs of a tame input, what a peer believes and agrees is the serial run's
use Rattle.txn_types.specs.declared.message.Message.TheVariants as message
use Rattle.std.proofs.lemmas.Bool.Decides.{nat_tests}
use Rattle.std.specs.Prelude.{nat_lt, ℕ, ◌==◌, ◌<◌, ◌≤◌, Bool, true, false, ◌&&◌, not, cond, List, [], ◌∷◌, ◌++◌, map, reverse, length, get_or, filter, filter_map, take, Option, Some, None, is_some, unwrap_or, option_map, ◌≡◌, refl, suc, zero}
use Rattle.std.specs.List.{AllByRecursion, cons_option, list_all, list_any}
use Rattle.std.proofs.Common.{sym, ◌∙◌, ap, subst, inl, inr, arith, ⊎_elim}
use Rattle.std.proofs.lemmas.Bool.{cases_Bool, and_parts, true≢false, false≢true, eqb-true, or_from}
use Rattle.std.proofs.lemmas.Option.{none-some, same_Some, cond_some}
use Rattle.std.proofs.lemmas.List.{map_push, reverse-append, take_all}
use Rattle.std.proofs.Math.Seq.{take-suc}
use Rattle.known_defs.specs.Known.{knows_all, no_outcome, txn_at}
use Rattle.node_defs.specs.Accepted.{accepted, accepted_after, tip}
use Rattle.node_defs.specs.Counting.{first_of_each}
use Rattle.node_defs.specs.Ledger.{agreed_outcome, with_entry, completed, completed_with, differs, is_agreed, ledger_state, work_on}
use Rattle.node_defs.specs.Log.{Letter, Log, is_good, is_other, newblock_from, newblock_in, votes_from, votes_in, outcomes_on}
use Rattle.node_defs.specs.Position.{Standing, Work, agreed, ballots, is_agent, is_ready, own_outcome, ran, standing, standings}
use Rattle.node_defs.specs.Rules.{IsLocal, Rules, in_force}
use Rattle.node_defs.specs.Same.{same_block, same_list, same_number, same_outcome}
use Rattle.node_defs.specs.Serial.{IsNumbered, serial_base, serial_ledger, serial_outcomes_at}
use Rattle.node_defs.specs.Blocks.{block_at}
use Rattle.node_laws.specs.Fed.{Has}
use Rattle.node_laws.proofs.Counting.{distinct_filter, distinct_senders, honest_among, keep_member}
use Rattle.node_defs.proofs.SameLemmas.{same_block_decides, same_outcome_decides}
use Rattle.node_laws.proofs.Few.{FewOrderers, IsTameAll, IsTameAt}
use Rattle.node_laws.proofs.Order.{length_serial, same_outcome_through, serial_at, within_push}
use Rattle.node_laws.proofs.Same.{Within}
use Rattle.node_laws.specs.Agreement.{IsRight, IsSound, SaysRight}
use Rattle.oxii_defs.specs.Lines.{Entry}
use Rattle.txn_types.specs.Fitting.{is_fit}
use Rattle.txn_types.specs.declared.block.Block.{Block}
use Rattle.txn_types.specs.declared.message.Message.{Message}
use Rattle.txn_types.specs.declared.message.NewBlock.{NewBlock}
use Rattle.txn_types.specs.declared.message.Node.{Node}
use Rattle.txn_types.specs.declared.message.Node.TheVariants.{Orderer, Peer}
use Rattle.txn_types.specs.declared.message.Vote.{Vote}
use Rattle.txn_types.specs.declared.txn.Outcome.{Outcome}

-- BALLOTS

-- each ballot of a correct peer is for r
abbrev pub AllFor : (Node → Bool) → Outcome → List (ℕ × Outcome) → Type 0
AllFor faulty r xs = AllByRecursion (λ x. faulty (Peer x.0) ≡ false → x.1 ≡ r) xs

for_append : (faulty : Node → Bool) (r : Outcome) (xs ys : List (ℕ × Outcome)) → AllFor faulty r xs → AllFor faulty r ys → AllFor faulty r (xs ++ ys)
for_append faulty r [] ys a b = b
for_append faulty r (x ∷ xs) ys a b = (a.0, for_append faulty r xs ys a.1 b)

pub for_first : (faulty : Node → Bool) (r : Outcome) (xs : List (ℕ × Outcome)) → AllFor faulty r xs → AllFor faulty r (first_of_each xs)
for_first faulty r [] a = tt
for_first faulty r (x ∷ xs) a = elim (list_any (λ y. y.0 == x.0) xs) as (λ b. AllFor faulty r (cond b (first_of_each xs) (x ∷ first_of_each xs))) [ true ↦ for_first faulty r xs a.1 | false ↦ (a.0, for_first faulty r xs a.1) ]

pub for_has : (faulty : Node → Bool) (r : Outcome) (xs : List (ℕ × Outcome)) (x : ℕ × Outcome) → AllFor faulty r xs → Has x xs → faulty (Peer x.0) ≡ false → x.1 ≡ r
for_has faulty r [] x a h = absurd h
for_has faulty r (y ∷ ys) x a (inl e) = subst (λ (z : ℕ × Outcome). faulty (Peer z.0) ≡ false → z.1 ≡ r) (sym e) a.0
for_has faulty r (y ∷ ys) x a (inr h) = for_has faulty r ys x a.1 h

-- what right votes say of position t of block m + 1
votes_right : (rules : Rules) (chain : List Block) (m t : ℕ) → m < length chain → t < length (block_at chain m).txns → (vs : List Vote) → AllByRecursion (IsRight rules chain (suc m)) vs → AllByRecursion (λ o. o ≡ get_or (serial_outcomes_at rules chain m) t no_outcome) (outcomes_on t vs)
votes_right rules chain m t l k [] a = tt
votes_right rules chain m t l k (v ∷ vs) a = one (v.t == t) refl (votes_right rules chain m t l k vs a.1)
  where
    one : (b : Bool) → (v.t == t) ≡ b → AllByRecursion (λ o. o ≡ get_or (serial_outcomes_at rules chain m) t no_outcome) (outcomes_on t vs) → AllByRecursion (λ o. o ≡ get_or (serial_outcomes_at rules chain m) t no_outcome) (cond b (v.outcome ∷ outcomes_on t vs) (outcomes_on t vs))
    one false e h = h
    one true e h =
        let i : v.t ≡ t = eqb-true v.t t e in
        let r = a.0 in
        let q : r.0 ≡ m = let n = r.2 in omega arith in
        (r.4 ∙ ap (λ k. get_or (serial_outcomes_at rules chain k) v.t no_outcome) q ∙ ap (λ k. get_or (serial_outcomes_at rules chain m) k no_outcome) i, h)

all_for_map : (faulty : Node → Bool) (p : ℕ) (r : Outcome) (os : List Outcome) → AllByRecursion (λ o. o ≡ r) os → AllFor faulty r (map (λ o. (p, o)) os)
all_for_map faulty p r [] a = tt
all_for_map faulty p r (o ∷ os) a = (λ _. a.0, all_for_map faulty p r os a.1)

faulty_map : (faulty : Node → Bool) (p : ℕ) (r : Outcome) (os : List Outcome) → faulty (Peer p) ≡ true → AllFor faulty r (map (λ o. (p, o)) os)
faulty_map faulty p r [] f = tt
faulty_map faulty p r (o ∷ os) f = (λ h. absurd (true≢false (sym f ∙ h)), faulty_map faulty p r os f)

all_push : (P : Outcome → Type 0) (xs : List Outcome) (x : Outcome) → AllByRecursion P xs → P x → AllByRecursion P (xs ++ x ∷ [])
all_push P [] x a h = (h, tt)
all_push P (y ∷ ys) x a h = (a.0, all_push P ys x a.1 h)

all_reverse : (P : Outcome → Type 0) (xs : List Outcome) → AllByRecursion P xs → AllByRecursion P (reverse xs)
all_reverse P [] a = tt
all_reverse P (x ∷ xs) a = subst (AllByRecursion P) (sym (reverse-append (x ∷ []) xs)) (all_push P (reverse xs) x (all_reverse P xs a.1) a.0)

entry_right : (rules : Rules) (chain : List Block) (faulty : Node → Bool) (me m t : ℕ) → m < length chain → t < length (block_at chain m).txns → (e : Letter) → IsSound rules chain faulty e → AllFor faulty (get_or (serial_outcomes_at rules chain m) t no_outcome) (votes_in rules me (suc m) t e)
entry_right rules chain faulty me m t l k e s = from e.from e.message s
  where
    r : Outcome
    r = get_or (serial_outcomes_at rules chain m) t no_outcome

    votes : (p n : ℕ) (vs : List Vote) (o b : Bool) → (n == suc m) ≡ b → (faulty (Peer p) ≡ false → AllByRecursion (IsRight rules chain n) vs) → AllFor faulty r (cond (o && b) (map (λ o. (p, o)) (reverse (outcomes_on t vs))) [])
    votes p n vs false b q h = tt
    votes p n vs true false q h = tt
    votes p n vs true true q h = ⊎_elim (λ f. faulty_map faulty p r _ f) (λ f. all_for_map faulty p r _ (all_reverse (λ o. o ≡ r) (outcomes_on t vs) (votes_right rules chain m t l k vs (subst (λ j. AllByRecursion (IsRight rules chain j) vs) (eqb-true n (suc m) q) (h f))))) (cases_Bool (faulty (Peer p)))

    from : (x : Node) (msg : Message) → (faulty x ≡ false → SaysRight rules chain x msg) → AllFor faulty r (votes_from rules me (suc m) t x msg)
    from (Orderer o) (message.NewBlock nb) h = tt
    from (Orderer o) (message.Commit c) h = tt
    from (Peer p) (message.NewBlock nb) h = tt
    from (Peer p) (message.Commit c) h = votes p c.n c.votes (is_other rules me p) (c.n == suc m) refl h

-- ONE BLOCK OF THE CHAIN

abbrev pub Sound : Rules → List Block → (Node → Bool) → Log → Type 0
Sound rules chain faulty L = AllByRecursion (IsSound rules chain faulty) L

-- a peer's work on block m + 1 of the chain, after the serial run of those before it
abbrev pub chain_work : Rules → List Block → ℕ → ℕ → (Log → Bool) → Work
chain_work rules chain me m opens = record { me = me; n = suc m; txns = (block_at chain m).txns; base = serial_base rules chain m; opens = opens }

abbrev pub beliefs : List Standing → List (Option Outcome)
beliefs xs = map (λ (s : Standing). s.believed) xs

abbrev pub Serials : Rules → List Block → ℕ → ℕ → List (Option Outcome)
Serials rules chain m t = map Some (take t (serial_outcomes_at rules chain m))

-- the outcome of position t in the serial run
abbrev pub right_at : Rules → List Block → ℕ → ℕ → Outcome
right_at rules chain m t = get_or (serial_outcomes_at rules chain m) t no_outcome

-- what the earlier positions are believed to be is right, on each sound log
abbrev pub RightEarlier : Rules → List Block → (Node → Bool) → ℕ → ℕ → (Log → List Standing) → Type 0
RightEarlier rules chain faulty m t earlier = (L : Log) → Sound rules chain faulty L → Within (beliefs (earlier L)) (Serials rules chain m t)

pub own_right : (rules : Rules) → IsLocal rules → (chain : List Block) (faulty : Node → Bool) (me m t : ℕ) (opens : Log → Bool) (earlier : Log → List Standing) → t < length (block_at chain m).txns → RightEarlier rules chain faulty m t earlier → (L : Log) → Sound rules chain faulty L → is_ready rules (chain_work rules chain me m opens) t (opens L) (earlier L) ≡ true → own_outcome rules (chain_work rules chain me m opens) t earlier L ≡ right_at rules chain m t
own_right rules l chain faulty me m t opens earlier k right L s ready =
    let txns = (block_at chain m).txns in
    let p = and_parts (opens L) (knows_all rules.table.kind (txn_at txns t) txns (beliefs (earlier L))) ready in
    same_outcome_through rules l (serial_base rules chain m) (txn_at txns t) txns (beliefs (earlier L)) (Serials rules chain m t) p.1 (right L s)
    ∙ sym (serial_at rules (serial_base rules chain m) txns t no_outcome k)

pub ballots_right : (rules : Rules) → IsLocal rules → (chain : List Block) (faulty : Node → Bool) (me m t : ℕ) (opens : Log → Bool) (earlier : Log → List Standing) → m < length chain → t < length (block_at chain m).txns → RightEarlier rules chain faulty m t earlier → (L : Log) → Sound rules chain faulty L → AllFor faulty (right_at rules chain m t) (ballots rules (chain_work rules chain me m opens) t earlier L)
ballots_right rules l chain faulty me m t opens earlier j k right [] s = tt
ballots_right rules l chain faulty me m t opens earlier j k right (e ∷ L) s =
    for_append faulty (right_at rules chain m t) _ _
    (for_append faulty (right_at rules chain m t) _ _ (own (ran rules w t earlier (e ∷ L)) refl (not (ran rules w t earlier L))) (entry_right rules chain faulty me m t j k e s.0))
    (ballots_right rules l chain faulty me m t opens earlier j k right L s.1)
  where
    w : Work
    w = chain_work rules chain me m opens

    own : (a : Bool) → ran rules w t earlier (e ∷ L) ≡ a → (b : Bool) → AllFor faulty (right_at rules chain m t) (cond (a && b) ((me, own_outcome rules w t earlier (e ∷ L)) ∷ []) [])
    own false h b = tt
    own true h false = tt
    own true h true = (λ _. own_right rules l chain faulty me m t opens earlier k right (e ∷ L) s (and_parts (is_agent rules me (txn_at w.txns t)) (is_ready rules w t (opens (e ∷ L)) (earlier (e ∷ L))) h).1, tt)

agreed_right : (rules : Rules) → IsLocal rules → (chain : List Block) (faulty : Node → Bool) (me m t : ℕ) → IsTameAt rules chain faulty m → (opens : Log → Bool) (earlier : Log → List Standing) → m < length chain → t < length (block_at chain m).txns → RightEarlier rules chain faulty m t earlier → (L : Log) → Sound rules chain faulty L → (o : Outcome) → agreed rules (chain_work rules chain me m opens) t earlier L ≡ Some o → o ≡ right_at rules chain m t
agreed_right rules l chain faulty me m t tame opens earlier j k right L s o h =
    let w = chain_work rules chain me m opens in
    let T = txn_at w.txns t in
    let all = ballots rules w t earlier L in
    let es = filter (λ (v : ℕ × Outcome). is_agent rules v.0 T) (first_of_each all) in
    let found = honest_among same_outcome (is_fit T) (rules.tau T.app) es (tame.agents t j k).named o (distinct_filter (λ (v : ℕ × Outcome). is_agent rules v.0 T) (first_of_each all) (distinct_senders all)) (tame.agents t j k).few h in
    let kept = keep_member (λ (v : ℕ × Outcome). is_agent rules v.0 T) (first_of_each all) found.0 found.1 in
    let honest = (tame.agents t j k).others found.0.0 kept.1 found.2 in
    (same_outcome_decides o found.0.1).0 found.4
    ∙ for_has faulty (right_at rules chain m t) (first_of_each all) found.0 (for_first faulty (right_at rules chain m t) all (ballots_right rules l chain faulty me m t opens earlier j k right L s)) kept.0 honest

-- a standing is right where what it is agreed with and what it is believed to be are the serial outcome
pub record IsRightAt (r : Outcome) (x : Standing) : Type 0 where
  pub agreed : (o : Outcome) → x.agreed ≡ Some o → o ≡ r
  pub believed : (o : Outcome) → x.believed ≡ Some o → o ≡ r

believed_right : (agent ready : Bool) (own r : Outcome) (a : Option Outcome) → (ready ≡ true → own ≡ r) → ((o : Outcome) → a ≡ Some o → o ≡ r) → (o : Outcome) → cond (agent && ready) (Some own) (cond ready a None) ≡ Some o → o ≡ r
believed_right agent false own r a f g o h = one agent h
  where
    one : (b : Bool) → cond (b && false) (Some own) None ≡ Some o → o ≡ r
    one true i = absurd (none-some o i)
    one false i = absurd (none-some o i)
believed_right true true own r a f g o h = sym (same_Some own o h) ∙ f refl
believed_right false true own r a f g o h = g o h

standing_right : (rules : Rules) → IsLocal rules → (chain : List Block) (faulty : Node → Bool) (me m t : ℕ) → IsTameAt rules chain faulty m → (opens : Log → Bool) (earlier : Log → List Standing) → m < length chain → t < length (block_at chain m).txns → RightEarlier rules chain faulty m t earlier → (L : Log) → Sound rules chain faulty L → IsRightAt (right_at rules chain m t) (standing rules (chain_work rules chain me m opens) t earlier L)
standing_right rules l chain faulty me m t tame opens earlier j k right L s =
    let w = chain_work rules chain me m opens in
    let ag = agreed_right rules l chain faulty me m t tame opens earlier j k right L s in
    record {
      agreed = ag;
      believed = believed_right (is_agent rules me (txn_at w.txns t)) (is_ready rules w t (opens L) (earlier L)) (own_outcome rules w t earlier L) (right_at rules chain m t) (agreed rules w t earlier L) (own_right rules l chain faulty me m t opens earlier k right L s) ag;
    }

-- all positions below t, on each sound log
pub beliefs_right : (rules : Rules) → IsLocal rules → (chain : List Block) (faulty : Node → Bool) (me m : ℕ) → IsTameAt rules chain faulty m → (opens : Log → Bool) → m < length chain → (t : ℕ) → t ≤ length (block_at chain m).txns → RightEarlier rules chain faulty m t (standings rules (chain_work rules chain me m opens) t)
beliefs_right rules l chain faulty me m tame opens j zero k L s = tt
beliefs_right rules l chain faulty me m tame opens j (suc t) k L s =
    let w = chain_work rules chain me m opens in
    let earlier = standings rules w t in
    let before = beliefs_right rules l chain faulty me m tame opens j t (omega arith) in
    let x = standing rules w t earlier L in
    let right = standing_right rules l chain faulty me m t tame opens earlier j k before L s in
    let few : t < length (serial_outcomes_at rules chain m) = omega (arith, length_serial rules (serial_base rules chain m) (block_at chain m).txns) in
    rw (map_push (λ (y : Standing). y.believed) (earlier L) x) (rw (take-suc (serial_outcomes_at rules chain m) t no_outcome few) (rw (map_push Some (take t (serial_outcomes_at rules chain m)) (right_at rules chain m t))
    (within_push (beliefs (earlier L)) (Serials rules chain m t) x.believed (Some (right_at rules chain m t)) (before L s) (within_one x.believed (right_at rules chain m t) right.believed))))
  where
    within_one : (a : Option Outcome) (r : Outcome) → ((o : Outcome) → a ≡ Some o → o ≡ r) → Within (a ∷ []) (Some r ∷ [])
    within_one None r h = tt
    within_one (Some o) r h = (ap Some (sym (h o refl)), tt)

-- THE ACCEPTED BLOCK

-- a good NEWBLOCK is of an orderer of the table, and that of a correct one carries a block of the chain, with this number
abbrev pub IsFromChain : Rules → List Block → (Node → Bool) → ℕ → ℕ × Block → Type 0
IsFromChain rules chain faulty n x = (x.0 < length rules.table.orderers) × (faulty (Orderer x.0) ≡ false → (x.1.number ≡ n) × ((m : ℕ) × (m < length chain) × (x.1 ≡ block_at chain m)))

abbrev pub AllChain : Rules → List Block → (Node → Bool) → ℕ → List (ℕ × Block) → Type 0
AllChain rules chain faulty n xs = AllByRecursion (IsFromChain rules chain faulty n) xs

good_right : (rules : Rules) (chain : List Block) (faulty : Node → Bool) (n : ℕ) (e : Letter) → IsSound rules chain faulty e → (x : ℕ × Block) → newblock_in rules n e ≡ Some x → IsFromChain rules chain faulty n x
good_right rules chain faulty n e s x h = from e.from e.message s h
  where
    good : (o : ℕ) (m : NewBlock) → (faulty (Orderer o) ≡ false → SaysRight rules chain (Orderer o) (message.NewBlock m)) → is_good rules n o m ≡ true → IsFromChain rules chain faulty n (o, m.block)
    good o m i g =
        let p = and_parts (nat_lt o (length rules.table.orderers) && (m.block.number == n)) _ g in
        let q = and_parts (nat_lt o (length rules.table.orderers)) (m.block.number == n) p.0 in
        (grind (arith, nat_tests, q.0), λ f. (eqb-true m.block.number n q.1, i f))

    from : (y : Node) (msg : Message) → (faulty y ≡ false → SaysRight rules chain y msg) → newblock_from rules n y msg ≡ Some x → IsFromChain rules chain faulty n x
    from (Peer p) (message.NewBlock m) i k = absurd (none-some x k)
    from (Peer p) (message.Commit c) i k = absurd (none-some x k)
    from (Orderer o) (message.Commit c) i k = absurd (none-some x k)
    from (Orderer o) (message.NewBlock m) i k =
        let q = cond_some (is_good rules n o m) (o, m.block) x k in
        subst (IsFromChain rules chain faulty n) q.1 (good o m i q.0)

pub goods_right : (rules : Rules) (chain : List Block) (faulty : Node → Bool) (n : ℕ) (L : Log) → Sound rules chain faulty L → AllChain rules chain faulty n (filter_map (newblock_in rules n) L)
goods_right rules chain faulty n [] s = tt
goods_right rules chain faulty n (e ∷ L) s = one (newblock_in rules n e) refl (goods_right rules chain faulty n L s.1)
  where
    one : (o : Option (ℕ × Block)) → newblock_in rules n e ≡ o → AllChain rules chain faulty n (filter_map (newblock_in rules n) L) → AllChain rules chain faulty n (cons_option o (filter_map (newblock_in rules n) L))
    one None q h = h
    one (Some x) q h = (good_right rules chain faulty n e s.0 x q, h)

pub chain_first : (rules : Rules) (chain : List Block) (faulty : Node → Bool) (n : ℕ) (xs : List (ℕ × Block)) → AllChain rules chain faulty n xs → AllChain rules chain faulty n (first_of_each xs)
chain_first rules chain faulty n [] a = tt
chain_first rules chain faulty n (x ∷ xs) a = elim (list_any (λ y. y.0 == x.0) xs) as (λ b. AllChain rules chain faulty n (cond b (first_of_each xs) (x ∷ first_of_each xs))) [ true ↦ chain_first rules chain faulty n xs a.1 | false ↦ (a.0, chain_first rules chain faulty n xs a.1) ]

pub chain_has : (rules : Rules) (chain : List Block) (faulty : Node → Bool) (n : ℕ) (xs : List (ℕ × Block)) (x : ℕ × Block) → AllChain rules chain faulty n xs → Has x xs → IsFromChain rules chain faulty n x
chain_has rules chain faulty n [] x a h = absurd h
chain_has rules chain faulty n (y ∷ ys) x a (inl e) = subst (IsFromChain rules chain faulty n) (sym e) a.0
chain_has rules chain faulty n (y ∷ ys) x a (inr h) = chain_has rules chain faulty n ys x a.1 h

pub accepted_right : (rules : Rules) (chain : List Block) (faulty : Node → Bool) (m : ℕ) → FewOrderers rules faulty → IsNumbered chain → (tip : List ℕ) (L : Log) → Sound rules chain faulty L → (b : Block) → accepted rules (suc m) tip L ≡ Some b → (m < length chain) × (b ≡ block_at chain m)
accepted_right rules chain faulty m orderers numbered tip L s b h =
    let goods = filter_map (newblock_in rules (suc m)) L in
    let es = first_of_each goods in
    let found = honest_among same_block (λ (c : Block). same_list same_number c.prev tip) rules.table.quorum es orderers.named b (distinct_senders goods) orderers.few h in
    let from = chain_has rules chain faulty (suc m) es found.0 (chain_first rules chain faulty (suc m) goods (goods_right rules chain faulty (suc m) L s)) found.1 in
    let r = from.1 (orderers.others found.0.0 from.0 found.2) in
    let k : r.1.0 ≡ m = let a = numbered r.1.0 r.1.1 in let c : (block_at chain r.1.0).number ≡ suc m = ap (λ (z : Block). z.number) (sym r.1.2) ∙ r.0 in omega arith in
    (subst (λ z. z < length chain) k r.1.1, (same_block_decides b found.0.1).0 found.4 ∙ (r.1.2 ∙ ap (block_at chain) k))

-- THE LEDGER

abbrev pub AllRight : List Outcome → List Standing → Type 0
AllRight [] [] = Unit {0}
AllRight (o ∷ os) (x ∷ xs) = IsRightAt o x × AllRight os xs
AllRight [] (x ∷ xs) = ⊥
AllRight (o ∷ os) [] = ⊥

right_push : (os : List Outcome) (xs : List Standing) (o : Outcome) (x : Standing) → AllRight os xs → IsRightAt o x → AllRight (os ++ o ∷ []) (xs ++ x ∷ [])
right_push [] [] o x a h = (h, tt)
right_push [] (y ∷ ys) o x a h = absurd a
right_push (p ∷ os) [] o x a h = absurd a
right_push (p ∷ os) (y ∷ ys) o x a h = (a.0, right_push os ys o x a.1 h)

pub standings_right : (rules : Rules) → IsLocal rules → (chain : List Block) (faulty : Node → Bool) (me m : ℕ) → IsTameAt rules chain faulty m → (opens : Log → Bool) → m < length chain → (L : Log) → Sound rules chain faulty L → (t : ℕ) → t ≤ length (block_at chain m).txns → AllRight (take t (serial_outcomes_at rules chain m)) (standings rules (chain_work rules chain me m opens) t L)
standings_right rules l chain faulty me m tame opens j L s zero k = tt
standings_right rules l chain faulty me m tame opens j L s (suc t) k =
    let few : t < length (serial_outcomes_at rules chain m) = omega (arith, length_serial rules (serial_base rules chain m) (block_at chain m).txns) in
    rw (take-suc (serial_outcomes_at rules chain m) t no_outcome few)
    (right_push (take t (serial_outcomes_at rules chain m)) (standings rules (chain_work rules chain me m opens) t L) (right_at rules chain m t) (standing rules (chain_work rules chain me m opens) t (standings rules (chain_work rules chain me m opens) t) L)
    (standings_right rules l chain faulty me m tame opens j L s t (omega arith))
    (standing_right rules l chain faulty me m t tame opens (standings rules (chain_work rules chain me m opens) t) j k (beliefs_right rules l chain faulty me m tame opens j t (omega arith)) L s))

-- all of a block's positions
pub block_right : (rules : Rules) → IsLocal rules → (chain : List Block) (faulty : Node → Bool) (me m : ℕ) → IsTameAt rules chain faulty m → (opens : Log → Bool) → m < length chain → (L : Log) → Sound rules chain faulty L → AllRight (serial_outcomes_at rules chain m) (standings rules (chain_work rules chain me m opens) (length (block_at chain m).txns) L)
block_right rules l chain faulty me m tame opens j L s =
    let n = length_serial rules (serial_base rules chain m) (block_at chain m).txns in
    subst (λ os. AllRight os (standings rules (chain_work rules chain me m opens) (length (block_at chain m).txns) L)) (take_all (length (block_at chain m).txns) (serial_outcomes_at rules chain m) (omega (arith, n)))
    (standings_right rules l chain faulty me m tame opens j L s (length (block_at chain m).txns) (omega arith))

outcomes_right : (os : List Outcome) (xs : List Standing) → AllRight os xs → list_all is_agreed xs ≡ true → map agreed_outcome xs ≡ os
outcomes_right [] [] a h = refl
outcomes_right [] (x ∷ xs) a h = absurd a
outcomes_right (o ∷ os) [] a h = absurd a
outcomes_right (o ∷ os) (x ∷ xs) a h =
    let p = and_parts (is_agreed x) (list_all is_agreed xs) h in
    let first : agreed_outcome x ≡ o = one x.agreed refl (and_parts (is_some x.agreed) (not (differs x)) p.0).0 in
    let rest = outcomes_right os xs a.1 p.1 in
    cc
  where
    one : (g : Option Outcome) → x.agreed ≡ g → is_some x.agreed ≡ true → agreed_outcome x ≡ o
    one None e i = absurd (false≢true (sym (ap is_some e) ∙ i))
    one (Some q) e i = ap (λ (z : Option Outcome). unwrap_or z no_outcome) e ∙ a.0.agreed q e

-- none differs
pub none_differs : (os : List Outcome) (xs : List Standing) → AllRight os xs → list_any differs xs ≡ false
none_differs [] [] a = refl
none_differs [] (x ∷ xs) a = absurd a
none_differs (o ∷ os) [] a = absurd a
none_differs (o ∷ os) (x ∷ xs) a = or_from (differs x) (list_any differs xs) (one x.ran x.agreed x.believed a.0.agreed a.0.believed) (none_differs os xs a.1)
  where
    one : (r : Bool) (g b : Option Outcome) → ((p : Outcome) → g ≡ Some p → p ≡ o) → ((p : Outcome) → b ≡ Some p → p ≡ o) → (r && unwrap_or (option_map (λ p. not (same_outcome p (unwrap_or b p))) g) false) ≡ false
    one false g b f h = refl
    one true None b f h = refl
    one true (Some p) None f h = ap not ((same_outcome_decides p p).1 refl)
    one true (Some p) (Some q) f h = ap not (subst (λ z. same_outcome p z ≡ true) (f p refl ∙ sym (h q refl)) ((same_outcome_decides p p).1 refl))

pub length_serial_ledger : (rules : Rules) (chain : List Block) (m : ℕ) → length (serial_ledger rules chain m) ≡ m
length_serial_ledger rules chain zero = refl
length_serial_ledger rules chain (suc m) = ap suc (length_serial_ledger rules chain m)

abbrev IsFront : Rules → List Block → List Entry → Type 0
IsFront rules chain d = (d ≡ serial_ledger rules chain (length d)) × (length d ≤ length chain)

closed_right : (rules : Rules) (chain : List Block) (m : ℕ) (xs : List Standing) → m < length chain → AllRight (serial_outcomes_at rules chain m) xs → IsFront rules chain (with_entry (block_at chain m) xs (serial_ledger rules chain m))
closed_right rules chain m xs j a = one (list_all is_agreed xs) refl
  where
    n : length (serial_ledger rules chain m) ≡ m
    n = length_serial_ledger rules chain m

    one : (c : Bool) → list_all is_agreed xs ≡ c → IsFront rules chain (cond c (record { block = block_at chain m; outcomes = map agreed_outcome xs } ∷ serial_ledger rules chain m) (serial_ledger rules chain m))
    one false e = (sym (ap (serial_ledger rules chain) n), omega (arith, n))
    one true e =
        let os = outcomes_right (serial_outcomes_at rules chain m) xs a e in
        (ap (λ (zs : List Outcome). record { block = block_at chain m; outcomes = zs } ∷ serial_ledger rules chain m) os ∙ sym (ap (λ k. serial_ledger rules chain (suc k)) n), omega (arith, n))

-- Completed blocks are the first blocks of the chain, with the serial outcomes.
abbrev LedgerRight : Rules → List Block → (Node → Bool) → ℕ → ℕ → Type 0
LedgerRight rules chain faulty me m = (L : Log) → Sound rules chain faulty L → (completed rules me m L ≡ serial_ledger rules chain (length (completed rules me m L))) × (length (completed rules me m L) ≤ length chain)

pub ledger_right : (rules : Rules) → IsLocal rules → (chain : List Block) (faulty : Node → Bool) → IsTameAll rules chain faulty → IsNumbered chain → (me m : ℕ) → LedgerRight rules chain faulty me m
ledger_right rules l chain faulty tame numbered me zero L s = (refl, omega arith)
ledger_right rules l chain faulty tame numbered me (suc m) L s = one (accepted_after rules m (completed rules me m L) L) refl (ledger_right rules l chain faulty tame numbered me m L s)
  where
    done : List Entry
    done = completed rules me m L

    one : (o : Option Block) → accepted_after rules m done L ≡ o → (done ≡ serial_ledger rules chain (length done)) × (length done ≤ length chain) → (completed_with rules me m (completed rules me m) L o ≡ serial_ledger rules chain (length (completed_with rules me m (completed rules me m) L o))) × (length (completed_with rules me m (completed rules me m) L o) ≤ length chain)
    one None q h = h
    one (Some b) q h = two (length done == m) refl q
      where
        two : (c : Bool) → (length done == m) ≡ c → cond c (accepted rules (suc m) (tip rules done) L) None ≡ Some b → (with_entry b (standings (in_force rules (completed rules me m L)) (work_on rules me m (completed rules me m) L b) (length b.txns) L) done ≡ serial_ledger rules chain (length (with_entry b (standings (in_force rules (completed rules me m L)) (work_on rules me m (completed rules me m) L b) (length b.txns) L) done))) × (length (with_entry b (standings (in_force rules (completed rules me m L)) (work_on rules me m (completed rules me m) L b) (length b.txns) L) done) ≤ length chain)
        two false e k = absurd (none-some b k)
        two true e k =
            let n : length done ≡ m = eqb-true (length done) m e in
            let acc = accepted_right (in_force rules (serial_ledger rules chain m)) chain faulty m (tame m).orderers numbered (tip rules done) L s b k in
            let d : done ≡ serial_ledger rules chain m = h.0 ∙ ap (serial_ledger rules chain) n in
            let opens : Log → Bool = λ K. is_some (accepted_after rules m (completed rules me m K) K) in
            let P : Block → List Entry → Type 0 = λ c ds. IsFront rules chain (with_entry c (standings (in_force rules ds) (record { me = me; n = suc m; txns = c.txns; base = ledger_state rules ds; opens = opens }) (length c.txns) L) ds) in
            let base : P (block_at chain m) (serial_ledger rules chain m) = closed_right rules chain m (standings (in_force rules (serial_ledger rules chain m)) (chain_work rules chain me m opens) (length (block_at chain m).txns) L) acc.0 (block_right (in_force rules (serial_ledger rules chain m)) l chain faulty me m (tame m) opens acc.0 L s) in
            subst (λ c. P c done) (sym acc.1) (subst (λ ds. P (block_at chain m) ds) (sym d) base)
