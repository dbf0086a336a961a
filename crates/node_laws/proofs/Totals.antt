-- How much a peer sends: no more COMMITs in all than the pool's NEWBLOCKs carry transactions.
use Rattle.std.specs.Prelude.{ℕ, ◌==◌, ◌+◌, ◌<◌, ◌≤◌, ◌≡◌, Bool, true, false, ◌&&◌, cond, List, [], ◌∷◌, map, length, filter_map, Option, Some, None, is_some, zero, suc, refl, nat_lt, count_by}
use Rattle.std.specs.List.{list_any, cons_option}
use Rattle.std.specs.Option.{option_or}
use Rattle.std.proofs.Common.{sym, ◌∙◌, ap, arith, subst, inl, inr}
use Rattle.std.proofs.lemmas.Bool.{eqb-true, eq-eqb, and_parts}
use Rattle.std.proofs.lemmas.Option.{none-some, cond_some}
use Rattle.std.proofs.lemmas.List.{length-append}
use Rattle.txn_types.specs.declared.message.Message.TheVariants as message
use Rattle.node_defs.specs.Accepted.{accepted, accepted_after, tip}
use Rattle.node_defs.specs.Counting.{first_of_each, first_to_reach}
use Rattle.node_defs.specs.Ledger.{completed, heard, is_split, ledger_state, work_on, accepted_at}
use Rattle.node_defs.specs.Log.{Letter, Log, first_newblocks, is_good, newblock_from, newblock_in}
use Rattle.node_defs.specs.Position.{Work}
use Rattle.node_defs.specs.Rules.{IsLocal, Rules, in_force}
use Rattle.node_defs.specs.Same.{same_block, same_list, same_number}
use Rattle.node_defs.specs.Sent.{batches, run_order, sent_in, sent_of, sent_upto, sent_with}
use Rattle.node_laws.proofs.Batches.{batches_bound, sent_few}
use Rattle.node_laws.proofs.Counting.{keep_member}
use Rattle.node_laws.proofs.Growing.{LedgerGrows, after_keeps, ledger_grows, stays_open}
use Rattle.node_laws.proofs.Whole.{carried, carries}
use Rattle.node_laws.specs.Fed.{Has, IsOf, total}
use Rattle.node_laws.specs.OneWorld.{txns_carried, txns_carried_by}
use Rattle.oxii_defs.specs.Lines.{Entry}
use Rattle.txn_types.specs.declared.block.Block.{Block}
use Rattle.txn_types.specs.declared.message.Message.{Message}
use Rattle.txn_types.specs.declared.message.Node.{Node}
use Rattle.txn_types.specs.declared.message.Node.TheVariants.{Orderer, Peer}

-- THE TRANSACTIONS OF ONE NUMBER

-- the transactions that the NEWBLOCKs with number n carry together
abbrev pub of_number : ℕ → List Letter → ℕ
of_number n [] = 0
of_number n (x ∷ rest) = cond (carries x == n) (txns_carried_by x.message) 0 + of_number n rest

-- of the numbers 1 to k
abbrev pub of_numbers : ℕ → List Letter → ℕ
of_numbers zero pool = 0
of_numbers (suc k) pool = of_number (suc k) pool + of_numbers k pool

abbrev once : ℕ → ℕ → ℕ → ℕ
once c v zero = 0
once c v (suc k) = cond (c == suc k) v 0 + once c v k

none_below : (c v k : ℕ) → k < c → once c v k ≡ 0
none_below c v zero h = refl
none_below c v (suc k) h = one (c == suc k) refl (none_below c v k (omega arith))
  where
    one : (b : Bool) → (c == suc k) ≡ b → once c v k ≡ 0 → cond b v 0 + once c v k ≡ 0
    one true e z = let q : c ≡ suc k = eqb-true c (suc k) e in absurd (omega arith)
    one false e z = omega arith

at_most_once : (c v k : ℕ) → once c v k ≤ v
at_most_once c v zero = omega arith
at_most_once c v (suc k) = one (c == suc k) refl (at_most_once c v k)
  where
    one : (b : Bool) → (c == suc k) ≡ b → once c v k ≤ v → cond b v 0 + once c v k ≤ v
    one true e z = let q : c ≡ suc k = eqb-true c (suc k) e in omega (arith, none_below c v k (omega arith))
    one false e z = omega arith

numbers_split : (k : ℕ) (x : Letter) (rest : List Letter) → of_numbers k (x ∷ rest) ≡ once (carries x) (txns_carried_by x.message) k + of_numbers k rest
numbers_split zero x rest = refl
numbers_split (suc k) x rest = let e = numbers_split k x rest in omega arith

numbers_none : (k : ℕ) → of_numbers k [] ≡ 0
numbers_none zero = refl
numbers_none (suc k) = let e = numbers_none k in omega arith

pub all_numbers : (k : ℕ) (pool : List Letter) → of_numbers k pool ≤ txns_carried pool
all_numbers k [] = omega (arith, numbers_none k)
all_numbers k (x ∷ rest) = omega (arith, numbers_split k x rest, at_most_once (carries x) (txns_carried_by x.message) k, all_numbers k rest)

-- a letter of the pool is counted
pub counted_there : (n : ℕ) (pool : List Letter) (x : Letter) → Has x pool → carries x ≡ n → txns_carried_by x.message ≤ of_number n pool
counted_there n [] x h e = absurd h
counted_there n (y ∷ rest) x (inl i) e =
    let q : (carries y == n) ≡ true = eq-eqb (carries y) n (ap carries (sym i) ∙ e) in
    let r : cond (carries y == n) (txns_carried_by y.message) 0 ≡ txns_carried_by x.message = ap (λ b. cond b (txns_carried_by y.message) 0) q ∙ ap (λ (z : Letter). txns_carried_by z.message) (sym i) in
    omega arith
counted_there n (y ∷ rest) x (inr i) e = let r = counted_there n rest x i e in omega arith

-- THE LETTER OF AN ACCEPTED BLOCK

reached_has : {A : Type 0} (same : A → A → Bool) (q : ℕ) (xs : List A) (x : A) → first_to_reach same q xs ≡ Some x → Has x xs
reached_has same q [] x h = absurd (none-some x h)
reached_has {A} same q (y ∷ before) x h = one (first_to_reach same q before) h (reached_has same q before x)
  where
    one : (o : Option A) → option_or o (cond (count_by (same y) (y ∷ before) == q) (Some y) None) ≡ Some x → (o ≡ Some x → Has x before) → Has x (y ∷ before)
    one (Some z) e r = inr (r e)
    one None e r = inl (sym (cond_some (count_by (same y) (y ∷ before) == q) y x e).1)

has_map : {A : Type 0} (xs : List (ℕ × A)) (b : A) → Has b (map (λ (x : ℕ × A). x.1) xs) → (o : ℕ) × Has (o, b) xs
has_map [] b h = absurd h
has_map {A} (x ∷ xs) b (inl e) = (x.0, inl (paired x b e))
  where
    paired : (x : ℕ × A) (b : A) → b ≡ x.1 → (x.0, b) ≡ x
    paired x b e = ap (λ (c : A). (x.0, c)) e
has_map (x ∷ xs) b (inr h) = let r = has_map xs b h in (r.0, inr r.1)

has_first : {A : Type 0} (xs : List (ℕ × A)) (x : ℕ × A) → Has x (first_of_each xs) → Has x xs
has_first [] x h = h
has_first {A} (y ∷ ys) x h = one (list_any (λ z. z.0 == y.0) ys) h (has_first ys x)
  where
    one : (b : Bool) → Has x (cond b (first_of_each ys) (y ∷ first_of_each ys)) → (Has x (first_of_each ys) → Has x ys) → Has x (y ∷ ys)
    one true h r = inr (r h)
    one false (inl e) r = inl e
    one false (inr h) r = inr (r h)

has_made : (f : Letter → Option (ℕ × Block)) (L : Log) (x : ℕ × Block) → Has x (filter_map f L) → (e : Letter) × Has e L × (f e ≡ Some x)
has_made f [] x h = absurd h
has_made f (e ∷ L) x h = one (f e) refl h (has_made f L x)
  where
    one : (o : Option (ℕ × Block)) → f e ≡ o → Has x (cons_option o (filter_map f L)) → (Has x (filter_map f L) → (e : Letter) × Has e L × (f e ≡ Some x)) → (d : Letter) × Has d (e ∷ L) × (f d ≡ Some x)
    one None q h r = let k = r h in (k.0, inr k.1, k.2)
    one (Some y) q (inl i) r = (e, inl refl, q ∙ ap Some (sym i))
    one (Some y) q (inr h) r = let k = r h in (k.0, inr k.1, k.2)

good_carries : (rules : Rules) (n : ℕ) (e : Letter) (x : ℕ × Block) → newblock_in rules n e ≡ Some x → (carries e ≡ n) × (txns_carried_by e.message ≡ length x.1.txns)
good_carries rules n e x h = from e.from e.message h
  where
    from : (y : Node) (msg : Message) → newblock_from rules n y msg ≡ Some x → (carried msg ≡ n) × (txns_carried_by msg ≡ length x.1.txns)
    from (Peer p) (message.NewBlock m) k = absurd (none-some x k)
    from (Peer p) (message.Commit c) k = absurd (none-some x k)
    from (Orderer o) (message.Commit c) k = absurd (none-some x k)
    from (Orderer o) (message.NewBlock m) k =
        let q = cond_some (is_good rules n o m) (o, m.block) x k in
        let p = and_parts (nat_lt o (length rules.table.orderers) && (m.block.number == n)) _ q.0 in
        let r = and_parts (nat_lt o (length rules.table.orderers)) (m.block.number == n) p.0 in
        (eqb-true m.block.number n r.1, ap (λ (z : ℕ × Block). length z.1.txns) q.1)

accepted_fits : (rules : Rules) (n : ℕ) (tip : List ℕ) (L : Log) (pool : List Letter) → IsOf pool L → (b : Block) → accepted rules n tip L ≡ Some b → length b.txns ≤ of_number n pool
accepted_fits rules n tip L pool sub b h =
    let one = reached_has same_block rules.table.quorum _ b h in
    let two = (keep_member (λ (c : Block). same_list same_number c.prev tip) (map (λ (x : ℕ × Block). x.1) (first_newblocks rules n L)) b one).0 in
    let three = has_map (first_newblocks rules n L) b two in
    let four = has_made (newblock_in rules n) L (three.0, b) (has_first (filter_map (newblock_in rules n) L) (three.0, b) three.1) in
    let five = good_carries rules n four.0 (three.0, b) four.2 in
    omega (arith, five.1, counted_there n pool four.0 (sub four.0 four.1) five.0)

-- BATCHES OF ALL BLOCKS

abbrev batches_with : Rules → ℕ → ℕ → Log → Option Block → ℕ
batches_with rules me m L None = 0
batches_with rules me m L (Some b) =
    let r = in_force rules (completed rules me m L) in
    let w = work_on rules me m (completed rules me m) L b in
    length (batches r w (run_order r w L))

-- how many batches block m + 1 has
abbrev pub batches_at : Rules → ℕ → ℕ → Log → ℕ
batches_at rules me m L = batches_with rules me m L (accepted_at rules me m L)

abbrev pub batches_upto : Rules → ℕ → ℕ → Log → ℕ
batches_upto rules me zero L = 0
batches_upto rules me (suc m) L = batches_at rules me m L + batches_upto rules me m L

sent_at : (rules : Rules) → IsLocal rules → (me m : ℕ) (e : Letter) (L : Log) → length (sent_in rules me m e L) + batches_at rules me m L ≤ batches_at rules me m (e ∷ L)
sent_at rules l me m e L = one (accepted_at rules me m L) refl
  where
    g : LedgerGrows rules me m
    g = ledger_grows rules l me m

    late : (o : Option Block) → length (sent_with rules me m e L o) ≤ batches_with rules me m (e ∷ L) o
    late None = omega arith
    late (Some b) =
        let r = in_force rules (completed rules me m (e ∷ L)) in
        let w = work_on rules me m (completed rules me m) (e ∷ L) b in
        omega (arith, sent_few r l w (stays_open rules me m (ledger_grows rules l me m) (e ∷ L) b) e L)

    one : (o : Option Block) → accepted_at rules me m L ≡ o → length (sent_in rules me m e L) + batches_with rules me m L o ≤ batches_at rules me m (e ∷ L)
    one None q = let h = late (accepted_at rules me m (e ∷ L)) in omega arith
    one (Some b) q =
        let k = after_keeps rules me m (ledger_grows rules l me m) e L b q in
        let r = in_force rules (completed rules me m L) in
        let w = work_on rules me m (completed rules me m) L b in
        let x = length (batches r w (run_order r w L)) in
        let opens : Log → Bool = λ K. is_some (accepted_after rules m (completed rules me m K) K) in
        let of : List Entry → Work = λ ds. record { me = me; n = suc m; txns = b.txns; base = ledger_state rules ds; opens = opens } in
        let P : List Entry → Type 0 = λ ds. length (sent_of (in_force rules ds) (of ds) e L) + x ≤ length (batches (in_force rules ds) (of ds) (run_order (in_force rules ds) (of ds) (e ∷ L))) in
        let Q : Option Block → Type 0 = λ o. length (sent_with rules me m e L o) + x ≤ batches_with rules me m (e ∷ L) o in
        subst Q (sym k.0) (subst P (sym k.1) (sent_few r l w (stays_open rules me m (ledger_grows rules l me m) L b) e L))

sent_all : (rules : Rules) → IsLocal rules → (me n : ℕ) (e : Letter) (L : Log) → length (sent_upto rules me n e L) + batches_upto rules me n L ≤ batches_upto rules me n (e ∷ L)
sent_all rules l me zero e L = omega arith
sent_all rules l me (suc m) e L = omega (arith, sent_all rules l me m e L, sent_at rules l me m e L, length-append (sent_upto rules me m e L) (sent_in rules me m e L))

total_few : (rules : Rules) → IsLocal rules → (me : ℕ) (L : Log) → total rules me L ≤ batches_upto rules me (length L) L
total_few rules l me [] = omega arith
total_few rules l me (e ∷ L) = one (is_split rules me (heard rules me L)) (total_few rules l me L) (sent_all rules l me (suc (length L)) e L)
  where
    one : (b : Bool) → total rules me L ≤ batches_upto rules me (length L) L → length (sent_upto rules me (suc (length L)) e L) + batches_upto rules me (suc (length L)) L ≤ batches_upto rules me (suc (length L)) (e ∷ L) →
        length (cond b [] (sent_upto rules me (suc (length L)) e L)) + total rules me L ≤ batches_upto rules me (suc (length L)) (e ∷ L)
    one true h k = omega arith
    one false h k = omega arith

batches_fit : (rules : Rules) → IsLocal rules → (me m : ℕ) (L : Log) (pool : List Letter) → IsOf pool L → batches_at rules me m L ≤ of_number (suc m) pool
batches_fit rules l me m L pool sub = one (accepted_at rules me m L) refl
  where
    of_block : (b : Block) → (c : Bool) → cond c (accepted rules (suc m) (tip rules (completed rules me m L)) L) None ≡ Some b → length b.txns ≤ of_number (suc m) pool
    of_block b false k = absurd (none-some b k)
    of_block b true k = accepted_fits rules (suc m) (tip rules (completed rules me m L)) L pool sub b k

    one : (o : Option Block) → accepted_at rules me m L ≡ o → batches_with rules me m L o ≤ of_number (suc m) pool
    one None q = omega arith
    one (Some b) q =
        let r = in_force rules (completed rules me m L) in
        let w = work_on rules me m (completed rules me m) L b in
        omega (arith, of_block b (length (completed rules me m L) == m) q, batches_bound r l w (stays_open rules me m (ledger_grows rules l me m) L b) L)

upto_fit : (rules : Rules) → IsLocal rules → (me n : ℕ) (L : Log) (pool : List Letter) → IsOf pool L → batches_upto rules me n L ≤ of_numbers n pool
upto_fit rules l me zero L pool sub = omega arith
upto_fit rules l me (suc m) L pool sub = omega (arith, upto_fit rules l me m L pool sub, batches_fit rules l me m L pool sub)

pub total_fits : (rules : Rules) → IsLocal rules → (me : ℕ) (L : Log) (pool : List Letter) → IsOf pool L → total rules me L ≤ txns_carried pool
total_fits rules l me L pool sub = omega (arith, total_few rules l me L, upto_fit rules l me (length L) L pool sub, all_numbers (length L) pool)
