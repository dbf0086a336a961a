-- The ledger is whole: a log has no more completed blocks than entries
use Rattle.txn_types.specs.declared.message.Message.TheVariants as message
use Rattle.std.specs.Prelude.{ℕ, ◌==◌, ◌+◌, ◌<◌, ◌≤◌, ◌≡◌, Bool, true, false, ◌&&◌, cond, List, [], ◌∷◌, map, length, filter_map, Option, Some, None, zero, suc, refl}
use Rattle.std.specs.List.{AllByRecursion, IsDistinct, list_all}
use Rattle.std.specs.Set.{is_member}
use Rattle.std.specs.Cmp.{nat_eq_equiv}
use Rattle.std.proofs.Common.{sym, ◌∙◌, ap, arith, eqb, inl, inr, ⊎_elim, zero-add, ◌⊎◌}
use Rattle.std.proofs.lemmas.Bool.{false≢true, eq-eqb, ne_eqb, eqb-true, or_parts, or_cases}
use Rattle.std.proofs.lemmas.Option.{none-some}
use Rattle.std.proofs.lemmas.List.{length-map}
use Rattle.std.proofs.lemmas.Map.Made.{length-le_from_is_member}
use Rattle.node_defs.specs.Accepted.{accepted, accepted_after, tip}
use Rattle.node_defs.specs.Ledger.{agreed_outcome, with_entry, completed, completed_with, is_agreed, ledger, work_on}
use Rattle.node_defs.specs.Log.{Letter, Log, newblock_from, newblock_in}
use Rattle.node_defs.specs.Position.{Standing, standings}
use Rattle.node_defs.specs.Rules.{Rules, in_force}
use Rattle.node_laws.proofs.Growing.{completed_few}
use Rattle.oxii_defs.specs.Lines.{Entry}
use Rattle.txn_types.specs.declared.block.Block.{Block}
use Rattle.txn_types.specs.declared.message.Message.{Message}
use Rattle.txn_types.specs.declared.message.Node.{Node}
use Rattle.txn_types.specs.declared.message.Node.TheVariants.{Orderer, Peer}

-- the number of the block that an entry carries, or 0
abbrev pub carried : Message → ℕ
carried (message.NewBlock m) = m.block.number
carried (message.Commit c) = 0

abbrev pub carries : Letter → ℕ
carries e = carried e.message

-- the numbers from n down to 1
abbrev pub down : ℕ → List ℕ
down zero = []
down (suc n) = suc n ∷ down n

below : (n k : ℕ) → n < k → AllByRecursion (λ y. eqb k y ≡ false) (down n)
below zero k h = tt
below (suc n) k h = (ne_eqb k (suc n) (λ e. absurd (omega arith)), below n k (omega arith))

pub distinct_down : (n : ℕ) → IsDistinct eqb (down n)
unfolding IsDistinct
distinct_down zero = tt
distinct_down (suc n) = (below n (suc n) (omega arith), distinct_down n)

abbrev pub numbers : Log → List ℕ
numbers L = map carries L

-- an entry that doesn't carry n isn't a good NEWBLOCK for n
pub not_good : (rules : Rules) (n : ℕ) (e : Letter) → eqb n (carries e) ≡ false → newblock_in rules n e ≡ None
not_good rules n e h = from e.from e.message h
  where
    test : (a b c : Bool) (x : Option (ℕ × Block)) → b ≡ false → cond ((a && b) && c) x None ≡ None
    test true b c x k = rw k refl
    test false b c x k = refl

    turned : (a b : ℕ) → eqb a b ≡ false → (b == a) ≡ false
    turned a b k = ne_eqb b a (λ q. false≢true (sym k ∙ eq-eqb a b (sym q)))

    from : (x : Node) (msg : Message) → eqb n (carried msg) ≡ false → newblock_from rules n x msg ≡ None
    from (Peer p) msg k = refl
    from (Orderer o) (message.Commit c) k = refl
    from (Orderer o) (message.NewBlock m) k = test _ (m.block.number == n) _ _ (turned n m.block.number k)

pub no_goods : (rules : Rules) (n : ℕ) (L : Log) → is_member eqb (numbers L) n ≡ false → filter_map (newblock_in rules n) L ≡ []
no_goods rules n [] h = refl
no_goods rules n (e ∷ L) h =
    let p = or_parts (eqb n (carries e)) (is_member eqb (numbers L) n) h in
    rw (not_good rules n e p.0) (no_goods rules n L p.1)

pub accepted_member : (rules : Rules) (m : ℕ) (done : List Entry) (L : Log) (b : Block) → accepted_after rules m done L ≡ Some b → (length done ≡ m) × (is_member eqb (numbers L) (suc m) ≡ true)
accepted_member rules m done L b h = one (length done == m) refl h
  where
    two : (c : Bool) → is_member eqb (numbers L) (suc m) ≡ c → accepted rules (suc m) (tip rules done) L ≡ Some b → is_member eqb (numbers L) (suc m) ≡ true
    two true e k = e
    two false e k = absurd (none-some b (sym (rw (no_goods rules (suc m) L e) refl) ∙ k))

    one : (c : Bool) → (length done == m) ≡ c → cond c (accepted rules (suc m) (tip rules done) L) None ≡ Some b → (length done ≡ m) × (is_member eqb (numbers L) (suc m) ≡ true)
    one false e k = absurd (none-some b k)
    one true e k = (eqb-true (length done) m e, two (is_member eqb (numbers L) (suc m)) refl k)

-- the next block is completed only where an entry carries its number, and all before it are completed
pub step : (rules : Rules) (me m : ℕ) (L : Log) → (completed rules me (suc m) L ≡ completed rules me m L) ⊎ ((length (completed rules me m L) ≡ m) × (is_member eqb (numbers L) (suc m) ≡ true))
step rules me m L = one (accepted_after rules m (completed rules me m L) L) refl
  where
    one : (o : Option Block) → accepted_after rules m (completed rules me m L) L ≡ o → (completed_with rules me m (completed rules me m) L o ≡ completed rules me m L) ⊎ ((length (completed rules me m L) ≡ m) × (is_member eqb (numbers L) (suc m) ≡ true))
    one None q = inl refl
    one (Some b) q = inr (accepted_member rules m (completed rules me m L) L b q)

pub all_members : (rules : Rules) (me n : ℕ) (L : Log) → length (completed rules me n L) ≡ n → (q : ℕ) → is_member eqb (down n) q ≡ true → is_member eqb (numbers L) q ≡ true
all_members rules me zero L h q k = absurd (false≢true k)
all_members rules me (suc n) L h q k = ⊎_elim (λ same. absurd (omega (arith, ap length same, completed_few rules me n L, h))) (λ p. ⊎_elim (λ e. ap (is_member eqb (numbers L)) (eqb-true q (suc n) e) ∙ p.1) (λ e. all_members rules me n L p.0 q e) (or_cases (eqb q (suc n)) (is_member eqb (down n) q) k)) (step rules me n L)

pub length_down : (n : ℕ) → length (down n) ≡ n
length_down zero = refl
length_down (suc n) = ap suc (length_down n)

pub few_blocks : (rules : Rules) (me n : ℕ) (L : Log) → length (completed rules me n L) ≡ n → n ≤ length L
few_blocks rules me n L h = omega (arith, length-le_from_is_member nat_eq_equiv (down n) (numbers L) (distinct_down n) (all_members rules me n L h), length_down n, length-map L carries)

pub grown : (rules : Rules) (me m : ℕ) (L : Log) → length (completed rules me m L) ≡ m → (completed rules me (suc m) L ≡ completed rules me m L) ⊎ (length (completed rules me (suc m) L) ≡ suc m)
grown rules me m L h = one (accepted_after rules m (completed rules me m L) L)
  where
    one : (o : Option Block) → (completed_with rules me m (completed rules me m) L o ≡ completed rules me m L) ⊎ (length (completed_with rules me m (completed rules me m) L o) ≡ suc m)
    one None = inl refl
    one (Some b) = two (standings (in_force rules (completed rules me m L)) (work_on rules me m (completed rules me m) L b) (length b.txns) L)
      where
        two : (all : List Standing) → (with_entry b all (completed rules me m L) ≡ completed rules me m L) ⊎ (length (with_entry b all (completed rules me m L)) ≡ suc m)
        two all = elim (list_all is_agreed all) as (λ t. (cond t (record { block = b; outcomes = map agreed_outcome all } ∷ completed rules me m L) (completed rules me m L) ≡ completed rules me m L) ⊎ (length (cond t (record { block = b; outcomes = map agreed_outcome all } ∷ completed rules me m L) (completed rules me m L)) ≡ suc m)) [ true ↦ inr (ap suc h) | false ↦ inl refl ]

-- more turns complete nothing more
pub ledger_whole : (rules : Rules) (me more : ℕ) (L : Log) → completed rules me (more + length L) L ≡ ledger rules me L
ledger_whole rules me zero L = ap (λ n. completed rules me n L) (zero-add (length L))
ledger_whole rules me (suc more) L =
    let e : suc more + length L ≡ suc (more + length L) = omega arith in
    ap (λ n. completed rules me n L) e ∙ (⊎_elim (λ same. same) (λ p. over p) (step rules me (more + length L) L) ∙ ledger_whole rules me more L)
  where
    over : (length (completed rules me (more + length L) L) ≡ more + length L) × (is_member eqb (numbers L) (suc (more + length L)) ≡ true) → completed rules me (suc (more + length L)) L ≡ completed rules me (more + length L) L
    over p = ⊎_elim (λ same. same) (λ grew. absurd (omega (arith, few_blocks rules me (suc (more + length L)) L grew))) (grown rules me (more + length L) L p.0)
