-- Few enough nodes are faulty, as the counting of senders uses it.
use Rattle.std.specs.Prelude.{ℕ, ◌+◌, ◌<◌, ◌≤◌, ◌≡◌, Bool, true, false, cond, List, [], ◌∷◌, map, length, filter, count_by, suc, zero, refl, ◌==◌, ◌||◌, ◌⊎◌}
use Rattle.std.specs.List.{All}
use Rattle.std.specs.Set.{is_member}
use Rattle.std.proofs.Common.{eqb, sym, ◌∙◌, ap, arith, subst, inl, inr}
use Rattle.std.proofs.lemmas.Bool.{or_cases, false≢true, eqb-true, eq-eqb, cases_lt}
use Rattle.std.proofs.lemmas.List.Sums.{length-filter}
use Rattle.known_defs.specs.Known.{no_txn, txn_at}
use Rattle.node_defs.specs.Position.{is_agent}
use Rattle.node_defs.specs.Rules.{Rules, agents_behind, in_force, in_force_behind}
use Rattle.oxii_defs.specs.State.{contains}
use Rattle.node_defs.specs.Serial.{serial_ledger}
use Rattle.node_defs.specs.Blocks.{block_at}
use Rattle.node_defs.specs.Tame.{IsTame, first_blocks, rules_at}
use Rattle.node_defs.specs.World.{Setting, count_from, is_faulty, orderers_of}
use Rattle.node_laws.proofs.Same.{or_true}
use Rattle.oxii_defs.specs.Lines.{Entry}
use Rattle.txn_types.specs.declared.block.Block.{Block}
use Rattle.txn_types.specs.declared.message.Node.{Node}
use Rattle.txn_types.specs.declared.message.Node.TheVariants.{Orderer, Peer}
use Rattle.txn_types.specs.declared.txn.Txn.{Txn}

-- these are all faulty orderers of the table, and fewer than a quorum
pub record FewOrderers (rules : Rules) (faulty : Node → Bool) : Type 0 where
  pub named : List ℕ
  pub few : length named < rules.table.quorum
  pub others : (o : ℕ) → o < length rules.table.orderers → is_member eqb named o ≡ false → faulty (Orderer o) ≡ false

-- these are all faulty agents of t's application, and fewer than are to agree
pub record FewAgents (rules : Rules) (faulty : Node → Bool) (t : Txn) : Type 0 where
  pub named : List ℕ
  pub few : length named < rules.tau t.app
  pub others : (p : ℕ) → is_agent rules p t ≡ true → is_member eqb named p ≡ false → faulty (Peer p) ≡ false

-- at block m + 1 of a chain
pub record IsTameAt (rules : Rules) (chain : List Block) (faulty : Node → Bool) (m : ℕ) : Type 0 where
  pub orderers : FewOrderers rules faulty
  pub agents : (t : ℕ) → m < length chain → t < length (block_at chain m).txns → FewAgents rules faulty (txn_at (block_at chain m).txns t)

-- at each block, with what is in force there
abbrev pub IsTameAll : Rules → List Block → (Node → Bool) → Type 0
IsTameAll rules chain faulty = (m : ℕ) → IsTameAt (in_force rules (serial_ledger rules chain m)) chain faulty m

-- FROM THE INPUT

kept : (p : ℕ → Bool) (xs : List ℕ) (x : ℕ) → contains xs x ≡ true → p x ≡ true → is_member eqb (filter p xs) x ≡ true
kept p [] x h k = absurd (false≢true h)
kept p (y ∷ ys) x h k = one (p y) refl (or_cases (x == y) (contains ys x) h) (λ i. kept p ys x i k)
  where
    one : (b : Bool) → p y ≡ b → ((x == y) ≡ true) ⊎ (contains ys x ≡ true) → (contains ys x ≡ true → is_member eqb (filter p ys) x ≡ true) → is_member eqb (cond b (y ∷ filter p ys) (filter p ys)) x ≡ true
    one true e (inl i) more = ap (λ b. b || is_member eqb (filter p ys) x) (eq-eqb x y (eqb-true x y i))
    one true e (inr i) more = ap (λ b. eqb x y || b) (more i) ∙ or_true (eqb x y)
    one false e (inl i) more = absurd (false≢true (sym e ∙ (ap p (sym (eqb-true x y i)) ∙ k)))
    one false e (inr i) more = more i

-- what isn't among those of a list that pass a test, but is in the list, doesn't pass
pub fails : (p : ℕ → Bool) (xs : List ℕ) (x : ℕ) → contains xs x ≡ true → is_member eqb (filter p xs) x ≡ false → p x ≡ false
fails p xs x h out = one (p x) refl
  where
    one : (b : Bool) → p x ≡ b → p x ≡ false
    one false e = e
    one true e = absurd (false≢true (sym out ∙ kept p xs x h e))

pub counted : (i n x : ℕ) → i ≤ x → x < i + n → contains (count_from i n) x ≡ true
counted i zero x l h = absurd (omega arith)
counted i (suc n) x l h = one (x == i) refl (λ a b. counted (suc i) n x a b)
  where
    one : (b : Bool) → (x == i) ≡ b → (suc i ≤ x → x < suc i + n → contains (count_from (suc i) n) x ≡ true) → (b || contains (count_from (suc i) n) x) ≡ true
    one true e more = refl
    one false e more = more (later (cases_lt i x)) (omega arith)
      where
        later : (i < x) ⊎ (x ≤ i) → suc i ≤ x
        later (inl k) = omega arith
        later (inr k) = let q : x ≡ i = omega arith in absurd (false≢true (sym e ∙ eq-eqb x i q))

-- the blocks of a serial ledger are the first of the chain
pub same_blocks : (rules : Rules) (chain : List Block) (m : ℕ) → map (λ (e : Entry). e.block) (serial_ledger rules chain m) ≡ first_blocks chain m
same_blocks rules chain zero = refl
same_blocks rules chain (suc m) = ap (λ bs. block_at chain m ∷ bs) (same_blocks rules chain m)

-- any nodes that are few at each block of the chain are few by what is in force there
pub few_all : (s : Setting) (liar : Node → Bool) → count_by (λ o. liar (Orderer o)) (count_from 0 (orderers_of s)) < s.rules.table.quorum →
    ((m : ℕ) → m < length s.chain → All (λ t. count_by (λ p. liar (Peer p)) ((rules_at s m).agents t.app) < (rules_at s m).tau t.app) (block_at s.chain m).txns) → IsTameAll s.rules s.chain liar
few_all s liar orderers agents m = record { orderers = by_orderers; agents = λ t j k. subst (λ bs. FewAgents (in_force_behind s.rules bs) liar (txn_at (block_at s.chain m).txns t)) (sym (same_blocks s.rules s.chain m)) (by_agents t j k) }
  where
    by_orderers : FewOrderers (in_force s.rules (serial_ledger s.rules s.chain m)) liar
    by_orderers = record {
      named = filter (λ o. liar (Orderer o)) (count_from 0 (orderers_of s));
      few = omega (arith, orderers, length-filter (λ o. liar (Orderer o)) (count_from 0 (orderers_of s)));
      others = λ o l out. fails (λ o. liar (Orderer o)) (count_from 0 (orderers_of s)) o (counted 0 (orderers_of s) o (omega arith) (omega (arith, l))) out;
    }

    by_agents : (t : ℕ) → m < length s.chain → t < length (block_at s.chain m).txns → FewAgents (in_force_behind s.rules (first_blocks s.chain m)) liar (txn_at (block_at s.chain m).txns t)
    by_agents t j k = record {
      named = filter (λ p. liar (Peer p)) (agents_behind s.rules (first_blocks s.chain m) (txn_at (block_at s.chain m).txns t).app);
      few = omega (arith, agents m j t no_txn k, length-filter (λ p. liar (Peer p)) (agents_behind s.rules (first_blocks s.chain m) (txn_at (block_at s.chain m).txns t).app));
      others = λ p a out. fails (λ p. liar (Peer p)) (agents_behind s.rules (first_blocks s.chain m) (txn_at (block_at s.chain m).txns t).app) p a out;
    }

-- those that are faulty, where the input is tame
pub tame_all : (s : Setting) → IsTame s → IsTameAll s.rules s.chain (is_faulty s)
tame_all s h = few_all s (is_faulty s) h.orderers h.agents
