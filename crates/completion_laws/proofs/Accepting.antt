-- The next block of the chain is accepted, where a quorum of orderers that aren't faulty said it.
use Rattle.txn_types.specs.declared.message.Message.TheVariants as message
use Rattle.std.proofs.lemmas.Bool.Decides.{nat_tests}
use Rattle.std.specs.Prelude.{nat_lt, ℕ, ◌==◌, ◌<◌, ◌≤◌, Bool, true, false, cond, List, [], ◌∷◌, length, filter_map, Option, Some, None, is_some, ◌≡◌, refl, suc}
use Rattle.std.specs.List.{IsDistinct, cons_option}
use Rattle.std.specs.Set.{is_member}
use Rattle.std.proofs.Common.{sym, ◌∙◌, ap, subst, inl, inr, arith, eqb}
use Rattle.std.proofs.lemmas.Bool.{and_from, eq-eqb, false≢true}
use Rattle.node_defs.specs.Accepted.{accepted}
use Rattle.node_defs.specs.Counting.{first_of_each}
use Rattle.node_defs.specs.Log.{Letter, Log, is_good, newblock_in}
use Rattle.node_defs.specs.Rules.{Rules}
use Rattle.node_defs.specs.Same.{same_block, same_list, same_number}
use Rattle.node_defs.specs.Serial.{IsNumbered}
use Rattle.node_defs.specs.Blocks.{block_at}
use Rattle.node_defs.proofs.SameLemmas.{same_block_decides, same_list_decides, same_number_decides}
use Rattle.node_laws.proofs.Agree.{Sound, accepted_right}
use Rattle.node_laws.specs.Fed.{Has}
use Rattle.node_laws.proofs.Few.{FewOrderers}
use Rattle.oxii_defs.specs.Dependency.{graph_of}
use Rattle.txn_types.specs.declared.block.Block.{Block}
use Rattle.txn_types.specs.declared.message.Node.{Node}
use Rattle.txn_types.specs.declared.message.Node.TheVariants.{Orderer}
use Rattle.completion_laws.proofs.Enough.{enough, first_has}
use Rattle.node_laws.proofs.Agree.{chain_first, chain_has, goods_right}

pub has_filter_map : {A B : Type 0} (f : A → Option B) (xs : List A) (x : A) (y : B) → Has x xs → f x ≡ Some y → Has y (filter_map f xs)
has_filter_map f [] x y h e = absurd h
has_filter_map {A} {B} f (z ∷ xs) x y (inl i) e = one (f z) (ap f (sym i) ∙ e)
  where
    one : (o : Option B) → o ≡ Some y → Has y (cons_option o (filter_map f xs))
    one o q = subst (λ (p : Option B). Has y (cons_option p (filter_map f xs))) (sym q) (inl refl)
has_filter_map {A} {B} f (z ∷ xs) x y (inr i) e = one (f z) (has_filter_map f xs x y i e)
  where
    one : (o : Option B) → Has y (filter_map f xs) → Has y (cons_option o (filter_map f xs))
    one None h = h
    one (Some w) h = inr h

-- an orderer's NEWBLOCK of a block, with its graph
abbrev pub newblock : Rules → Block → ℕ → Letter
newblock rules b o = record { from = Orderer o; message = message.NewBlock (record { block = b; preds = graph_of rules.table.kind b.txns }) }

-- it is a good one
good_one : (rules : Rules) (n o : ℕ) (b : Block) → o < length rules.table.orderers → b.number ≡ n → newblock_in rules n (newblock rules b o) ≡ Some (o, b)
good_one rules n o b l e = let x : ℕ × Block = (o, b) in if_good (Some x) (is_good rules n o (record { block = b; preds = graph_of rules.table.kind b.txns })) good
  where
    good : is_good rules n o (record { block = b; preds = graph_of rules.table.kind b.txns }) ≡ true
    good = and_from _ _ (and_from (nat_lt o (length rules.table.orderers)) (b.number == n) (grind (arith, nat_tests, l)) (eq-eqb b.number n e))
        ((same_list_decides (same_list_decides same_number_decides) (graph_of rules.table.kind b.txns) (graph_of rules.table.kind b.txns)).1 refl)

    if_good : (x : Option (ℕ × Block)) (c : Bool) → c ≡ true → cond c x None ≡ x
    if_good x true q = refl
    if_good x false q = absurd (false≢true q)

-- these orderers of the table aren't faulty, and their NEWBLOCKs of the block came
abbrev pub AllSaid : Rules → Block → (Node → Bool) → Log → List ℕ → Type 0
AllSaid rules b faulty L N = (o : ℕ) → is_member eqb N o ≡ true → (o < length rules.table.orderers) × (faulty (Orderer o) ≡ false) × Has (newblock rules b o) L

pub accepts : (rules : Rules) (chain : List Block) (faulty : Node → Bool) (m : ℕ) → FewOrderers rules faulty → IsNumbered chain → m < length chain → (tip : List ℕ) (L : Log) → Sound rules chain faulty L →
    (block_at chain m).prev ≡ tip → (N : List ℕ) → rules.table.quorum ≤ length N → IsDistinct eqb N → AllSaid rules (block_at chain m) faulty L N → accepted rules (suc m) tip L ≡ Some (block_at chain m)
accepts rules chain faulty m few numbered within tip L s linked N many distinct said = one (accepted rules (suc m) tip L) refl some
  where
    each : (o : ℕ) → is_member eqb N o ≡ true → Has (o, block_at chain m) (first_of_each (filter_map (newblock_in rules (suc m)) L))
    each o i =
        let h = said o i in
        let gs = filter_map (newblock_in rules (suc m)) L in
        let first = first_has gs o (block_at chain m) (has_filter_map (newblock_in rules (suc m)) L (newblock rules (block_at chain m) o) (o, block_at chain m) h.2 (good_one rules (suc m) o (block_at chain m) h.0 (numbered m within))) in
        let from = chain_has rules chain faulty (suc m) (first_of_each gs) (o, first.0) (chain_first rules chain faulty (suc m) gs (goods_right rules chain faulty (suc m) L s)) first.1 in
        let r = from.1 h.1 in
        let k : r.1.0 ≡ m = let a = numbered r.1.0 r.1.1 in let c : (block_at chain r.1.0).number ≡ suc m = ap (λ (z : Block). z.number) (sym r.1.2) ∙ r.0 in omega arith in
        subst (λ (c : Block). Has (o, c) (first_of_each gs)) (r.1.2 ∙ ap (block_at chain) k) first.1

    some : is_some (accepted rules (suc m) tip L) ≡ true
    some = enough same_block same_block_decides (λ (c : Block). same_list same_number c.prev tip) rules.table.quorum (first_of_each (filter_map (newblock_in rules (suc m)) L)) (block_at chain m) N
        (omega (arith, few.few)) many distinct ((same_list_decides same_number_decides (block_at chain m).prev tip).1 linked) each

    one : (o : Option Block) → accepted rules (suc m) tip L ≡ o → is_some (accepted rules (suc m) tip L) ≡ true → accepted rules (suc m) tip L ≡ Some (block_at chain m)
    one None e k = absurd (false≢true (sym (ap is_some e) ∙ k))
    one (Some c) e k = e ∙ ap Some (accepted_right rules chain faulty m few numbered tip L s c e).1
