-- The growth law, for any number of further entries.
use Rattle.std.specs.Prelude.{ℕ, ◌+◌, ◌≡◌, List, [], ◌∷◌, ◌++◌, length, Some, suc, refl}
use Rattle.std.proofs.Common.{sym, ◌∙◌, ap, subst, arith, append_assoc}
use Rattle.node_defs.specs.Ledger.{completed, ledger, work_on, accepted_at}
use Rattle.node_defs.specs.Log.{Letter, Log}
use Rattle.node_defs.specs.Position.{Standing}
use Rattle.node_defs.specs.Rules.{IsLocal, Rules, in_force}
use Rattle.node_defs.specs.Programs.{rules_of}
use Rattle.node_laws.proofs.Growing.{after_keeps, ledger_grows, standings_keep, stays_open}
use Rattle.node_laws.proofs.Same.{rules_local}
use Rattle.node_laws.proofs.Whole.{ledger_whole}
use Rattle.node_laws.specs.Growth.{Grew, Growth, KeepAll, Keeps, Stays, standings_at}
use Rattle.txn_types.specs.declared.block.Block.{Block}

keeps_same : (x : Standing) → Keeps x x
keeps_same x = record { ran = λ h. h; agreed = λ o h. h; believed = λ o h. h }

keep_all_same : (xs : List Standing) → KeepAll xs xs
keep_all_same [] = tt
keep_all_same (x ∷ xs) = (keeps_same x, keep_all_same xs)

keeps_on : (x y z : Standing) → Keeps x y → Keeps y z → Keeps x z
keeps_on x y z a b = record { ran = λ h. b.ran (a.ran h); agreed = λ o h. b.agreed o (a.agreed o h); believed = λ o h. b.believed o (a.believed o h) }

keep_all_on : (xs ys zs : List Standing) → KeepAll xs ys → KeepAll ys zs → KeepAll xs zs
keep_all_on [] [] zs a b = b
keep_all_on [] (y ∷ ys) zs a b = absurd a
keep_all_on (x ∷ xs) [] zs a b = absurd a
keep_all_on (x ∷ xs) (y ∷ ys) [] a b = absurd b
keep_all_on (x ∷ xs) (y ∷ ys) (z ∷ zs) a b = (keeps_on x y z a.0 b.0, keep_all_on xs ys zs a.1 b.1)

grew_on : {A : Type 0} (xs ys zs : List A) → Grew xs ys → Grew ys zs → Grew xs zs
grew_on xs ys zs a b = record { new = b.new ++ a.new; is = b.is ∙ ap (λ l. b.new ++ l) a.is ∙ sym (append_assoc b.new a.new xs) }

module _ (rules : Rules) (l : IsLocal rules) (me : ℕ) where
  stays_here : (L : Log) → Stays rules me L L
  stays_here L = record { accepted = λ m b h. h; positions = λ m b h. keep_all_same (standings_at rules me m b L); completed = record { new = []; is = refl } }

  stays_on : (L M K : Log) → Stays rules me L M → Stays rules me M K → Stays rules me L K
  stays_on L M K a b = record {
    accepted = λ m c h. b.accepted m c (a.accepted m c h);
    positions = λ m c h. keep_all_on (standings_at rules me m c L) (standings_at rules me m c M) (standings_at rules me m c K) (a.positions m c h) (b.positions m c (a.accepted m c h));
    completed = grew_on (ledger rules me L) (ledger rules me M) (ledger rules me K) a.completed b.completed;
  }

  positions_stay : (m : ℕ) (b : Block) (e : Letter) (L : Log) → accepted_at rules me m L ≡ Some b → KeepAll (standings_at rules me m b L) (standings_at rules me m b (e ∷ L))
  positions_stay m b e L h =
      let g = ledger_grows rules l me m in
      let k = after_keeps rules me m g e L b h in
      let r = in_force rules (completed rules me m L) in
      rw k.1 (standings_keep r l (work_on rules me m (completed rules me m) L b) (stays_open rules me m g L b) (length b.txns) e L)

  stays_one : (e : Letter) (L : Log) → Stays rules me L (e ∷ L)
  stays_one e L = record {
    accepted = λ m b h. (after_keeps rules me m (ledger_grows rules l me m) e L b h).0;
    positions = λ m b h. positions_stay m b e L h;
    completed = subst (λ d. Grew d (ledger rules me (e ∷ L))) (whole (length L + 1) refl) (ledger_grows rules l me (suc (length L)) e L);
  }
    where
      whole : (n : ℕ) → n ≡ length L + 1 → completed rules me (suc (length L)) L ≡ ledger rules me L
      whole n e = let f : suc (length L) ≡ 1 + length L = omega arith in ap (λ k. completed rules me k L) f ∙ ledger_whole rules me 1 L

  pub stays : (L more : Log) → Stays rules me L (more ++ L)
  stays L [] = stays_here L
  stays L (e ∷ more) = stays_on L (more ++ L) (e ∷ (more ++ L)) (stays L more) (stays_one e (more ++ L))

pub growth : Growth
growth table genesis me L more = stays (rules_of table genesis) (rules_local table genesis) me L more
