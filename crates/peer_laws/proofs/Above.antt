-- Nothing above the block in work is accepted
use Rattle.std.specs.Prelude.{ℕ, ◌==◌, ◌+◌, ◌-◌, ◌<◌, ◌≤◌, ◌≡◌, false, length, Option, Some, None, option_map, zero, suc, refl}
use Rattle.std.proofs.Common.{sym, ◌∙◌, ap, arith, ⊎_elim, zero-add}
use Rattle.std.proofs.lemmas.Bool.{ne_eqb}
use Rattle.node_laws.proofs.Whole.{step, grown, few_blocks}
use Rattle.node_defs.specs.Ledger.{Halt, all_standings, completed, first_halt, halt_in, ledger, split, accepted_at}
use Rattle.node_defs.specs.Log.{Log}
use Rattle.node_defs.specs.Rules.{Rules}
use Rattle.peer_laws.specs.Turns.{force_at, work_at}
use Rattle.txn_types.specs.declared.block.Block.{Block}

-- the ledger is what its own number of turns completes
pub trimmed : (rules : Rules) (me k : ℕ) (L : Log) → completed rules me (length (completed rules me k L)) L ≡ completed rules me k L
trimmed rules me zero L = refl
trimmed rules me (suc k) L = ⊎_elim (λ same. kept (trimmed rules me k L) same) (λ p. full (trimmed rules me k L) p.0) (step rules me k L)
  where
    kept : completed rules me (length (completed rules me k L)) L ≡ completed rules me k L → completed rules me (suc k) L ≡ completed rules me k L → completed rules me (length (completed rules me (suc k) L)) L ≡ completed rules me (suc k) L
    kept ih same = ap (λ c. completed rules me (length c) L) same ∙ (ih ∙ sym same)

    full : completed rules me (length (completed rules me k L)) L ≡ completed rules me k L → length (completed rules me k L) ≡ k → completed rules me (length (completed rules me (suc k) L)) L ≡ completed rules me (suc k) L
    full ih h = ⊎_elim (λ same. kept ih same) (λ e. ap (λ n. completed rules me n L) e) (grown rules me k L h)

-- a ledger that isn't full has nothing in work
pub shut : (rules : Rules) (me m : ℕ) (L : Log) → (length (completed rules me m L) == m) ≡ false → accepted_at rules me m L ≡ None
shut rules me m L h = rw h refl

-- m blocks are done with, and the next isn't
pub record Stuck (rules : Rules) (me m : ℕ) (L : Log) : Type 0 where
  pub full : length (completed rules me m L) ≡ m
  pub stuck : completed rules me (suc m) L ≡ completed rules me m L

pub above : (rules : Rules) (me m : ℕ) (L : Log) → Stuck rules me m L → (k : ℕ) → completed rules me (k + m) L ≡ completed rules me m L
above rules me m L s zero = ap (λ n. completed rules me n L) (zero-add m)
above rules me m L s (suc k) = let e : suc k + m ≡ suc (k + m) = omega arith in ap (λ n. completed rules me n L) e ∙ next (above rules me m L s k)
  where
    next : completed rules me (k + m) L ≡ completed rules me m L → completed rules me (suc (k + m)) L ≡ completed rules me m L
    next ih = ⊎_elim (λ same. same ∙ ih) (λ p. let z : k + m ≡ m = sym p.0 ∙ (ap length ih ∙ s.full) in ap (λ n. completed rules me (suc n) L) z ∙ s.stuck) (step rules me (k + m) L)

pub above_at : (rules : Rules) (me m : ℕ) (L : Log) → Stuck rules me m L → (j : ℕ) → m ≤ j → completed rules me j L ≡ completed rules me m L
above_at rules me m L s j l = let e : j ≡ (j - m) + m = omega arith in ap (λ n. completed rules me n L) e ∙ above rules me m L s (j - m)

pub above_none : (rules : Rules) (me m : ℕ) (L : Log) → Stuck rules me m L → (j : ℕ) → m < j → accepted_at rules me j L ≡ None
above_none rules me m L s j l = shut rules me j L (ne_eqb (length (completed rules me j L)) j (λ q. absurd (omega (arith, q, ap length (above_at rules me m L s j (omega arith)), s.full, l))))

-- a full ledger below m has nothing in work at m
pub full_none : (rules : Rules) (me m : ℕ) (L : Log) → length (completed rules me m L) < m → accepted_at rules me m L ≡ None
full_none rules me m L l = shut rules me m L (ne_eqb (length (completed rules me m L)) m (λ q. absurd (omega (arith, q, l))))

pub ledger_is : (rules : Rules) (me m : ℕ) (L : Log) → Stuck rules me m L → ledger rules me L ≡ completed rules me m L
ledger_is rules me m L s = above_at rules me m L s (length L) (few_blocks rules me m L s.full)

more_turns : (rules : Rules) (me k : ℕ) (L : Log) → length (completed rules me k L) ≤ length (completed rules me (suc k) L)
more_turns rules me k L = ⊎_elim (λ same. omega (arith, ap length same)) (λ p. ⊎_elim (λ same. omega (arith, ap length same)) (λ e. omega (arith, e, p.0)) (grown rules me k L p.0)) (step rules me k L)

many_turns : (rules : Rules) (me k j : ℕ) (L : Log) → length (completed rules me k L) ≤ length (completed rules me (j + k) L)
many_turns rules me k zero L = omega (arith, ap (λ n. length (completed rules me n L)) (zero-add k))
many_turns rules me k (suc j) L =
    let e : suc j + k ≡ suc (j + k) = omega arith in
    omega (arith, many_turns rules me k j L, more_turns rules me (j + k) L, ap (λ n. length (completed rules me n L)) e)

-- a ledger is stuck at its length
pub ledger_stuck : (rules : Rules) (me : ℕ) (L : Log) → Stuck rules me (length (ledger rules me L)) L
ledger_stuck rules me L = record { full = full; stuck = ⊎_elim (λ same. same) (λ e. absurd (over e)) (grown rules me m L full) }
  where
    m : ℕ
    m = length (ledger rules me L)

    full : length (completed rules me m L) ≡ m
    full = ap length (trimmed rules me (length L) L)

    over : length (completed rules me (suc m) L) ≡ suc m → ⊥
    over e =
        let few : suc m ≤ length L = few_blocks rules me (suc m) L e in
        let k : length L ≡ (length L - suc m) + suc m = omega arith in
        omega (arith, many_turns rules me (suc m) (length L - suc m) L, ap (λ n. length (completed rules me n L)) k, e)

-- the halt, as the block in work shows it
abbrev pub split_with : Rules → ℕ → ℕ → Log → Option Block → Option Halt
split_with rules me m L None = None
split_with rules me m L (Some b) = first_halt (suc m) 0 b.txns (all_standings (force_at rules me m L) (work_at rules me m L b) L)

pub split_is : (rules : Rules) (me m : ℕ) (L : Log) → Stuck rules me m L → split rules me L ≡ split_with rules me m L (accepted_at rules me m L)
split_is rules me m L s = first (accepted_at rules me k L) ∙ ap (λ n. split_with rules me n L (accepted_at rules me n L)) (ap length (ledger_is rules me m L s) ∙ s.full)
  where
    k : ℕ
    k = length (ledger rules me L)

    first : (o : Option Block) → halt_in (force_at rules me k L) L (option_map (work_at rules me k L) o) ≡ split_with rules me k L o
    first None = refl
    first (Some b) = refl
