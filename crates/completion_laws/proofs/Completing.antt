-- Block after block: where each message is at each peer that isn't faulty, each of them has completed every block of the chain.
use Rattle.std.specs.Prelude.{ℕ, ◌==◌, ◌<◌, ◌≤◌, Bool, true, false, not, cond, List, [], ◌∷◌, ◌++◌, map, length, Option, Some, None, is_some, ◌≡◌, ◌≢◌, refl, suc, zero, ◌⊎◌}
use Rattle.std.specs.List.{IsDistinct, list_all, list_any}
use Rattle.std.specs.Set.{is_member}
use Rattle.std.proofs.Common.{sym, ◌∙◌, ap, subst, arith, eqb, inl, inr}
use Rattle.std.proofs.lemmas.Bool.{and_from, and_parts, eq-eqb, false≢true, or_parts, cases_lt}
use Rattle.known_defs.specs.Known.{txn_at}
use Rattle.node_defs.specs.Accepted.{accepted, accepted_after, tip}
use Rattle.node_defs.specs.Blocks.{block_at}
use Rattle.node_defs.specs.Ledger.{accepted_at, agreed_outcome, completed, completed_with, differs, is_agreed, ledger, with_entry}
use Rattle.node_defs.specs.Log.{Letter, Log, votes_in}
use Rattle.node_defs.specs.Position.{Standing, Work, standing, standings}
use Rattle.node_defs.specs.Rules.{IsLocal, Rules, in_force}
use Rattle.node_defs.specs.Sent.{run_order}
use Rattle.node_defs.specs.Serial.{IsNumbered, serial_ledger, serial_outcomes_at}
use Rattle.node_laws.proofs.Agree.{Sound, block_right, chain_work, ledger_right, length_serial_ledger, none_differs, right_at}
use Rattle.node_laws.specs.Fed.{Has}
use Rattle.node_laws.proofs.Few.{IsTameAll}
use Rattle.node_laws.proofs.Whole.{few_blocks}
use Rattle.oxii_defs.specs.Lines.{Entry}
use Rattle.txn_types.specs.Fitting.{is_fit}
use Rattle.txn_types.specs.declared.block.Block.{Block}
use Rattle.txn_types.specs.declared.message.Node.{Node}
use Rattle.txn_types.specs.declared.message.Node.TheVariants.{Orderer}
use Rattle.txn_types.specs.declared.txn.Outcome.{Outcome}
use Rattle.completion_laws.proofs.Accepting.{accepts, newblock}
use Rattle.completion_laws.proofs.Delivered.{AllSent}
use Rattle.completion_laws.proofs.Orders.{InBatch}
use Rattle.completion_laws.proofs.Places.{agreed_at}
use Rattle.completion_laws.proofs.Running.{AreHeard, HasStaff, Honest, IsAmong, all_agreed}
use Rattle.completion_laws.proofs.Sending.{batch_sent, work_behind}
use Rattle.completion_laws.proofs.Voting.{batch_votes}

-- each position is agreed, and none differs: the block is completed
all_are : (xs : List Standing) → list_all (λ (x : Standing). is_some x.agreed) xs ≡ true → list_any differs xs ≡ false → list_all is_agreed xs ≡ true
all_are [] a d = refl
all_are (x ∷ xs) a d =
    let p = and_parts (is_some x.agreed) (list_all (λ (y : Standing). is_some y.agreed) xs) a in
    let q = or_parts (differs x) (list_any differs xs) d in
    and_from (is_agreed x) (list_all is_agreed xs) (and_from (is_some x.agreed) (not (differs x)) p.0 (ap not q.0)) (all_are xs p.1 q.1)

all_more : {A : Type 0} (p : A → Bool) (xs : List A) (x : A) → list_all p xs ≡ true → p x ≡ true → list_all p (xs ++ x ∷ []) ≡ true
all_more p [] x a h = and_from (p x) true h refl
all_more p (y ∷ xs) x a h = let q = and_parts (p y) (list_all p xs) a in and_from (p y) (list_all p (xs ++ x ∷ [])) q.0 (all_more p xs x q.1 h)

each_agreed : (r : Rules) (w : Work) (L : Log) (k : ℕ) → ((t : ℕ) → t < k → is_some (agreed_at r w t L) ≡ true) → list_all (λ (x : Standing). is_some x.agreed) (standings r w k L) ≡ true
each_agreed r w L zero h = refl
each_agreed r w L (suc k) h = all_more (λ (x : Standing). is_some x.agreed) (standings r w k L) (standing r w k (standings r w k) L) (each_agreed r w L k (λ t l. h t (omega (arith, l)))) (h k (omega arith))

-- the rules in force behind the serial run of the first m blocks
abbrev pub force : Rules → List Block → ℕ → Rules
force rules chain m = in_force rules (serial_ledger rules chain m)

-- what is there once each message is at each peer that isn't faulty
pub record IsThere (rules : Rules) (chain : List Block) (liar faulty : Node → Bool) (pool : List Letter) (log : ℕ → Log) : Type 0 where
  pub sound : (p : ℕ) → Honest rules faulty p → Sound rules chain liar (log p)
  pub given : (p : ℕ) → Honest rules faulty p → (x : Letter) → Has x pool → Has x (log p)
  pub sent : (p : ℕ) → Honest rules faulty p → AllSent rules p pool (log p)
  pub said : (m : ℕ) → m < length chain → (o : ℕ) → o < length rules.table.orderers → faulty (Orderer o) ≡ false → Has (newblock rules (block_at chain m) o) pool

-- a quorum of orderers of the table aren't faulty
pub record HasOrderers (rules : Rules) (faulty : Node → Bool) : Type 0 where
  pub orderers : List ℕ
  pub many : rules.table.quorum ≤ length orderers
  pub distinct : IsDistinct eqb orderers
  pub honest : (o : ℕ) → is_member eqb orderers o ≡ true → (o < length rules.table.orderers) × (faulty (Orderer o) ≡ false)

-- what holds of the chain, and of those that aren't faulty
pub record IsStaffed (rules : Rules) (chain : List Block) (faulty : Node → Bool) : Type 0 where
  pub linked : (m : ℕ) → m < length chain → (block_at chain m).prev ≡ tip rules (serial_ledger rules chain m)
  pub orderers : HasOrderers rules faulty
  pub agents : (m t : ℕ) → m < length chain → t < length (block_at chain m).txns → HasStaff (force rules chain m) faulty (txn_at (block_at chain m).txns t)
  pub fits : (m t : ℕ) → m < length chain → t < length (block_at chain m).txns → is_fit (txn_at (block_at chain m).txns t) (right_at rules chain m t) ≡ true

module _ (rules : Rules) (l : IsLocal rules) (chain : List Block) (liar faulty : Node → Bool) (among : IsAmong faulty liar) (tame : IsTameAll rules chain liar) (numbered : IsNumbered chain) (staff : IsStaffed rules chain faulty) (pool : List Letter) (log : ℕ → Log) (there : IsThere rules chain liar faulty pool log) where
  -- each peer has completed the first m blocks
  abbrev Done : ℕ → Type 0
  Done m = (p : ℕ) → Honest rules faulty p → completed rules p m (log p) ≡ serial_ledger rules chain m

  abbrev opens : ℕ → ℕ → Log → Bool
  opens m p K = is_some (accepted_after rules m (completed rules p m K) K)

  -- then the next one is accepted
  takes : (m : ℕ) → m < length chain → Done m → (p : ℕ) → Honest rules faulty p → accepted_at rules p m (log p) ≡ Some (block_at chain m)
  takes m within done p good = subst (λ (d : List Entry). accepted_after rules m d (log p) ≡ Some (block_at chain m)) (sym (done p good)) (if_long (length (serial_ledger rules chain m) == m) (eq-eqb (length (serial_ledger rules chain m)) m (length_serial_ledger rules chain m)))
    where
      here : accepted rules (suc m) (tip rules (serial_ledger rules chain m)) (log p) ≡ Some (block_at chain m)
      here = accepts (force rules chain m) chain liar m (tame m).orderers numbered within (tip rules (serial_ledger rules chain m)) (log p) (there.sound p good) (staff.linked m within) staff.orderers.orderers staff.orderers.many staff.orderers.distinct
          (λ o i. let h = staff.orderers.honest o i in (h.0, among (Orderer o) h.1, there.given p good (newblock rules (block_at chain m) o) (there.said m within o h.0 h.1)))

      if_long : (c : Bool) → c ≡ true → cond c (accepted rules (suc m) (tip rules (serial_ledger rules chain m)) (log p)) None ≡ Some (block_at chain m)
      if_long true e = here
      if_long false e = absurd (false≢true e)

  never_open : (m p : ℕ) → opens m p [] ≡ false
  never_open m p = one (length (completed rules p m []) == m)
    where
      one : (c : Bool) → is_some (cond c (accepted rules (suc m) (tip rules (completed rules p m [])) []) None) ≡ false
      one true = refl
      one false = refl

  hears : (m : ℕ) → m < length chain → Done m → AreHeard (force rules chain m) chain liar faulty m (opens m) log
  hears m within done = record {
    staff = λ t k. staff.agents m t within k;
    fits = λ t k. staff.fits m t within k;
    sound = there.sound;
    shut = never_open m;
    opened = λ p good. ap is_some (takes m within done p good);
    votes = came;
  }
    where
      came : (g h t : ℕ) → Honest rules faulty g → Honest rules faulty h → h ≢ g → InBatch (force rules chain m) (chain_work (force rules chain m) chain h m (opens m h)) t (run_order (force rules chain m) (chain_work (force rules chain m) chain h m (opens m h)) (log h)) →
          (o : Outcome) × (e : Letter) × Has e (log g) × Has (h, o) (votes_in (force rules chain m) g (suc m) t e)
      came g h t good_g good_h other (b, in_batches, in_b) =
          let d = serial_ledger rules chain m in
          let w = work_behind rules h m d (block_at chain m) in
          let z = batch_sent rules l chain liar tame numbered h m d (block_at chain m) pool b (log h) (takes m within done h good_h) (done h good_h) (there.sound h good_h) (there.sent h good_h) in_batches in
          let v = batch_votes (force rules chain m) w z.0 b t g h good_h.0 other in_b in
          (v.0, _, there.given g good_g _ z.1, v.1)

  -- and completed
  closes : (m : ℕ) → m < length chain → Done m → Done (suc m)
  closes m within done p good =
      let right = ledger_right rules l chain liar tame numbered p (suc m) (log p) (there.sound p good) in
      right.0 ∙ ap (serial_ledger rules chain) (ap length longer ∙ ap suc (length_serial_ledger rules chain m))
    where
      is_all : list_all is_agreed (standings (force rules chain m) (work_behind rules p m (serial_ledger rules chain m) (block_at chain m)) (length (block_at chain m).txns) (log p)) ≡ true
      is_all =
          let r = force rules chain m in
          let w = work_behind rules p m (serial_ledger rules chain m) (block_at chain m) in
          let n = length (block_at chain m).txns in
          all_are (standings r w n (log p)) (each_agreed r w (log p) n (all_agreed r l chain liar faulty among m (tame m) within (opens m) log (hears m within done) p good))
          (none_differs (serial_outcomes_at r chain m) (standings r w n (log p)) (block_right r l chain liar p m (tame m) (opens m p) within (log p) (there.sound p good)))

      kept : (c : Bool) → c ≡ true → (x : Entry) (d : List Entry) → cond c (x ∷ d) d ≡ x ∷ d
      kept true e x d = refl
      kept false e x d = absurd (false≢true e)

      longer : completed rules p (suc m) (log p) ≡ record { block = block_at chain m; outcomes = map agreed_outcome (standings (force rules chain m) (work_behind rules p m (serial_ledger rules chain m) (block_at chain m)) (length (block_at chain m).txns) (log p)) } ∷ serial_ledger rules chain m
      longer =
          let x : Entry = record { block = block_at chain m; outcomes = map agreed_outcome (standings (force rules chain m) (work_behind rules p m (serial_ledger rules chain m) (block_at chain m)) (length (block_at chain m).txns) (log p)) } in
          let P : Option Block → Type 0 = λ o. completed_with rules p m (completed rules p m) (log p) o ≡ x ∷ serial_ledger rules chain m in
          let Q : List Entry → Type 0 = λ d. with_entry (block_at chain m) (standings (in_force rules d) (work_behind rules p m d (block_at chain m)) (length (block_at chain m).txns) (log p)) d ≡ x ∷ serial_ledger rules chain m in
          subst P (sym (takes m within done p good)) (subst Q (sym (done p good)) (kept (list_all is_agreed (standings (force rules chain m) (work_behind rules p m (serial_ledger rules chain m) (block_at chain m)) (length (block_at chain m).txns) (log p))) is_all x (serial_ledger rules chain m)))

  done_upto : (m : ℕ) → m ≤ length chain → Done m
  done_upto zero j = λ p good. refl
  done_upto (suc m) j = closes m (omega (arith, j)) (done_upto m (omega (arith, j)))

  -- so each has completed all
  pub completes : (p : ℕ) → Honest rules faulty p → ledger rules p (log p) ≡ serial_ledger rules chain (length chain)
  completes p good =
      let k = length chain in
      let done = done_upto k (omega arith) p good in
      let full : length (completed rules p k (log p)) ≡ k = ap length done ∙ length_serial_ledger rules chain k in
      let right = ledger_right rules l chain liar tame numbered p (length (log p)) (log p) (there.sound p good) in
      let few = few_blocks rules p k (log p) full in
      let more = no_shorter k (length (log p)) few in
      right.0 ∙ ap (serial_ledger rules chain) (let q : length (ledger rules p (log p)) ≡ k = omega (arith, more, full, right.1) in q)
    where
      next : (m : ℕ) → length (completed rules p m (log p)) ≤ length (completed rules p (suc m) (log p))
      next m = one (accepted_after rules m (completed rules p m (log p)) (log p))
        where
          one : (o : Option Block) → length (completed rules p m (log p)) ≤ length (completed_with rules p m (completed rules p m) (log p) o)
          one None = omega arith
          one (Some c) = two (standings (in_force rules (completed rules p m (log p))) (work_behind rules p m (completed rules p m (log p)) c) (length c.txns) (log p))
            where
              two : (xs : List Standing) → length (completed rules p m (log p)) ≤ length (with_entry c xs (completed rules p m (log p)))
              two xs = elim (list_all is_agreed xs) as (λ t. length (completed rules p m (log p)) ≤ length (cond t (record { block = c; outcomes = map agreed_outcome xs } ∷ completed rules p m (log p)) (completed rules p m (log p)))) [ true ↦ omega arith | false ↦ omega arith ]

      no_shorter : (j k : ℕ) → j ≤ k → length (completed rules p j (log p)) ≤ length (completed rules p k (log p))
      no_shorter j zero h = let q : j ≡ 0 = omega (arith, h) in let e = ap (λ i. length (completed rules p i (log p))) q in omega (arith, e)
      no_shorter j (suc k) h = two (cases_lt k j) (λ e. no_shorter j k e)
        where
          two : (k < j) ⊎ (j ≤ k) → (j ≤ k → length (completed rules p j (log p)) ≤ length (completed rules p k (log p))) → length (completed rules p j (log p)) ≤ length (completed rules p (suc k) (log p))
          two (inl e) more = let q : j ≡ suc k = omega (arith, e, h) in let s = ap (λ i. length (completed rules p i (log p))) q in omega (arith, s)
          two (inr e) more = omega (arith, more e, next k)
