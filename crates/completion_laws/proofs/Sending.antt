-- Each batch of a peer's run order was sent with some entry of its log.
use Rattle.std.specs.Prelude.{ℕ, ◌<◌, ◌≤◌, Bool, true, false, ◌&&◌, not, cond, List, [], ◌∷◌, ◌++◌, reverse, length, filter, Option, Some, None, is_some, ◌≡◌, refl, suc, zero, ◌⊎◌}
use Rattle.std.specs.Set.{is_member}
use Rattle.std.specs.Cmp.{nat_eq_equiv}
use Rattle.std.proofs.Common.{sym, ◌∙◌, ap, subst, arith, inl, inr, eqb, ⊎_elim}
use Rattle.std.proofs.lemmas.Bool.{eqb-true, false≢true, or_cases, true≢false, cases_lt}
use Rattle.std.proofs.lemmas.List.{length-map}
use Rattle.std.proofs.lemmas.Map.Made.{length-le_from_is_member}
use Rattle.std.proofs.lemmas.Option.{same_Some}
use Rattle.node_defs.specs.Accepted.{accepted_after}
use Rattle.node_defs.specs.Ledger.{accepted_at, all_standings, completed, heard, is_split, ledger_state, split}
use Rattle.node_defs.specs.Log.{Letter, Log}
use Rattle.node_defs.specs.Position.{Standing, Work}
use Rattle.node_defs.specs.Rules.{IsLocal, Rules, in_force}
use Rattle.node_defs.specs.Sent.{batches, commit_of, did_run, held, is_cut, is_due, newly_ran, run_order, sent, sent_in, sent_of, sent_upto, sent_with}
use Rattle.node_defs.specs.Serial.{IsNumbered}
use Rattle.node_defs.specs.World.{said_by}
use Rattle.node_laws.proofs.Agree.{Sound}
use Rattle.node_laws.proofs.AgreeSent.{hears_all, never_split}
use Rattle.node_laws.specs.Fed.{Has}
use Rattle.node_laws.proofs.Few.{IsTameAll}
use Rattle.node_laws.proofs.Growing.{StaysOpen, after_keeps, ledger_grows, stays_open}
use Rattle.node_laws.proofs.Whole.{accepted_member, all_members, carries, distinct_down, down, length_down, numbers}
use Rattle.oxii_defs.specs.Lines.{Entry}
use Rattle.txn_types.specs.declared.block.Block.{Block}
use Rattle.txn_types.specs.declared.message.Commit.{Commit}
use Rattle.txn_types.specs.declared.message.Node.{Node}
use Rattle.completion_laws.proofs.Delivered.{AllSent, has_left, has_map, has_of_all, has_right}
use Rattle.completion_laws.proofs.Enough.{has_filter}
use Rattle.completion_laws.proofs.Places.{did_run_is, ran_opens}
use Rattle.completion_laws.proofs.Voting.{has_reverse}

-- of some entry and the log before it this holds
abbrev pub SomeTail : (Letter → Log → Type 0) → Log → Type 0
SomeTail P [] = ⊥
SomeTail P (e ∷ L) = P e L ⊎ SomeTail P L

-- ONE BLOCK

newly_facts : (r : Rules) (w : Work) (e : Letter) (L : Log) (n x : ℕ) → Has x (newly_ran r w e L n) → (x < n) × (did_run r w x (e ∷ L) ≡ true) × (did_run r w x L ≡ false)
newly_facts r w e L zero x h = absurd h
newly_facts r w e L (suc n) x h = one (did_run r w n (e ∷ L)) refl (did_run r w n L) refl h (λ k. later (newly_facts r w e L n x k))
  where
    later : (x < n) × (did_run r w x (e ∷ L) ≡ true) × (did_run r w x L ≡ false) → (x < suc n) × (did_run r w x (e ∷ L) ≡ true) × (did_run r w x L ≡ false)
    later (l, now, before) = (omega (arith, l), now, before)

    one : (a : Bool) → did_run r w n (e ∷ L) ≡ a → (b : Bool) → did_run r w n L ≡ b → Has x (cond (a && not b) (n ∷ newly_ran r w e L n) (newly_ran r w e L n)) →
        (Has x (newly_ran r w e L n) → (x < suc n) × (did_run r w x (e ∷ L) ≡ true) × (did_run r w x L ≡ false)) → (x < suc n) × (did_run r w x (e ∷ L) ≡ true) × (did_run r w x L ≡ false)
    one false p b q k more = more k
    one true p true q k more = more k
    one true p false q (inl i) more = (omega (arith, i), subst (λ j. did_run r w j (e ∷ L) ≡ true) (sym i) p, subst (λ j. did_run r w j L ≡ false) (sym i) q)
    one true p false q (inr i) more = more i

-- a batch is an old one, or ends with a new position
split_batch : (r : Rules) (w : Work) (b new old : List ℕ) → Has b (batches r w (new ++ old)) → Has b (batches r w old) ⊎ ((x : ℕ) × (back : List ℕ) × (b ≡ x ∷ back) × Has x new)
split_batch r w b [] old h = inl h
split_batch r w b (t ∷ new) old h = one (is_cut r w (t ∷ (new ++ old))) h (λ k. later (split_batch r w b new old k))
  where
    later : Has b (batches r w old) ⊎ ((x : ℕ) × (back : List ℕ) × (b ≡ x ∷ back) × Has x new) → Has b (batches r w old) ⊎ ((x : ℕ) × (back : List ℕ) × (b ≡ x ∷ back) × Has x (t ∷ new))
    later (inl k) = inl k
    later (inr (x, back, e, k)) = inr (x, back, e, inr k)

    one : (c : Bool) → Has b (cond c ((t ∷ held r w (new ++ old)) ∷ batches r w (new ++ old)) (batches r w (new ++ old))) →
        (Has b (batches r w (new ++ old)) → Has b (batches r w old) ⊎ ((x : ℕ) × (back : List ℕ) × (b ≡ x ∷ back) × Has x (t ∷ new))) → Has b (batches r w old) ⊎ ((x : ℕ) × (back : List ℕ) × (b ≡ x ∷ back) × Has x (t ∷ new))
    one true (inl e) more = inr (t, held r w (new ++ old), e, inl refl)
    one true (inr k) more = more k
    one false k more = more k

-- with this entry the block was accepted, and the batch was sent
abbrev pub IsSentWith : Rules → Work → List ℕ → Letter → Log → Type 0
IsSentWith r w b e K = (w.opens (e ∷ K) ≡ true) × Has (commit_of w (all_standings r w (e ∷ K)) b) (sent_of r w e K)

pub batch_due : (r : Rules) (w : Work) (b : List ℕ) (L : Log) → Has b (batches r w (run_order r w L)) → SomeTail (IsSentWith r w b) L
batch_due r w b [] h = absurd h
batch_due r w b (e ∷ L) h = one (split_batch r w b (newly_ran r w e L (length w.txns)) (run_order r w L) h) (λ k. batch_due r w b L k)
  where
    one : Has b (batches r w (run_order r w L)) ⊎ ((x : ℕ) × (back : List ℕ) × (b ≡ x ∷ back) × Has x (newly_ran r w e L (length w.txns))) →
        (Has b (batches r w (run_order r w L)) → SomeTail (IsSentWith r w b) L) → IsSentWith r w b e L ⊎ SomeTail (IsSentWith r w b) L
    one (inl k) more = inr (more k)
    one (inr (x, back, q, k)) more =
        let f = newly_facts r w e L (length w.txns) x k in
        let due : is_due r w e L b ≡ true = ap (is_due r w e L) q ∙ ap not f.2 in
        let bs = batches r w (run_order r w (e ∷ L)) in
        inl (ran_opens r w (e ∷ L) x (sym (did_run_is r w x (e ∷ L) f.0) ∙ f.1), has_map (commit_of w (all_standings r w (e ∷ L))) (reverse (filter (is_due r w e L) bs)) b (has_reverse (filter (is_due r w e L) bs) b (has_filter (is_due r w e L) bs b h due)))

tail_opens : (r : Rules) (w : Work) (b : List ℕ) → StaysOpen w → (L : Log) → SomeTail (IsSentWith r w b) L → w.opens L ≡ true
tail_opens r w b op [] s = absurd s
tail_opens r w b op (e ∷ L) (inl s) = s.0
tail_opens r w b op (e ∷ L) (inr s) = op e L (tail_opens r w b op L s)

-- ALL BLOCKS

-- an accepted block has no larger number than the log has entries
pub accepted_few : (rules : Rules) (me m : ℕ) (L : Log) (b : Block) → accepted_at rules me m L ≡ Some b → suc m ≤ length L
accepted_few rules me m L b h =
    let a = accepted_member rules m (completed rules me m L) L b h in
    let each : (q : ℕ) → is_member eqb (down (suc m)) q ≡ true → is_member eqb (numbers L) q ≡ true = λ q k. ⊎_elim (λ e. ap (is_member eqb (numbers L)) (eqb-true q (suc m) e) ∙ a.1) (λ e. all_members rules me m L a.0 q e) (or_cases (eqb q (suc m)) (is_member eqb (down m) q) k) in
    omega (arith, length-le_from_is_member nat_eq_equiv (down (suc m)) (numbers L) (distinct_down (suc m)) each, length_down (suc m), length-map L carries)

upto_has : (rules : Rules) (me m : ℕ) (e : Letter) (K : Log) (c : Commit) (n : ℕ) → m < n → Has c (sent_in rules me m e K) → Has c (sent_upto rules me n e K)
upto_has rules me m e K c zero l h = absurd (omega arith)
upto_has rules me m e K c (suc n) l h = ⊎_elim (λ k. has_left (sent_upto rules me n e K) (sent_in rules me n e K) c (upto_has rules me m e K c n k h)) (λ k. let q : m ≡ n = omega (arith, k, l) in has_right (sent_upto rules me n e K) (sent_in rules me n e K) c (subst (λ j. Has c (sent_in rules me j e K)) q h)) (cases_lt m n)

-- what a peer works on, and by what rules, behind these completed blocks
abbrev pub work_behind : Rules → ℕ → ℕ → List Entry → Block → Work
work_behind rules me m d b = record { me = me; n = suc m; txns = b.txns; base = ledger_state rules d; opens = λ K. is_some (accepted_after rules m (completed rules me m K) K) }

module _ (rules : Rules) (l : IsLocal rules) (chain : List Block) (faulty : Node → Bool) (tame : IsTameAll rules chain faulty) (numbered : IsNumbered chain) (me m : ℕ) (d : List Entry) (block : Block) (pool : List Letter) (b : List ℕ) where
  abbrev W : Work
  W = work_behind rules me m d block

  abbrev R : Rules
  R = in_force rules d

  found : (L : Log) → accepted_at rules me m L ≡ Some block → completed rules me m L ≡ d → Sound rules chain faulty L → AllSent rules me pool L → SomeTail (IsSentWith R W b) L →
      (all : List Standing) × Has (said_by me (commit_of W all b)) pool
  found [] a c s sent t = absurd t
  found (e ∷ K) a c s sent (inl t) = (all_standings R W (e ∷ K), has_of_all (λ x. Has (said_by me x) pool) _ sent.0 (commit_of W (all_standings R W (e ∷ K)) b) here)
    where
      in_block : Has (commit_of W (all_standings R W (e ∷ K)) b) (sent_in rules me m e K)
      in_block =
          let x = commit_of W (all_standings R W (e ∷ K)) b in
          let P : Option Block → Type 0 = λ o. Has x (sent_with rules me m e K o) in
          let Q : List Entry → Type 0 = λ ds. Has x (sent_of (in_force rules ds) (work_behind rules me m ds block) e K) in
          subst P (sym a) (subst Q (sym c) t.1)

      unsplit : is_split rules me (heard rules me K) ≡ false
      unsplit = ap is_some (ap (split rules me) (hears_all rules l chain faulty tame numbered me K s.1) ∙ never_split rules l chain faulty tame numbered me K s.1)

      unless : (c : Bool) (xs : List Commit) (x : Commit) → c ≡ false → Has x xs → Has x (cond c [] xs)
      unless true xs x q h = absurd (true≢false q)
      unless false xs x q h = h

      here : Has (commit_of W (all_standings R W (e ∷ K)) b) (cond (is_split rules me (heard rules me K)) [] (sent_upto rules me (length (e ∷ K)) e K))
      here = unless (is_split rules me (heard rules me K)) (sent_upto rules me (length (e ∷ K)) e K) _ unsplit (upto_has rules me m e K _ (length (e ∷ K)) (omega (arith, accepted_few rules me m (e ∷ K) block a)) in_block)
  found (e ∷ K) a c s sent (inr t) = one (accepted_at rules me m K) refl (λ p q. found K p q s.1 sent.1 t)
    where
      one : (o : Option Block) → accepted_at rules me m K ≡ o → (accepted_at rules me m K ≡ Some block → completed rules me m K ≡ d → (all : List Standing) × Has (said_by me (commit_of W all b)) pool) → (all : List Standing) × Has (said_by me (commit_of W all b)) pool
      one None q more =
          let op = tail_opens R W b (λ e L h. stays_open rules me m (ledger_grows rules l me m) L block e L h) K t in
          absurd (false≢true (sym (ap is_some q) ∙ op))
      one (Some x) q more =
          let k = after_keeps rules me m (ledger_grows rules l me m) e K x q in
          let same : x ≡ block = same_Some x block (sym k.0 ∙ a) in
          more (q ∙ ap Some same) (sym k.1 ∙ c)

  pub batch_sent : (L : Log) → accepted_at rules me m L ≡ Some block → completed rules me m L ≡ d → Sound rules chain faulty L → AllSent rules me pool L → Has b (batches R W (run_order R W L)) →
      (all : List Standing) × Has (said_by me (commit_of W all b)) pool
  batch_sent L a c s sent h = found L a c s sent (batch_due R W b L h)
