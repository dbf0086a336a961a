-- One block that each peer has accepted: where enough agents of each application aren't faulty, each position runs at its agents, each vote is sent, and each position is agreed.
use Rattle.std.specs.Prelude.{ℕ, ◌==◌, ◌<◌, ◌≤◌, Bool, true, false, List, [], length, is_some, ◌≡◌, suc, zero, ◌⊎◌, ◌≢◌}
use Rattle.std.specs.List.{IsDistinct}
use Rattle.std.specs.Set.{is_member}
use Rattle.std.proofs.Common.{sym, ◌∙◌, ap, subst, arith, inl, inr, eqb, ⊎_elim}
use Rattle.std.proofs.lemmas.Bool.{and_from as both, cases_Bool, cases_lt, eq-eqb, eqb-true, false≢true}
use Rattle.known_defs.specs.Known.{txn_at}
use Rattle.node_defs.specs.Blocks.{block_at}
use Rattle.node_defs.specs.Log.{Letter, Log, votes_in}
use Rattle.node_defs.specs.Position.{Work, ballots, is_agent, standings}
use Rattle.node_defs.specs.Rules.{IsLocal, Rules}
use Rattle.node_defs.specs.Sent.{did_run, run_order}
use Rattle.node_laws.proofs.Agree.{Sound, chain_work, right_at}
use Rattle.node_laws.specs.Fed.{Has}
use Rattle.node_laws.proofs.Few.{IsTameAt}
use Rattle.oxii_defs.specs.Dependency.{depends}
use Rattle.oxii_defs.specs.State.{contains}
use Rattle.txn_types.specs.Fitting.{is_fit}
use Rattle.txn_types.specs.declared.block.Block.{Block}
use Rattle.txn_types.specs.declared.message.Node.{Node}
use Rattle.txn_types.specs.declared.message.Node.TheVariants.{Peer}
use Rattle.txn_types.specs.declared.txn.Outcome.{Outcome}
use Rattle.txn_types.specs.declared.txn.Txn.{Txn}
use Rattle.completion_laws.proofs.Orders.{Closed, Flushed, InBatch, cut_before, flushed_all, flushed_batch, flushed_behind, flushed_here, in_order, order_closed, own_in}
use Rattle.completion_laws.proofs.Places.{agreed_at, agreed_believed, believed_at, did_run_is, knows_ready, own_ran, ran_at, ran_believed, ran_parts, ready_at, ready_knows}
use Rattle.completion_laws.proofs.Voting.{AllVoted, agrees, heard_vote, own_vote}

-- a peer of the table that isn't faulty
abbrev pub Honest : Rules → (Node → Bool) → ℕ → Type 0
Honest r faulty p = (p < length r.table.peers) × (faulty (Peer p) ≡ false)

-- as many agents of the transaction's application as are to agree are peers of the table, and aren't faulty
pub record HasStaff (r : Rules) (faulty : Node → Bool) (t : Txn) : Type 0 where
  pub agents : List ℕ
  pub many : r.tau t.app ≤ length agents
  pub distinct : IsDistinct eqb agents
  pub honest : (p : ℕ) → is_member eqb agents p ≡ true → Honest r faulty p
  pub theirs : (p : ℕ) → is_member eqb agents p ≡ true → is_agent r p t ≡ true

-- what logs have once each message is at each peer: the block is accepted, and what is in a batch of one peer is a vote at each other
pub record AreHeard (r : Rules) (chain : List Block) (liar faulty : Node → Bool) (m : ℕ) (opens : ℕ → Log → Bool) (log : ℕ → Log) : Type 0 where
  pub staff : (t : ℕ) → t < length (block_at chain m).txns → HasStaff r faulty (txn_at (block_at chain m).txns t)
  pub fits : (t : ℕ) → t < length (block_at chain m).txns → is_fit (txn_at (block_at chain m).txns t) (right_at r chain m t) ≡ true
  pub sound : (p : ℕ) → Honest r faulty p → Sound r chain liar (log p)
  pub shut : (p : ℕ) → opens p [] ≡ false
  pub opened : (p : ℕ) → Honest r faulty p → opens p (log p) ≡ true
  pub votes : (g h t : ℕ) → Honest r faulty g → Honest r faulty h → h ≢ g → InBatch r (chain_work r chain h m (opens h)) t (run_order r (chain_work r chain h m (opens h)) (log h)) →
      (o : Outcome) × (e : Letter) × Has e (log g) × Has (h, o) (votes_in r g (suc m) t e)

-- whoever isn't faulty isn't one of those that may say what they like
abbrev pub IsAmong : (Node → Bool) → (Node → Bool) → Type 0
IsAmong faulty liar = (x : Node) → faulty x ≡ false → liar x ≡ false

module _ (r : Rules) (l : IsLocal r) (chain : List Block) (liar faulty : Node → Bool) (among : IsAmong faulty liar) (m : ℕ) (tame : IsTameAt r chain liar m) (within : m < length chain) (opens : ℕ → Log → Bool) (log : ℕ → Log) (all : AreHeard r chain liar faulty m opens log) where
  abbrev n : ℕ
  n = length (block_at chain m).txns

  abbrev txn : ℕ → Txn
  txn t = txn_at (block_at chain m).txns t

  abbrev w : ℕ → Work
  w p = chain_work r chain p m (opens p)

  abbrev order : ℕ → List ℕ
  order p = run_order r (w p) (log p)

  abbrev Depends : ℕ → ℕ → Type 0
  Depends i v = depends r.table.kind (txn i) (txn v) ≡ true

  -- it ran at each of its agents that isn't faulty
  abbrev HasRun : ℕ → Type 0
  HasRun t = (g : ℕ) → Honest r faulty g → is_agent r g (txn t) ≡ true → ran_at r (w g) t (log g) ≡ true

  -- and its vote stands at or behind a cut at each of them
  abbrev IsFlushed : ℕ → Type 0
  IsFlushed t = (h : ℕ) → Honest r faulty h → is_agent r h (txn t) ≡ true → Flushed r (w h) t (order h)

  in_its_order : (v : ℕ) → v < n → HasRun v → (h : ℕ) → Honest r faulty h → is_agent r h (txn v) ≡ true → Has v (order h)
  in_its_order v k ran h good a = in_order r (w h) (all.shut h) (log h) v k (did_run_is r (w h) v (log h) k ∙ ran h good a)

  -- what another application waits for is at a cut
  flushed_for : (i v : ℕ) → i < v → v < n → Depends i v → ((txn v).app == (txn i).app) ≡ false → HasRun i → IsFlushed i
  flushed_for i v k j d other ran h good a = flushed_here r (w h) i (cut_before r (w h) i v k j d other) (order h) (in_its_order i (omega (arith, k, j)) ran h good a)

  same_agents : (i v h : ℕ) → ((txn v).app == (txn i).app) ≡ true → is_agent r h (txn i) ≡ true → is_agent r h (txn v) ≡ true
  same_agents i v h e a = ap (λ app. contains (r.agents app) h) (eqb-true (txn v).app (txn i).app e) ∙ a

  -- at one peer, what ran has run behind what it depends on
  closed_at : (h i v : ℕ) → i < v → v < n → Depends i v → is_agent r h (txn i) ≡ true → Closed v i (order h)
  closed_at h i v k j d a = order_closed r (w h) (all.shut h) v i k j before (log h)
    where
      before : (L : Log) → did_run r (w h) v L ≡ true → did_run r (w h) i L ≡ true
      before L ran =
          let now = sym (did_run_is r (w h) v L j) ∙ ran in
          let known = ready_knows r (w h) L v i (ran_parts r (w h) L v now).1 k j d in
          did_run_is r (w h) i L (omega (arith, k, j)) ∙ own_ran r (w h) L i a known

  -- what v depends on is flushed where v is
  flushed_pred : (i v : ℕ) → i < v → v < n → Depends i v → HasRun i → IsFlushed v → IsFlushed i
  flushed_pred i v k j d ran f h good a =
      ⊎_elim (λ e. flushed_behind r (w h) v i (order h) (closed_at h i v k j d a) (f h good (same_agents i v h e a)))
      (λ e. flushed_for i v k j d e ran h good a) (cases_Bool ((txn v).app == (txn i).app))

  -- what is flushed is agreed at each peer
  agreed_of : (v : ℕ) → v < n → HasRun v → IsFlushed v → (g : ℕ) → Honest r faulty g → is_some (agreed_at r (w g) v (log g)) ≡ true
  agreed_of v k ran f g good =
      let staff = all.staff v k in
      agrees r l chain liar g m v tame (opens g) within k (log g) (all.sound g good) (all.fits v k) staff.agents staff.many staff.distinct voted
    where
      voted : AllVoted r (w g) liar v (log g) (all.staff v k).agents
      voted p i =
          let h = (all.staff v k).honest p i in
          let a = (all.staff v k).theirs p i in
          (among (Peer p) h.1, a, ⊎_elim (λ e. own (eqb-true p g e) a) (λ e. other h a e) (cases_Bool (p == g)))
        where
          own : p ≡ g → is_agent r p (txn v) ≡ true → (o : Outcome) × Has (p, o) (ballots r (w g) v (standings r (w g) v) (log g))
          own e a =
              let z = own_vote r (w g) v (all.shut g) (log g) (ran g good (subst (λ q. is_agent r q (txn v) ≡ true) e a)) in
              (z.0, subst (λ q. Has (q, z.0) (ballots r (w g) v (standings r (w g) v) (log g))) (sym e) z.1)

          other : Honest r faulty p → is_agent r p (txn v) ≡ true → (p == g) ≡ false → (o : Outcome) × Has (p, o) (ballots r (w g) v (standings r (w g) v) (log g))
          other h a e =
              let z = all.votes g p v good h (λ q. false≢true (sym e ∙ eq-eqb p g q)) (flushed_batch r (w p) v (order p) (f p h a)) in
              (z.0, heard_vote r (w g) v (standings r (w g) v) (log g) z.1 (p, z.0) z.2 z.3)

  -- below t, what is a peer's own or flushed is known to it
  known_below : (t : ℕ) → t ≤ n → ((u : ℕ) → u < t → HasRun u) → (g : ℕ) → Honest r faulty g → (k : ℕ) → k ≤ t → (v : ℕ) → v < k → (is_agent r g (txn v) ≡ true) ⊎ IsFlushed v → is_some (believed_at r (w g) v (log g)) ≡ true
  known_below t few ran g good zero j v i e = absurd (omega arith)
  known_below t few ran g good (suc k) j v i e = ⊎_elim (λ b. known_below t few ran g good k (omega (arith, j)) v b e) (λ b. one e (λ u c f. known_below t few ran g good k (omega (arith, j)) u (omega (arith, c, b, i)) f)) (cases_lt v k)
    where
      one : (is_agent r g (txn v) ≡ true) ⊎ IsFlushed v → ((u : ℕ) → u < v → (is_agent r g (txn u) ≡ true) ⊎ IsFlushed u → is_some (believed_at r (w g) u (log g)) ≡ true) → is_some (believed_at r (w g) v (log g)) ≡ true
      one (inl a) before = ran_believed r (w g) (log g) v (ran v (omega (arith, i, j)) g good a)
      one (inr f) before =
          let ready = knows_ready r (w g) (log g) v (all.opened g good) (λ u c d. before u c (inr (flushed_pred u v c (omega (arith, i, j, few)) d (ran u (omega (arith, c, i, j))) f))) in
          agreed_believed r (w g) (log g) v ready (agreed_of v (omega (arith, i, j, few)) (ran v (omega (arith, i, j))) f g good)

  step : (t : ℕ) → t < n → ((u : ℕ) → u < t → HasRun u) → HasRun t
  step t k ran g good a = and_from a (knows_ready r (w g) (log g) t (all.opened g good) known)
    where
      and_from : is_agent r g (txn t) ≡ true → ready_at r (w g) t (log g) ≡ true → ran_at r (w g) t (log g) ≡ true
      and_from p q = both (is_agent r g (txn t)) (ready_at r (w g) t (log g)) p q

      known : (u : ℕ) → u < t → Depends u t → is_some (believed_at r (w g) u (log g)) ≡ true
      known u c d = known_below t (omega (arith, k)) ran g good t (omega arith) u c (⊎_elim (λ e. inl (same_agents t u g (sym_test e) a)) (λ e. inr (flushed_for u t c k d e (ran u c))) (cases_Bool ((txn t).app == (txn u).app)))
        where
          sym_test : ((txn t).app == (txn u).app) ≡ true → ((txn u).app == (txn t).app) ≡ true
          sym_test e = eq-eqb (txn u).app (txn t).app (sym (eqb-true (txn t).app (txn u).app e))

  has_run : (k : ℕ) → k ≤ n → (t : ℕ) → t < k → HasRun t
  has_run zero j t i = absurd (omega arith)
  has_run (suc k) j t i = ⊎_elim (λ e. has_run k (omega (arith, j)) t e) (λ e. subst HasRun (let q : k ≡ t = omega (arith, e, i) in q) (step k (omega (arith, j)) (λ u c. has_run k (omega (arith, j)) u c))) (cases_lt t k)

  -- once all own positions ran, all votes are sent
  is_flushed : (v : ℕ) → v < n → IsFlushed v
  is_flushed v k h good a = flushed_all r (w h) v (order h) (own_in r (w h) (order h) n (λ t j b. in_its_order t j (has_run n (omega arith) t j) h good b)) (in_its_order v k (has_run n (omega arith) v k) h good a)

  -- so each position is agreed at each peer
  pub all_agreed : (g : ℕ) → Honest r faulty g → (v : ℕ) → v < n → is_some (agreed_at r (w g) v (log g)) ≡ true
  all_agreed g good v k = agreed_of v k (has_run n (omega arith) v k) (is_flushed v k) g good
