-- The run order: all that ran stands in it, behind what it depends on, and what stands at or behind a cut is in a batch.
use Rattle.std.specs.Prelude.{ℕ, ◌==◌, ◌+◌, ◌<◌, ◌≤◌, Bool, true, false, ◌&&◌, ◌||◌, not, cond, List, [], ◌∷◌, ◌++◌, length, get_or, filter, Some, ◌≡◌, refl, suc, zero, ◌⊎◌, slice_get}
use Rattle.std.specs.List.{range_with_len}
use Rattle.std.proofs.Common.{sym, ◌∙◌, ap, subst, arith, inl, inr, ⊎_elim}
use Rattle.std.proofs.lemmas.Bool.{and_from, cases_Bool, cases_lt, false≢true, true≢false, eq-eqb}
use Rattle.known_defs.specs.Known.{no_txn, txn_at}
use Rattle.node_defs.specs.Log.{Letter, Log}
use Rattle.node_defs.specs.Position.{Work, is_agent}
use Rattle.node_defs.specs.Rules.{Rules}
use Rattle.node_defs.specs.Sent.{all_own_in, batches, did_run, held, is_cut, newly_ran, other_app_follows, run_order}
use Rattle.node_laws.specs.Fed.{Has}
use Rattle.node_laws.proofs.Same.{or_true}
use Rattle.oxii_defs.specs.Dependency.{depends, graph_of}
use Rattle.oxii_defs.specs.State.{contains}
use Rattle.oxii_defs.proofs.Graphs.{graphs_meant}
use Rattle.txn_types.specs.declared.txn.Txn.{Txn}
use Rattle.completion_laws.proofs.Delivered.{has_left, has_right}
use Rattle.completion_laws.proofs.Enough.{has_filter}
use Rattle.completion_laws.proofs.Places.{closed_ran, did_run_is}

-- ALL THAT RAN

newly_has : (r : Rules) (w : Work) (e : Letter) (L : Log) (n t : ℕ) → t < n → did_run r w t (e ∷ L) ≡ true → did_run r w t L ≡ false → Has t (newly_ran r w e L n)
newly_has r w e L zero t l now before = absurd (omega arith)
newly_has r w e L (suc n) t l now before = ⊎_elim (λ k. one (did_run r w n (e ∷ L) && not (did_run r w n L)) (newly_has r w e L n t k now before)) (λ k. last (let q : t ≡ n = omega (arith, k, l) in q)) (cases_lt t n)
  where
    one : (b : Bool) → Has t (newly_ran r w e L n) → Has t (cond b (n ∷ newly_ran r w e L n) (newly_ran r w e L n))
    one true h = inr h
    one false h = h

    here : (b c : Bool) → b ≡ true → c ≡ false → t ≡ n → Has t (cond (b && not c) (n ∷ newly_ran r w e L n) (newly_ran r w e L n))
    here true false p q i = inl i
    here true true p q i = absurd (true≢false q)
    here false c p q i = absurd (false≢true p)

    last : t ≡ n → Has t (cond (did_run r w n (e ∷ L) && not (did_run r w n L)) (n ∷ newly_ran r w e L n) (newly_ran r w e L n))
    last q = here (did_run r w n (e ∷ L)) (did_run r w n L) (subst (λ j. did_run r w j (e ∷ L) ≡ true) q now) (subst (λ j. did_run r w j L ≡ false) q before) q

pub in_order : (r : Rules) (w : Work) → w.opens [] ≡ false → (L : Log) (t : ℕ) → t < length w.txns → did_run r w t L ≡ true → Has t (run_order r w L)
in_order r w op [] t l h = absurd (false≢true (sym (did_run_is r w t [] l ∙ closed_ran r w [] t op) ∙ h))
in_order r w op (e ∷ L) t l h =
    ⊎_elim (λ k. has_right (newly_ran r w e L (length w.txns)) (run_order r w L) t (in_order r w op L t l k))
    (λ k. has_left (newly_ran r w e L (length w.txns)) (run_order r w L) t (newly_has r w e L (length w.txns) t l h k)) (cases_Bool (did_run r w t L))

-- IN ORDER

-- wherever v stands, i stands there or behind it
abbrev pub Closed : ℕ → ℕ → List ℕ → Type 0
Closed v i [] = Unit {0}
Closed v i (x ∷ ts) = (Has v (x ∷ ts) → Has i (x ∷ ts)) × Closed v i ts

closed_head : (v i : ℕ) (ts : List ℕ) → Closed v i ts → Has v ts → Has i ts
closed_head v i [] c h = h
closed_head v i (x ∷ ts) c h = c.0 h

module _ (r : Rules) (w : Work) (op : w.opens [] ≡ false) (v i : ℕ) (less : i < v) (few : v < length w.txns) (before : (L : Log) → did_run r w v L ≡ true → did_run r w i L ≡ true) where
  newly_closed : (e : Letter) (L : Log) → Closed v i (run_order r w L) → (n : ℕ) → Closed v i (newly_ran r w e L n ++ run_order r w L)
  newly_closed e L c zero = c
  newly_closed e L c (suc n) = one (did_run r w n (e ∷ L)) refl (not (did_run r w n L)) (newly_closed e L c n)
    where
      rest : List ℕ
      rest = newly_ran r w e L n ++ run_order r w L

      one : (a : Bool) → did_run r w n (e ∷ L) ≡ a → (b : Bool) → Closed v i (newly_ran r w e L n ++ run_order r w L) →
          Closed v i (cond (a && b) (n ∷ newly_ran r w e L n) (newly_ran r w e L n) ++ run_order r w L)
      one false h b more = more
      one true h false more = more
      one true h true more = (pick, more)
        where
          pick : Has v (n ∷ (newly_ran r w e L n ++ run_order r w L)) → Has i (n ∷ (newly_ran r w e L n ++ run_order r w L))
          pick (inl q) =
              let now : did_run r w i (e ∷ L) ≡ true = before (e ∷ L) (subst (λ j. did_run r w j (e ∷ L) ≡ true) (sym q) h) in
              inr (⊎_elim (λ k. has_right (newly_ran r w e L n) (run_order r w L) i (in_order r w op L i (omega (arith, less, few)) k))
              (λ k. has_left (newly_ran r w e L n) (run_order r w L) i (newly_has r w e L n i (omega (arith, less, q)) now k)) (cases_Bool (did_run r w i L)))
          pick (inr q) = inr (closed_head v i (newly_ran r w e L n ++ run_order r w L) more q)

  pub order_closed : (L : Log) → Closed v i (run_order r w L)
  order_closed [] = tt
  order_closed (e ∷ L) = newly_closed e L (order_closed L) (length w.txns)

-- CUTS

-- t stands at a cut, or behind one
abbrev pub Flushed : Rules → Work → ℕ → List ℕ → Type 0
Flushed r w t [] = ⊥
Flushed r w t (x ∷ ts) = ((is_cut r w (x ∷ ts) ≡ true) × Has t (x ∷ ts)) ⊎ Flushed r w t ts

pub flushed_behind : (r : Rules) (w : Work) (v i : ℕ) (ts : List ℕ) → Closed v i ts → Flushed r w v ts → Flushed r w i ts
flushed_behind r w v i [] c f = f
flushed_behind r w v i (x ∷ ts) c (inl f) = inl (f.0, c.0 f.1)
flushed_behind r w v i (x ∷ ts) c (inr f) = inr (flushed_behind r w v i ts c.1 f)

pub flushed_here : (r : Rules) (w : Work) (v : ℕ) → ((ts : List ℕ) → is_cut r w (v ∷ ts) ≡ true) → (ts : List ℕ) → Has v ts → Flushed r w v ts
flushed_here r w v cut [] h = h
flushed_here r w v cut (x ∷ ts) (inl q) = inl (subst (λ j. is_cut r w (j ∷ ts) ≡ true) q (cut ts), inl q)
flushed_here r w v cut (x ∷ ts) (inr q) = inr (flushed_here r w v cut ts q)

pub flushed_all : (r : Rules) (w : Work) (v : ℕ) (ts : List ℕ) → all_own_in r w ts (length w.txns) ≡ true → Has v ts → Flushed r w v ts
flushed_all r w v [] own h = h
flushed_all r w v (x ∷ ts) own h = inl (ap (λ b. other_app_follows x (txn_at w.txns x).app (graph_of r.table.kind w.txns) w.txns || b) own ∙ or_true (other_app_follows x (txn_at w.txns x).app (graph_of r.table.kind w.txns) w.txns), h)

-- t is in a batch
abbrev pub InBatch : Rules → Work → ℕ → List ℕ → Type 0
InBatch r w t ts = (b : List ℕ) × Has b (batches r w ts) × Has t b

batch_more : (r : Rules) (w : Work) (t x : ℕ) (ts : List ℕ) → InBatch r w t ts → InBatch r w t (x ∷ ts)
batch_more r w t x ts (b, h, k) = (b, one (is_cut r w (x ∷ ts)), k)
  where
    one : (c : Bool) → Has b (cond c ((x ∷ held r w ts) ∷ batches r w ts) (batches r w ts))
    one true = inr h
    one false = h

held_or_batch : (r : Rules) (w : Work) (t : ℕ) (ts : List ℕ) → Has t ts → Has t (held r w ts) ⊎ InBatch r w t ts
held_or_batch r w t [] h = absurd h
held_or_batch r w t (x ∷ ts) h = one (is_cut r w (x ∷ ts)) refl h (λ k. held_or_batch r w t ts k)
  where
    last : is_cut r w (x ∷ ts) ≡ true → Has t (x ∷ held r w ts) → InBatch r w t (x ∷ ts)
    last e k = (x ∷ held r w ts, at (is_cut r w (x ∷ ts)) e, k)
      where
        at : (c : Bool) → c ≡ true → Has (x ∷ held r w ts) (cond c ((x ∷ held r w ts) ∷ batches r w ts) (batches r w ts))
        at true q = inl refl
        at false q = absurd (false≢true q)

    one : (c : Bool) → is_cut r w (x ∷ ts) ≡ c → Has t (x ∷ ts) → (Has t ts → Has t (held r w ts) ⊎ InBatch r w t ts) → Has t (cond c [] (x ∷ held r w ts)) ⊎ InBatch r w t (x ∷ ts)
    one true e (inl q) more = inr (last e (inl q))
    one true e (inr q) more = ⊎_elim (λ k. inr (last e (inr k))) (λ k. inr (batch_more r w t x ts k)) (more q)
    one false e (inl q) more = inl (inl q)
    one false e (inr q) more = ⊎_elim (λ k. inl (inr k)) (λ k. inr (batch_more r w t x ts k)) (more q)

pub flushed_batch : (r : Rules) (w : Work) (t : ℕ) (ts : List ℕ) → Flushed r w t ts → InBatch r w t ts
flushed_batch r w t [] f = absurd f
flushed_batch r w t (x ∷ ts) (inr f) = batch_more r w t x ts (flushed_batch r w t ts f)
flushed_batch r w t (x ∷ ts) (inl f) = two (held_or_batch r w t (x ∷ ts) f.1)
  where
    none : (c : Bool) → c ≡ true → Has t (cond c [] (x ∷ held r w ts)) → InBatch r w t (x ∷ ts)
    none true e h = absurd h
    none false e h = absurd (false≢true e)

    two : Has t (held r w (x ∷ ts)) ⊎ InBatch r w t (x ∷ ts) → InBatch r w t (x ∷ ts)
    two (inl h) = none (is_cut r w (x ∷ ts)) f.0 h
    two (inr h) = h

-- ALL OWN

pub has_contains : (ts : List ℕ) (t : ℕ) → Has t ts → contains ts t ≡ true
has_contains [] t h = absurd h
has_contains (x ∷ ts) t (inl q) = ap (λ b. b || contains ts t) (eq-eqb t x q)
has_contains (x ∷ ts) t (inr q) = ap (λ b. (t == x) || b) (has_contains ts t q) ∙ or_true (t == x)

pub own_in : (r : Rules) (w : Work) (ts : List ℕ) (n : ℕ) → ((t : ℕ) → t < n → is_agent r w.me (txn_at w.txns t) ≡ true → Has t ts) → all_own_in r w ts n ≡ true
own_in r w ts zero h = refl
own_in r w ts (suc n) h = and_from _ _ (one (is_agent r w.me (txn_at w.txns n)) refl) (own_in r w ts n (λ t l a. h t (omega (arith, l)) a))
  where
    one : (a : Bool) → is_agent r w.me (txn_at w.txns n) ≡ a → (not a || contains ts n) ≡ true
    one true e = has_contains ts n (h n (omega arith) e)
    one false e = refl

-- ANOTHER APPLICATION WAITS

at_some : {A : Type 0} (xs : List A) (v : ℕ) (d : A) → v < length xs → slice_get xs v ≡ Some (get_or xs v d)
at_some [] v d h = absurd (omega arith)
at_some (x ∷ xs) zero d h = refl
at_some (x ∷ xs) (suc v) d h = at_some xs v d (omega arith)

pub any_default : {A : Type 0} (xs : List A) (v : ℕ) (d e : A) → v < length xs → get_or xs v d ≡ get_or xs v e
any_default [] v d e h = absurd (omega arith)
any_default (x ∷ xs) zero d e h = refl
any_default (x ∷ xs) (suc v) d e h = any_default xs v d e (omega arith)

in_range : (i n k : ℕ) → i ≤ k → k < i + n → Has k (range_with_len i n)
in_range i zero k l h = absurd (omega arith)
in_range i (suc n) k l h = two (cases_lt i k) (λ e. in_range (i + 1) n k (omega (arith, e)) (omega (arith, h)))
  where
    two : (i < k) ⊎ (k ≤ i) → (i < k → Has k (range_with_len (i + 1) n)) → Has k (i ∷ range_with_len (i + 1) n)
    two (inl e) more = inr (more e)
    two (inr e) more = inl (let q : k ≡ i = omega (arith, e, l) in q)

waits : (t app v : ℕ) (preds : List (List ℕ)) (later : List Txn) → v < length preds → v < length later → contains (get_or preds v []) t ≡ true → ((txn_at later v).app == app) ≡ false → other_app_follows t app preds later ≡ true
waits t app v [] later l k c o = absurd (omega arith)
waits t app v (ps ∷ preds) [] l k c o = absurd (omega arith)
waits t app zero (ps ∷ preds) (u ∷ later) l k c o = ap (λ b. b || other_app_follows t app preds later) (and_from (contains ps t) (not (u.app == app)) c (ap not o))
waits t app (suc v) (ps ∷ preds) (u ∷ later) l k c o = ap (λ b. (contains ps t && not (u.app == app)) || b) (waits t app v preds later (omega arith) (omega arith) c o) ∙ or_true (contains ps t && not (u.app == app))

-- what a later transaction of another application depends on is a cut
pub cut_before : (r : Rules) (w : Work) (i v : ℕ) → i < v → v < length w.txns → depends r.table.kind (txn_at w.txns i) (txn_at w.txns v) ≡ true → ((txn_at w.txns v).app == (txn_at w.txns i).app) ≡ false → (ts : List ℕ) → is_cut r w (i ∷ ts) ≡ true
cut_before r w i v l k d o ts =
    let kind = r.table.kind in
    let later = txn_at w.txns v in
    let g = graphs_meant kind w.txns in
    let pairs = g.pairs v later (at_some w.txns v no_txn k) in
    let d_here : depends kind (get_or w.txns i later) later ≡ true = ap (λ t. depends kind t later) (any_default w.txns i later no_txn (omega (arith, l, k))) ∙ d in
    let has = has_filter (λ j. depends kind (get_or w.txns j later) later) (range_with_len 0 v) i (in_range 0 v i (omega arith) (omega (arith, l))) d_here in
    let c : contains (get_or (graph_of kind w.txns) v []) i ≡ true = ap (λ ps. contains ps i) pairs ∙ has_contains (filter (λ j. depends kind (get_or w.txns j later) later) (range_with_len 0 v)) i has in
    let f = waits i (txn_at w.txns i).app v (graph_of kind w.txns) w.txns (omega (arith, g.one_each, k)) k c o in
    ap (λ b. b || all_own_in r w (i ∷ ts) (length w.txns)) f
