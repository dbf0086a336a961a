-- Growth: what a log has accepted, run, agreed, known and completed stays so for each longer log
use Rattle.std.specs.Prelude.{ℕ, ◌==◌, ◌≤◌, Bool, true, false, ◌&&◌, ◌||◌, not, cond, List, [], ◌∷◌, ◌++◌, map, length, filter_map, Option, Some, None, is_some, unwrap_or, option_map, ◌≡◌, refl, suc, zero}
use Rattle.std.specs.List.{list_all, cons_option}
use Rattle.std.proofs.Common.{sym, ◌∙◌, ap, subst, arith}
use Rattle.std.proofs.lemmas.Bool.{and_parts, and_from, not-false, not-true, true≢false, false≢true, eqb-true}
use Rattle.std.proofs.lemmas.Option.{none-some, same_Some}
use Rattle.std.proofs.lemmas.List.{length-append, nil_from_length}
use Rattle.known_defs.specs.Known.{knows_all, no_outcome, txn_at}
use Rattle.node_defs.specs.Accepted.{accepted, accepted_after, tip}
use Rattle.node_defs.specs.Ledger.{agreed_outcome, with_entry, completed, completed_with, differs, is_agreed, work_on}
use Rattle.node_defs.specs.Log.{Letter, Log, newblock_in}
use Rattle.node_defs.specs.Position.{Standing, Work, agreed, ballots, is_agent, is_ready, own_outcome, standing, standings}
use Rattle.node_defs.specs.Rules.{IsLocal, Rules, in_force}
use Rattle.node_defs.specs.Same.{same_block, same_list, same_number, same_outcome}
use Rattle.node_defs.proofs.SameLemmas.{same_outcome_decides}
use Rattle.node_laws.proofs.Counting.{grew_filter, grew_first, grew_map, stays_reached}
use Rattle.node_laws.proofs.Order.{same_outcome_through}
use Rattle.node_laws.proofs.Same.{Within, or_true}
use Rattle.node_laws.specs.Growth.{Grew, KeepAll, Keeps}
use Rattle.oxii_defs.specs.Dependency.{depends}
use Rattle.oxii_defs.specs.Lines.{Entry}
use Rattle.txn_types.specs.Fitting.{is_fit}
use Rattle.txn_types.specs.declared.block.Block.{Block}
use Rattle.txn_types.specs.declared.txn.Kind.{Kind}
use Rattle.txn_types.specs.declared.txn.Outcome.{Outcome}
use Rattle.txn_types.specs.declared.txn.Txn.{Txn}

-- ONE POSITION

abbrev pub beliefs : List Standing → List (Option Outcome)
beliefs xs = map (λ (s : Standing). s.believed) xs

within_one : (a b : Option Outcome) → ((o : Outcome) → a ≡ Some o → b ≡ Some o) → Within (a ∷ []) (b ∷ [])
within_one None b h = tt
within_one (Some o) b h = (h o refl, tt)

within_cons : (a b : Option Outcome) (xs ys : List (Option Outcome)) → ((o : Outcome) → a ≡ Some o → b ≡ Some o) → Within xs ys → Within (a ∷ xs) (b ∷ ys)
within_cons None b xs ys h w = w
within_cons (Some o) b xs ys h w = (h o refl, w)

pub within_beliefs : (xs ys : List Standing) → KeepAll xs ys → Within (beliefs xs) (beliefs ys)
within_beliefs [] [] k = tt
within_beliefs [] (y ∷ ys) k = absurd k
within_beliefs (x ∷ xs) [] k = absurd k
within_beliefs (x ∷ xs) (y ∷ ys) k = within_cons x.believed y.believed (beliefs xs) (beliefs ys) k.0.believed (within_beliefs xs ys k.1)

keep_push : (xs ys : List Standing) (x y : Standing) → KeepAll xs ys → Keeps x y → KeepAll (xs ++ x ∷ []) (ys ++ y ∷ [])
keep_push [] [] x y k h = (h, tt)
keep_push [] (b ∷ ys) x y k h = absurd k
keep_push (a ∷ xs) [] x y k h = absurd k
keep_push (a ∷ xs) (b ∷ ys) x y k h = (k.0, keep_push xs ys x y k.1 h)

-- what was known of all that t depends on is still known
pub knows_still : (kind : Kind) (t : Txn) (ts : List Txn) (xs ys : List (Option Outcome)) → Within xs ys → knows_all kind t ts xs ≡ true → knows_all kind t ts ys ≡ true
knows_still kind t [] xs ys w k = refl
knows_still kind t (a ∷ ts) [] [] w k = refl
knows_still kind t (a ∷ ts) [] (y ∷ ys) w k = absurd w
knows_still kind t (a ∷ ts) (Some o ∷ xs) [] w k = absurd w
knows_still kind t (a ∷ ts) (None ∷ xs) [] w k = absurd w
knows_still kind t (a ∷ ts) (Some o ∷ xs) (y ∷ ys) w k =
    let p = and_parts (not (depends kind a t) || true) (knows_all kind t ts xs) k in
    and_from _ _ (rw w.0 p.0) (knows_still kind t ts xs ys w.1 p.1)
knows_still kind t (a ∷ ts) (None ∷ xs) (y ∷ ys) w k =
    let p = and_parts (not (depends kind a t) || false) (knows_all kind t ts xs) k in
    and_from _ _ (either (not (depends kind a t)) (is_some y) p.0) (knows_still kind t ts xs ys w p.1)
  where
    either : (b c : Bool) → (b || false) ≡ true → (b || c) ≡ true
    either true c h = refl
    either false c h = absurd (false≢true h)

believed_keeps : (agent r s : Bool) (u v : Outcome) (a b : Option Outcome) → (r ≡ true → s ≡ true) → (r ≡ true → u ≡ v) → ((o : Outcome) → a ≡ Some o → b ≡ Some o) → (o : Outcome) → cond (agent && r) (Some u) (cond r a None) ≡ Some o → cond (agent && s) (Some v) (cond s b None) ≡ Some o
believed_keeps agent true false u v a b rs uv ab o h = absurd (false≢true (rs refl))
believed_keeps true true true u v a b rs uv ab o h = ap Some (sym (uv refl)) ∙ h
believed_keeps false true true u v a b rs uv ab o h = ab o h
believed_keeps true false s u v a b rs uv ab o h = absurd (none-some o h)
believed_keeps false false s u v a b rs uv ab o h = absurd (none-some o h)

-- once block n is accepted, it is
abbrev pub StaysOpen : Work → Type 0
StaysOpen w = (e : Letter) (L : Log) → w.opens L ≡ true → w.opens (e ∷ L) ≡ true

abbrev pub Earlier : (Log → List Standing) → Type 0
Earlier earlier = (e : Letter) (L : Log) → KeepAll (earlier L) (earlier (e ∷ L))

pub ready_keeps : (rules : Rules) (w : Work) (t : ℕ) (earlier : Log → List Standing) → StaysOpen w → Earlier earlier → (e : Letter) (L : Log) → is_ready rules w t (w.opens L) (earlier L) ≡ true → is_ready rules w t (w.opens (e ∷ L)) (earlier (e ∷ L)) ≡ true
ready_keeps rules w t earlier op k e L h =
    let p = and_parts (w.opens L) (knows_all rules.table.kind (txn_at w.txns t) w.txns (beliefs (earlier L))) h in
    and_from _ _ (op e L p.0) (knows_still rules.table.kind (txn_at w.txns t) w.txns (beliefs (earlier L)) (beliefs (earlier (e ∷ L))) (within_beliefs (earlier L) (earlier (e ∷ L)) (k e L)) p.1)

agreed_keeps : (rules : Rules) (w : Work) (t : ℕ) (earlier : Log → List Standing) (e : Letter) (L : Log) (o : Outcome) → agreed rules w t earlier L ≡ Some o → agreed rules w t earlier (e ∷ L) ≡ Some o
agreed_keeps rules w t earlier e L o h =
    stays_reached same_outcome (rules.tau (txn_at w.txns t).app) _ _ o
    (grew_filter (is_fit (txn_at w.txns t)) _ _ (grew_map (λ (v : ℕ × Outcome). v.1) _ _ (grew_filter (λ (v : ℕ × Outcome). is_agent rules v.0 (txn_at w.txns t)) _ _ (grew_first (ballots rules w t earlier L) (ballots rules w t earlier (e ∷ L)) (record { new = _; is = refl }))))) h

standing_keeps : (rules : Rules) → IsLocal rules → (w : Work) (t : ℕ) (earlier : Log → List Standing) → StaysOpen w → Earlier earlier → (e : Letter) (L : Log) → Keeps (standing rules w t earlier L) (standing rules w t earlier (e ∷ L))
standing_keeps rules l w t earlier op k e L = record {
  ran = λ h. let p = and_parts (is_agent rules w.me (txn_at w.txns t)) (is_ready rules w t (w.opens L) (earlier L)) h in and_from _ _ p.0 (ready_keeps rules w t earlier op k e L p.1);
  agreed = agreed_keeps rules w t earlier e L;
  believed = believed_keeps (is_agent rules w.me (txn_at w.txns t)) (is_ready rules w t (w.opens L) (earlier L)) (is_ready rules w t (w.opens (e ∷ L)) (earlier (e ∷ L)))
      (own_outcome rules w t earlier L) (own_outcome rules w t earlier (e ∷ L)) (agreed rules w t earlier L) (agreed rules w t earlier (e ∷ L))
      (ready_keeps rules w t earlier op k e L)
      (λ h. let p = and_parts (w.opens L) (knows_all rules.table.kind (txn_at w.txns t) w.txns (beliefs (earlier L))) h in
      same_outcome_through rules l w.base (txn_at w.txns t) w.txns (beliefs (earlier L)) (beliefs (earlier (e ∷ L))) p.1 (within_beliefs (earlier L) (earlier (e ∷ L)) (k e L)))
      (agreed_keeps rules w t earlier e L);
}

pub standings_keep : (rules : Rules) → IsLocal rules → (w : Work) → StaysOpen w → (t : ℕ) (e : Letter) (L : Log) → KeepAll (standings rules w t L) (standings rules w t (e ∷ L))
standings_keep rules l w op zero e L = tt
standings_keep rules l w op (suc t) e L =
    keep_push (standings rules w t L) (standings rules w t (e ∷ L)) _ _ (standings_keep rules l w op t e L)
    (standing_keeps rules l w t (standings rules w t) op (standings_keep rules l w op t) e L)

-- ONE BLOCK

-- a position that is agreed and known, and did not differ, is agreed with the same outcome and does not differ later
agreed_still : (x y : Standing) → Keeps x y → (o : Outcome) → x.believed ≡ Some o → (x.ran ≡ false → x.believed ≡ x.agreed) → is_agreed x ≡ true → (is_agreed y ≡ true) × (agreed_outcome x ≡ agreed_outcome y)
agreed_still x y k o known unran h = go x.agreed refl
  where
    parts : (is_some x.agreed ≡ true) × (not (differs x) ≡ true)
    parts = and_parts (is_some x.agreed) (not (differs x)) h

    calm : (a : Outcome) → x.agreed ≡ Some a → y.agreed ≡ Some a → y.believed ≡ Some o → same_outcome a o ≡ true → differs y ≡ false
    calm a e f g same = elim y.ran as (λ b. (b && unwrap_or (option_map (λ p. not (same_outcome p (unwrap_or y.believed p))) y.agreed) false) ≡ false) [ false ↦ refl | true ↦ rw f (rw g (rw same refl)) ]

    like : (a : Outcome) → x.agreed ≡ Some a → (b : Bool) → x.ran ≡ b → same_outcome a o ≡ true
    like a e false r = let q : a ≡ o = same_Some a o (sym e ∙ (sym (unran r) ∙ known)) in subst (λ p. same_outcome a p ≡ true) q ((same_outcome_decides a a).1 refl)
    like a e true r = not-false (same_outcome a o) (let d : differs x ≡ false = not-true (differs x) parts.1 in let i : differs x ≡ not (same_outcome a o) = rw r (rw e (rw known refl)) in sym i ∙ d)

    go : (a : Option Outcome) → x.agreed ≡ a → (is_agreed y ≡ true) × (agreed_outcome x ≡ agreed_outcome y)
    go None e = absurd (false≢true (sym (ap is_some e) ∙ parts.0))
    go (Some a) e =
        let f = k.agreed a e in
        (and_from (is_some y.agreed) (not (differs y)) (ap is_some f) (ap not (calm a e f (k.believed o known) (like a e x.ran refl))), ap (λ b. unwrap_or b no_outcome) (e ∙ sym f))

-- where all that came before is known, and all of this is agreed, all of this is known
abbrev pub AllKnown : List Standing → Type 0
AllKnown [] = Unit {0}
AllKnown (x ∷ xs) = ((o : Outcome) × (x.believed ≡ Some o) × (x.ran ≡ false → x.believed ≡ x.agreed)) × AllKnown xs

known_push : (xs : List Standing) (x : Standing) → AllKnown xs → (o : Outcome) × (x.believed ≡ Some o) × (x.ran ≡ false → x.believed ≡ x.agreed) → AllKnown (xs ++ x ∷ [])
known_push [] x k h = (h, tt)
known_push (y ∷ ys) x k h = (k.0, known_push ys x k.1 h)

pub knows_known : (kind : Kind) (t : Txn) (ts : List Txn) (xs : List Standing) → AllKnown xs → knows_all kind t ts (beliefs xs) ≡ true
knows_known kind t [] xs k = refl
knows_known kind t (a ∷ ts) [] k = refl
knows_known kind t (a ∷ ts) (x ∷ xs) k = and_from _ _ (rw k.0.1 (or_true (not (depends kind a t)))) (knows_known kind t ts xs k.1)

pub all_push : {A : Type 0} (p : A → Bool) (xs : List A) (x : A) → list_all p (xs ++ x ∷ []) ≡ true → (list_all p xs ≡ true) × (p x ≡ true)
all_push p [] x h = (refl, (and_parts (p x) true h).0)
all_push p (y ∷ ys) x h = let q = and_parts (p y) (list_all p (ys ++ x ∷ [])) h in let r = all_push p ys x q.1 in (and_from _ _ q.0 r.0, r.1)

pub all_known : (rules : Rules) (w : Work) (t : ℕ) (L : Log) → w.opens L ≡ true → list_all is_agreed (standings rules w t L) ≡ true → AllKnown (standings rules w t L)
all_known rules w zero L op h = tt
all_known rules w (suc t) L op h =
    let p = all_push is_agreed (standings rules w t L) (standing rules w t (standings rules w t) L) h in
    let before = all_known rules w t L op p.0 in
    let ready = and_from (w.opens L) (knows_all rules.table.kind (txn_at w.txns t) w.txns (beliefs (standings rules w t L))) op (knows_known rules.table.kind (txn_at w.txns t) w.txns (standings rules w t L) before) in
    known_push (standings rules w t L) (standing rules w t (standings rules w t) L) before
    (one (is_agent rules w.me (txn_at w.txns t)) (is_ready rules w t (w.opens L) (standings rules w t L)) ready (agreed rules w t (standings rules w t) L) (and_parts _ _ p.1).0)
  where
    one : (agent r : Bool) → r ≡ true → (a : Option Outcome) → is_some a ≡ true → (o : Outcome) × (cond (agent && r) (Some (own_outcome rules w t (standings rules w t) L)) (cond r a None) ≡ Some o) × ((agent && r) ≡ false → cond (agent && r) (Some (own_outcome rules w t (standings rules w t) L)) (cond r a None) ≡ a)
    one agent false h a s = absurd (false≢true h)
    one agent true h None s = absurd (false≢true s)
    one true true h (Some a) s = (own_outcome rules w t (standings rules w t) L, refl, λ f. absurd (true≢false f))
    one false true h (Some a) s = (a, refl, λ f. refl)

agreed_all : (xs ys : List Standing) → KeepAll xs ys → AllKnown xs → list_all is_agreed xs ≡ true → (list_all is_agreed ys ≡ true) × (map agreed_outcome xs ≡ map agreed_outcome ys)
agreed_all [] [] k n h = (refl, refl)
agreed_all [] (y ∷ ys) k n h = absurd k
agreed_all (x ∷ xs) [] k n h = absurd k
agreed_all (x ∷ xs) (y ∷ ys) k n h =
    let p = and_parts (is_agreed x) (list_all is_agreed xs) h in
    let one = agreed_still x y k.0 n.0.0 n.0.1 n.0.2 p.0 in
    let more = agreed_all xs ys k.1 n.1 p.1 in
    (and_from _ _ one.0 more.0, cc)

-- THE LEDGER

pub accepted_keeps : (rules : Rules) (n : ℕ) (tip : List ℕ) (e : Letter) (L : Log) (b : Block) → accepted rules n tip L ≡ Some b → accepted rules n tip (e ∷ L) ≡ Some b
accepted_keeps rules n tip e L b h =
    stays_reached same_block rules.table.quorum _ _ b
    (grew_filter (λ c. same_list same_number c.prev tip) _ _ (grew_map (λ (x : ℕ × Block). x.1) _ _ (grew_first (filter_map (newblock_in rules n) L) (filter_map (newblock_in rules n) (e ∷ L)) (front (newblock_in rules n e))))) h
  where
    front : (o : Option (ℕ × Block)) → Grew (filter_map (newblock_in rules n) L) (cons_option o (filter_map (newblock_in rules n) L))
    front None = record { new = []; is = refl }
    front (Some x) = record { new = x ∷ []; is = refl }

-- at most n blocks
pub completed_few : (rules : Rules) (me m : ℕ) (L : Log) → length (completed rules me m L) ≤ m
completed_few rules me zero L = omega arith
completed_few rules me (suc m) L = one (accepted_after rules m (completed rules me m L) L) (completed_few rules me m L)
  where
    one : (o : Option Block) → length (completed rules me m L) ≤ m → length (completed_with rules me m (completed rules me m) L o) ≤ suc m
    one None h = omega arith
    one (Some b) h = elim (list_all is_agreed (standings (in_force rules (completed rules me m L)) (work_on rules me m (completed rules me m) L b) (length b.txns) L)) as (λ t. length (cond t (record { block = b; outcomes = map agreed_outcome (standings (in_force rules (completed rules me m L)) (work_on rules me m (completed rules me m) L b) (length b.txns) L) } ∷ completed rules me m L) (completed rules me m L)) ≤ suc m) [ true ↦ omega arith | false ↦ omega arith ]

grew_full : {A : Type 0} (m : ℕ) (xs ys : List A) → Grew xs ys → length xs ≡ m → length ys ≤ m → ys ≡ xs
grew_full m xs ys g e l =
    let n : length g.new ≡ 0 = omega (arith, ap length g.is, length-append g.new xs) in
    g.is ∙ ap (λ zs. zs ++ xs) (nil_from_length g.new n)

abbrev pub LedgerGrows : Rules → ℕ → ℕ → Type 0
LedgerGrows rules me m = (e : Letter) (L : Log) → Grew (completed rules me m L) (completed rules me m (e ∷ L))

pub full_stays : (rules : Rules) (me m : ℕ) → LedgerGrows rules me m → (e : Letter) (L : Log) → length (completed rules me m L) ≡ m → completed rules me m (e ∷ L) ≡ completed rules me m L
full_stays rules me m g e L h = grew_full m (completed rules me m L) (completed rules me m (e ∷ L)) (g e L) h (completed_few rules me m (e ∷ L))

pub after_keeps : (rules : Rules) (me m : ℕ) → LedgerGrows rules me m → (e : Letter) (L : Log) (b : Block) → accepted_after rules m (completed rules me m L) L ≡ Some b → (accepted_after rules m (completed rules me m (e ∷ L)) (e ∷ L) ≡ Some b) × (completed rules me m (e ∷ L) ≡ completed rules me m L)
after_keeps rules me m g e L b h = one (length (completed rules me m L) == m) refl h
  where
    one : (c : Bool) → (length (completed rules me m L) == m) ≡ c → cond c (accepted rules (suc m) (tip rules (completed rules me m L)) L) None ≡ Some b → (accepted_after rules m (completed rules me m (e ∷ L)) (e ∷ L) ≡ Some b) × (completed rules me m (e ∷ L) ≡ completed rules me m L)
    one false q k = absurd (none-some b k)
    one true q k =
        let same = full_stays rules me m g e L (eqb-true _ _ q) in
        (rw same (rw q (accepted_keeps rules (suc m) (tip rules (completed rules me m L)) e L b k)), same)

pub stays_open : (rules : Rules) (me m : ℕ) → LedgerGrows rules me m → (L : Log) (b : Block) → StaysOpen (work_on rules me m (completed rules me m) L b)
stays_open rules me m g K b e L h = one (accepted_after rules m (completed rules me m L) L) refl h
  where
    one : (o : Option Block) → accepted_after rules m (completed rules me m L) L ≡ o → is_some o ≡ true → is_some (accepted_after rules m (completed rules me m (e ∷ L)) (e ∷ L)) ≡ true
    one None q k = absurd (false≢true k)
    one (Some c) q k = ap is_some (after_keeps rules me m g e L c q).0

closed_grows : (b : Block) (xs ys : List Standing) (done : List Entry) → (list_all is_agreed xs ≡ true → (list_all is_agreed ys ≡ true) × (map agreed_outcome xs ≡ map agreed_outcome ys)) → Grew (with_entry b xs done) (with_entry b ys done)
closed_grows b xs ys done h = one (list_all is_agreed xs) refl (list_all is_agreed ys) refl
  where
    one : (c : Bool) → list_all is_agreed xs ≡ c → (d : Bool) → list_all is_agreed ys ≡ d → Grew (cond c (record { block = b; outcomes = map agreed_outcome xs } ∷ done) done) (cond d (record { block = b; outcomes = map agreed_outcome ys } ∷ done) done)
    one true p true q = record { new = []; is = rw (h p).1 refl }
    one true p false q = absurd (true≢false (sym (h p).0 ∙ q))
    one false p true q = record { new = record { block = b; outcomes = map agreed_outcome ys } ∷ []; is = refl }
    one false p false q = record { new = []; is = refl }

closed_more : (b : Block) (all : List Standing) (xs done : List Entry) → Grew xs done → Grew xs (with_entry b all done)
closed_more b all xs done g = elim (list_all is_agreed all) as (λ t. Grew xs (cond t (record { block = b; outcomes = map agreed_outcome all } ∷ done) done)) [ true ↦ record { new = record { block = b; outcomes = map agreed_outcome all } ∷ g.new; is = ap (λ zs. record { block = b; outcomes = map agreed_outcome all } ∷ zs) g.is } | false ↦ g ]

pub ledger_grows : (rules : Rules) → IsLocal rules → (me m : ℕ) → LedgerGrows rules me m
ledger_grows rules l me zero e L = record { new = []; is = refl }
ledger_grows rules l me (suc m) e L = one (accepted_after rules m (completed rules me m L) L) refl (ledger_grows rules l me m)
  where
    more : (o : Option Block) → Grew (completed rules me m L) (completed rules me m (e ∷ L)) → Grew (completed rules me m L) (completed_with rules me m (completed rules me m) (e ∷ L) o)
    more None g = g
    more (Some b) g = closed_more b (standings (in_force rules (completed rules me m (e ∷ L))) (work_on rules me m (completed rules me m) (e ∷ L) b) (length b.txns) (e ∷ L)) (completed rules me m L) (completed rules me m (e ∷ L)) g

    one : (o : Option Block) → accepted_after rules m (completed rules me m L) L ≡ o → LedgerGrows rules me m → Grew (completed_with rules me m (completed rules me m) L o) (completed rules me (suc m) (e ∷ L))
    one None q g = more (accepted_after rules m (completed rules me m (e ∷ L)) (e ∷ L)) (g e L)
    one (Some b) q g =
        let k = after_keeps rules me m g e L b q in
        let w = work_on rules me m (completed rules me m) L b in
        let op = stays_open rules me m g L b in
        let r = in_force rules (completed rules me m L) in
        rw k.0 (rw k.1 (closed_grows b (standings r w (length b.txns) L) (standings r w (length b.txns) (e ∷ L)) (completed rules me m L)
        (λ h. agreed_all (standings r w (length b.txns) L) (standings r w (length b.txns) (e ∷ L)) (standings_keep r l w op (length b.txns) e L) (all_known r w (length b.txns) L (ap is_some q) h) h)))
