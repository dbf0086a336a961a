-- Values stay at most the largest, so outcomes fit.
use Rattle.std.proofs.Common.{◌≡◌, ◌≤◌, ◌<◌, inl, inr, ℕ, zero, suc, Bool, true, false, ◌&&◌, nat_le, cond, List, [], ◌∷◌, ◌++◌, take, map, Option, Some, None, Ok, Err, slice_get, slice_index, slice_set, ◌==◌, refl, sym, ◌∙◌, arith, subst}
use Rattle.std.specs.Option.{unwrap_or}
use Rattle.std.specs.FinMap as map
use Rattle.std.specs.Ordering.{nat_cmp, eq_by_cmp}
use Rattle.std.specs.Cmp.{nat_cmp_total}
use Rattle.std.proofs.lemmas.Bool.Decides.{nat_tests}
use Rattle.oxii_defs.specs.Syntax.{Operator, Add, Sub, Mul, Div, Rem, Expr, Num, Param, Local, Rec, Calc, Stmt, Let, SetLocal, SetRec, Require, If, Repeat, Stmts, Done, Then, Formal, Op}
use Rattle.oxii_defs.specs.State.{State, contains, IsState, put}
use Rattle.oxii_defs.specs.WellFormed.{Scope, IsFineExpr, IsFine, AllFine, scope_after, repeated, IsWellFormed, start_of, Match}
use Rattle.oxii_defs.specs.Calls.{Call, Frame, record_at, number_at, number_arg, leave, call_in, fresh}
use Rattle.oxii_defs.specs.Meaning.{Makes, HasValue, Scoped, Turns, Leads, LeadsAll, FailsAll}
use Rattle.oxii_defs.specs.Running.{Answer, after_all}
use Rattle.oxii_defs.specs.Outcomes.{run, outcome_from}
use Rattle.oxii_defs.specs.Effects.{put_all}
use Rattle.oxii_defs.specs.Laws.{OutcomesFit, StatesStay}
use Rattle.oxii_defs.proofs.Values.{Told}
use Rattle.oxii_defs.proofs.Statements.{told_all}
use Rattle.txn_types.specs.declared.txn.Arg.{Arg}
use Rattle.txn_types.specs.declared.txn.Arg.TheVariants as arg
use Rattle.txn_types.specs.declared.txn.Txn.{Txn}
use Rattle.txn_types.specs.declared.txn.Outcome.TheVariants.{Commit, Abort}
use Rattle.txn_types.specs.Values.{max_value}
use Rattle.txn_types.specs.Fitting.{fit_entries, Fits}

abbrev pub AllSmall : List ℕ → Type 0
AllSmall [] = Unit {0}
AllSmall (x ∷ rest) = (x ≤ max_value) × AllSmall rest

pub record SmallCall (c : Call) : Type 0 where
  pub numbers : (i : ℕ) → number_at c i ≤ max_value
  pub read : (r v : ℕ) → c.reads r ≡ Some v → v ≤ max_value

pub record SmallFrame (f : Frame) : Type 0 where
  pub locals : AllSmall f.locals
  pub written : (r v : ℕ) → map.get f.written r ≡ Some v → v ≤ max_value

small_at : (xs : List ℕ) (i : ℕ) → AllSmall xs → slice_index xs i ≤ max_value
small_at [] i h = omega arith
small_at (x ∷ rest) zero h = h.0
small_at (x ∷ rest) (suc i) h = small_at rest i h.1

small_push : (xs : List ℕ) (v : ℕ) → AllSmall xs → v ≤ max_value → AllSmall (xs ++ v ∷ [])
small_push [] v h le = (le, tt)
small_push (x ∷ rest) v h le = (h.0, small_push rest v h.1 le)

small_set : (xs : List ℕ) (i v : ℕ) → AllSmall xs → v ≤ max_value → AllSmall (slice_set xs i v)
small_set [] i v h le = tt
small_set (x ∷ rest) zero v h le = (le, h.1)
small_set (x ∷ rest) (suc i) v h le = (h.0, small_set rest i v h.1 le)

small_take : (n : ℕ) (xs : List ℕ) → AllSmall xs → AllSmall (take n xs)
small_take zero xs h = tt
small_take (suc n) [] h = tt
small_take (suc n) (x ∷ rest) h = (h.0, small_take n rest h.1)

small_made : (op : Operator) (x y v : ℕ) → x ≤ max_value → Makes op x y v → v ≤ max_value
small_made Add x y v le h = h.1
small_made Sub x y v le h = omega arith
small_made Mul x y v le h = h.1
small_made Div x y v le h = grind arith
small_made Rem x y v le h = grind arith

pub small_value : (c : Call) (f : Frame) (scope : Scope) (e : Expr) (v : ℕ) → SmallCall c → SmallFrame f → IsFineExpr scope e → HasValue c f e v → v ≤ max_value
small_value c f scope (Num n) v sc sf fine h = omega arith
small_value c f scope (Param i) v sc sf fine h = omega (arith, sc.numbers i)
small_value c f scope (Local i) v sc sf fine h = omega (arith, small_at f.locals i sf.locals)
small_value c f scope (Rec i) v sc sf fine (inl h) = sf.written _ v h
small_value c f scope (Rec i) v sc sf fine (inr h) = sc.read _ v h.1
small_value c f scope (Calc op a b) v sc sf fine (x, y, p, q, m) = small_made op x y v (small_value c f scope a x sc sf fine.0 p) m

small_insert : (b : Bool) (o : Option ℕ) (v u : ℕ) → v ≤ max_value → (o ≡ Some u → u ≤ max_value) → cond b (Some v) o ≡ Some u → u ≤ max_value
small_insert true o v u le h e = let same : v ≡ u = cc in omega arith
small_insert false o v u le h e = h e

small_leave : (n : ℕ) (f : Frame) → SmallFrame f → SmallFrame (leave n f)
small_leave n f h = record { locals = small_take n f.locals h.locals; written = h.written }

abbrev Keeps : (Frame → Frame → Type 0) → Type 0
Keeps R = (f g : Frame) → SmallFrame f → R f g → SmallFrame g

keeps_scoped : (R : Frame → Frame → Type 0) → Keeps R → Keeps (Scoped R)
keeps_scoped R keeps f g small (m, h, e) = subst SmallFrame (sym e) (small_leave _ m (keeps f m small h))

keeps_turns : (R : Frame → Frame → Type 0) → Keeps R → (n : ℕ) → Keeps (Turns n R)
keeps_turns R keeps zero f g small e = subst SmallFrame (sym e) small
keeps_turns R keeps (suc n) f g small (m, h, rest) = keeps_turns R keeps n m g (keeps f m small h) rest

mutual
  keeps : (c : Call) → SmallCall c → (scope : Scope) (s : Stmt) → IsFine scope s → Keeps (Leads c s)
  keeps c sc scope (Let slot name e) fine f g small (v, h, w) =
      subst SmallFrame (sym w) (record { locals = small_push f.locals v small.locals (small_value c f scope e v sc small fine.3 h); written = small.written })
  keeps c sc scope (SetLocal i e) fine f g small (v, h, w) =
      subst SmallFrame (sym w) (record { locals = small_set f.locals i v small.locals (small_value c f scope e v sc small fine.1 h); written = small.written })
  keeps c sc scope (SetRec i e) fine f g small (v, h, may, w) =
      subst SmallFrame (sym w) (record {
        locals = small.locals;
        written = λ r u is. small_insert (eq_by_cmp nat_cmp r (record_at c i)) (map.get f.written r) v u (small_value c f scope e v sc small fine.1 h) (small.written r u)
            (sym (map.get-insert nat_cmp_total f.written (record_at c i) v r) ∙ is);
      })
  keeps c sc scope (Require p) fine f g small (h, w) = subst SmallFrame (sym w) small
  keeps c sc scope (If p first second) fine f g small (inl (h, k)) = keeps_scoped (LeadsAll c first) (keeps_all c sc scope first fine.1) f g small k
  keeps c sc scope (If p first second) fine f g small (inr (h, k)) = keeps_scoped (LeadsAll c second) (keeps_all c sc scope second fine.2) f g small k
  keeps c sc scope (Repeat n body) fine f g small h =
      keeps_turns (Scoped (LeadsAll c body)) (keeps_scoped (LeadsAll c body) (keeps_all c sc (repeated scope n) body fine.3)) n f g small h

  keeps_all : (c : Call) → SmallCall c → (scope : Scope) (body : Stmts) → AllFine scope body → Keeps (LeadsAll c body)
  keeps_all c sc scope Done fine f g small e = subst SmallFrame (sym e) small
  keeps_all c sc scope (Then s rest) fine f g small (m, h, k) = keeps_all c sc (scope_after scope s) rest fine.1 m g (keeps c sc scope s fine.0 f m small h) k

pub small_numbers : (params : List Formal) (args : List Arg) (i : ℕ) → Match params args → number_arg (slice_get args i) ≤ max_value
small_numbers [] [] i h = omega arith
small_numbers [] (a ∷ args) i h = absurd h
small_numbers (p ∷ params) [] i h = absurd h
small_numbers (p ∷ params) (arg.Rec r ∷ args) zero h = omega arith
small_numbers (p ∷ params) (arg.Num n ∷ args) zero h = h.1
small_numbers (p ∷ params) (arg.Rec r ∷ args) (suc i) h = small_numbers params args i h.1
small_numbers (p ∷ params) (arg.Num n ∷ args) (suc i) h = small_numbers params args i h.2

small_seen : (b : Bool) (o : Option ℕ) (v : ℕ) → ((u : ℕ) → o ≡ Some u → u ≤ max_value) → cond b (Some (unwrap_or o 0)) None ≡ Some v → v ≤ max_value
small_seen false o v h e = cc
small_seen true None v h e = let same : 0 ≡ v = cc in omega arith
small_seen true (Some u) v h e = let same : u ≡ v = cc in omega (arith, h u refl)

small_call : (op : Op) (t : Txn) (s : State) → Match op.params t.args → IsState s → SmallCall (call_in s t)
small_call op t s fit is = record {
  numbers = λ i. small_numbers op.params t.args i fit;
  read = λ r v e. small_seen (contains t.reads r) (map.get s r) v (λ u h. (is.in_range r u h).1) e;
}

small_fresh : (writes : List ℕ) → SmallFrame (fresh writes)
small_fresh writes = record { locals = tt; written = λ r v e. absurd (none_some v (sym (map.get-empty nat_cmp r) ∙ e)) }
  where
    none_some : (v : ℕ) → ◌≡◌ {A = Option ℕ} None (Some v) → ⊥
    none_some v e = cc

small_and : (v : ℕ) (b : Bool) → v ≤ max_value → b ≡ true → (nat_le v max_value && b) ≡ true
small_and v b le e = let small : nat_le v max_value ≡ true = grind (arith, nat_tests) in rw (small, e)

written_fit : (f : Frame) → SmallFrame f → (writes : List ℕ) → fit_entries writes (map (map.get f.written) writes) ≡ true
written_fit f small [] = refl
written_fit f small (r ∷ rest) = at (map.get f.written r) (small.written r) (written_fit f small rest)
  where
    at : (o : Option ℕ) → ((v : ℕ) → o ≡ Some v → v ≤ max_value) → fit_entries rest (map (map.get f.written) rest) ≡ true → fit_entries (r ∷ rest) (o ∷ map (map.get f.written) rest) ≡ true
    at None h k = k
    at (Some v) h k = small_and v _ (h v refl) k

fit_from : (c : Call) (op : Op) (t : Txn) → SmallCall c → AllFine (start_of op) op.body → (a : Answer Frame) →
    Told (LeadsAll c op.body (fresh t.writes)) (FailsAll c op.body (fresh t.writes)) a → Fits t (outcome_from t.writes a)
fit_from c op t sc fine (Ok f) h = written_fit f (keeps_all c sc (start_of op) op.body fine (fresh t.writes) f (small_fresh t.writes) h) t.writes
fit_from c op t sc fine (Err r) h = refl

-- the answer of a call with small values fits
pub fit_run : (c : Call) (op : Op) (t : Txn) → SmallCall c → IsWellFormed op → Fits t (outcome_from t.writes (after_all c op.body (fresh t.writes)))
fit_run c op t sc well = fit_from c op t sc well.body (after_all c op.body (fresh t.writes)) (told_all c op.body (fresh t.writes))

pub outcomes_fit : OutcomesFit
unfolding run
outcomes_fit op t s well fit is = fit_run (call_in s t) op t (small_call op t s fit is) well

-- STATES

put_at : (b : Bool) (o : Option ℕ) (u : ℕ) → (o ≡ Some u → (0 < u) × (u ≤ max_value)) → cond b None o ≡ Some u → (0 < u) × (u ≤ max_value)
put_at true o u h e = cc
put_at false o u h e = h e

put_new : (b : Bool) (o : Option ℕ) (v u : ℕ) → (0 < v) → v ≤ max_value → (o ≡ Some u → (0 < u) × (u ≤ max_value)) → cond b (Some v) o ≡ Some u → (0 < u) × (u ≤ max_value)
put_new true o v u pos le h e = let same : v ≡ u = cc in (omega arith, omega arith)
put_new false o v u pos le h e = h e

put_stays : (s : State) (r v : ℕ) → IsState s → v ≤ max_value → IsState (put s r v)
put_stays s r v is le = by_zero (v == 0) refl
  where
    by_zero : (b : Bool) → (v == 0) ≡ b → IsState (cond b (map.remove s r) (map.insert s r v))
    by_zero true zero_it = record { in_range = λ q u e. put_at (eq_by_cmp nat_cmp q r) (map.get s q) u (is.in_range q u) (sym (map.get-remove nat_cmp_total s r q) ∙ e) }
    by_zero false other =
        record { in_range = λ q u e. put_new (eq_by_cmp nat_cmp q r) (map.get s q) v u (grind (arith, nat_tests)) le (is.in_range q u) (sym (map.get-insert nat_cmp_total s r v q) ∙ e) }

and_parts : (a b : Bool) → (a && b) ≡ true → (a ≡ true) × (b ≡ true)
and_parts true b e = (refl, e)
and_parts false b e = cc

put_all_stays : (s : State) (writes : List ℕ) (entries : List (Option ℕ)) → IsState s → fit_entries writes entries ≡ true → IsState (put_all s writes entries)
put_all_stays s [] [] is fit = is
put_all_stays s [] (o ∷ entries) is fit = is
put_all_stays s (r ∷ rest) [] is fit = is
put_all_stays s (r ∷ rest) (Some v ∷ entries) is fit =
    let parts = and_parts (nat_le v max_value) (fit_entries rest entries) fit in
    put_all_stays (put s r v) rest entries (put_stays s r v is (grind (arith, nat_tests, parts.0))) parts.1
put_all_stays s (r ∷ rest) (None ∷ entries) is fit = put_all_stays s rest entries is fit

pub states_stay : StatesStay
states_stay s t (Commit entries) is fit = put_all_stays s t.writes entries is fit
states_stay s t (Abort r) is fit = is
