-- What the code finds and shows is what the relation speaks of.
use Rattle.std.specs.Prelude.{ℕ, ◌<◌, ◌≤◌, ◌≡◌, Bool, false, cond, List, [], ◌∷◌, ◌++◌, map, length, get_or, Option, Some, None, unwrap_or, suc, zero, refl}
use Rattle.std.proofs.Common.{sym, ◌∙◌, ap, arith, ⊎_elim}
use Rattle.std.proofs.lemmas.Bool.{cases_lt}
use Rattle.std.proofs.lemmas.List.{length_push, get_or_append_left, get_or_push}
use Rattle.txn_types.specs.declared.txn.Outcome.{Outcome}
use Rattle.txn_types.specs.declared.txn.Txn.{Txn}
use Rattle.txn_types.specs.declared.block.Block.{Block}
use Rattle.oxii_defs.specs.State.{State}
use Rattle.oxii_defs.specs.Table.{Table}
use Rattle.known_defs.specs.Known.{txn_at, knows_all, no_outcome}
use Rattle.node_defs.specs.Rules.{Rules, in_force_behind}
use Rattle.node_defs.specs.Programs.{rules_of}
use Rattle.node_defs.specs.Position.{Standing, is_agent}
use Rattle.node_defs.specs.Ledger.{agreed_outcome}
use Rattle.node_laws.proofs.Settle.{push_same}
use Rattle.board_defs.specs.Closure.{Plan, is_own, run_of}
use Rattle.peer_laws.specs.Turns.{found_upto, found_one, shown, shown_one, agreed_in}
use Rattle.peer_parts.specs.Found.{found_by, given_by}
use Rattle.peer_parts.specs.Owning.{IsOwn}
use Rattle.peer_parts.specs.Judging.{stand, stand_all}

-- found by the plan is found by the rules in force
pub found_same : (table : Table) (genesis : State) (behind : List Block) (me : ℕ) (plan : Plan) (agreed : List (Option Outcome)) (votes : ℕ → Option Outcome) → plan.table ≡ table
    → IsOwn (in_force_behind (rules_of table genesis) behind) me plan.txns plan.own → ((t : ℕ) → t < length plan.txns → get_or agreed t None ≡ votes t)
    → (t : ℕ) → t ≤ length plan.txns → found_by plan agreed t ≡ found_upto (in_force_behind (rules_of table genesis) behind) me plan.txns plan.base votes t
found_same table genesis behind me plan agreed votes same own a zero l = refl
found_same table genesis behind me plan agreed votes same own a (suc t) l =
    push_same (found_by plan agreed t) (found_upto r me plan.txns plan.base votes t) (given_by plan (get_or agreed t None) t (found_by plan agreed t)) (found_one r me plan.txns plan.base (votes t) (txn_at plan.txns t) (found_upto r me plan.txns plan.base votes t))
    (found_same table genesis behind me plan agreed votes same own a t (omega arith)) (one (found_by plan agreed t) (found_upto r me plan.txns plan.base votes t) (found_same table genesis behind me plan agreed votes same own a t (omega arith)))
  where
    r : Rules
    r = in_force_behind (rules_of table genesis) behind

    with_table : Table → List (Option Outcome) → Bool → Option Outcome → Option Outcome
    with_table tb xs b v = cond (knows_all tb.kind (txn_at plan.txns t) plan.txns xs) (cond b (Some (run_of (record { table = tb; txns = plan.txns; base = plan.base; known = plan.known; own = plan.own }) t xs)) v) None

    one : (xs ys : List (Option Outcome)) → xs ≡ ys → given_by plan (get_or agreed t None) t xs ≡ found_one r me plan.txns plan.base (votes t) (txn_at plan.txns t) ys
    one xs ys e =
        ap (λ tb. with_table tb xs (is_own plan t) (get_or agreed t None)) same
        ∙ (ap (λ zs. with_table table zs (is_own plan t) (get_or agreed t None)) e
        ∙ (ap (λ b. with_table table ys b (get_or agreed t None)) (own t (omega arith)) ∙ ap (with_table table ys (is_agent r me (txn_at plan.txns t))) (a t (omega arith))))

-- ALL STANDINGS

pub stand_from : (r : Rules) (me : ℕ) (txn : ℕ → Txn) (all : List Standing) (own : List Bool) (known agreed : List (Option Outcome)) (votes : ℕ → List (ℕ × Outcome)) (n : ℕ)
    → length own ≡ n → length known ≡ n → length agreed ≡ n
    → ((t : ℕ) → t < n → get_or own t false ≡ is_agent r me (txn t)) → ((t : ℕ) → t < n → get_or agreed t None ≡ agreed_in r (txn t) (votes t))
    → ((t : ℕ) → t < n → get_or all t (stand false None None) ≡ shown_one r me (txn t) (get_or known t None) (agreed_in r (txn t) (votes t))) → length all ≡ n
    → stand_all own known agreed ≡ all
stand_from r me txn [] [] [] [] votes n a b c o g s l = refl
stand_from r me txn (x ∷ all) (p ∷ own) (k ∷ known) (v ∷ agreed) votes zero a b c o g s l = absurd (omega (arith, l))
stand_from r me txn (x ∷ all) (p ∷ own) (k ∷ known) (v ∷ agreed) votes (suc n) a b c o g s l =
    let first : stand p k v ≡ x = ap (λ q. stand q k v) (o 0 (omega arith)) ∙ (ap (stand (is_agent r me (txn 0)) k) (g 0 (omega arith)) ∙ sym (s 0 (omega arith))) in
    let rest = stand_from r me (λ t. txn (suc t)) all own known agreed (λ t. votes (suc t)) n (omega (arith, a)) (omega (arith, b)) (omega (arith, c)) (λ t h. o (suc t) (omega (arith, h))) (λ t h. g (suc t) (omega (arith, h))) (λ t h. s (suc t) (omega (arith, h))) (omega (arith, l)) in
    cc
stand_from r me txn [] (p ∷ own) known agreed votes n a b c o g s l = absurd (omega (arith, a, l))
stand_from r me txn [] [] (k ∷ known) agreed votes n a b c o g s l = absurd (omega (arith, b, l))
stand_from r me txn [] [] [] (v ∷ agreed) votes n a b c o g s l = absurd (omega (arith, c, l))
stand_from r me txn (x ∷ all) [] known agreed votes n a b c o g s l = absurd (omega (arith, a, l))
stand_from r me txn (x ∷ all) (p ∷ own) [] agreed votes n a b c o g s l = absurd (omega (arith, b, l))
stand_from r me txn (x ∷ all) (p ∷ own) (k ∷ known) [] votes n a b c o g s l = absurd (omega (arith, c, l))

length_shown : (r : Rules) (me : ℕ) (txns : List Txn) (known : List (Option Outcome)) (votes : ℕ → List (ℕ × Outcome)) (n : ℕ) → length (shown r me txns known votes n) ≡ n
length_shown r me txns known votes zero = refl
length_shown r me txns known votes (suc n) = omega (arith, length_push (shown r me txns known votes n) (shown_one r me (txn_at txns n) (get_or known n None) (agreed_in r (txn_at txns n) (votes n))), length_shown r me txns known votes n)

shown_at : (r : Rules) (me : ℕ) (txns : List Txn) (known : List (Option Outcome)) (votes : ℕ → List (ℕ × Outcome)) (n t : ℕ) → t < n → get_or (shown r me txns known votes n) t (stand false None None) ≡ shown_one r me (txn_at txns t) (get_or known t None) (agreed_in r (txn_at txns t) (votes t))
shown_at r me txns known votes zero t h = absurd (omega arith)
shown_at r me txns known votes (suc n) t h = ⊎_elim (λ e. inside (shown_at r me txns known votes n t) e) (λ e. last e) (cases_lt t n)
  where
    d : Standing
    d = stand false None None

    y : Standing
    y = shown_one r me (txn_at txns n) (get_or known n None) (agreed_in r (txn_at txns n) (votes n))

    inside : (t < n → get_or (shown r me txns known votes n) t d ≡ shown_one r me (txn_at txns t) (get_or known t None) (agreed_in r (txn_at txns t) (votes t))) → t < n → get_or (shown r me txns known votes n ++ y ∷ []) t d ≡ shown_one r me (txn_at txns t) (get_or known t None) (agreed_in r (txn_at txns t) (votes t))
    inside more e = get_or_append_left (shown r me txns known votes n) (y ∷ []) d t (omega (arith, length_shown r me txns known votes n, e)) ∙ more e

    last : n ≤ t → get_or (shown r me txns known votes n ++ y ∷ []) t d ≡ shown_one r me (txn_at txns t) (get_or known t None) (agreed_in r (txn_at txns t) (votes t))
    last e = let k : n ≡ t = omega arith in get_or_push (shown r me txns known votes n) y d t (length_shown r me txns known votes n ∙ k) ∙ ap (λ j. shown_one r me (txn_at txns j) (get_or known j None) (agreed_in r (txn_at txns j) (votes j))) k

-- what the code judges is what is shown
pub stands_shown : (r : Rules) (me : ℕ) (txns : List Txn) (own : List Bool) (known agreed : List (Option Outcome)) (votes : ℕ → List (ℕ × Outcome)) → length own ≡ length txns → length known ≡ length txns → length agreed ≡ length txns
    → IsOwn r me txns own → ((t : ℕ) → t < length txns → get_or agreed t None ≡ agreed_in r (txn_at txns t) (votes t)) → stand_all own known agreed ≡ shown r me txns known votes (length txns)
stands_shown r me txns own known agreed votes a b c o g =
    stand_from r me (txn_at txns) (shown r me txns known votes (length txns)) own known agreed votes (length txns) a b c o g (shown_at r me txns known votes (length txns)) (length_shown r me txns known votes (length txns))

-- the outcomes that are agreed
pub outcomes_shown : (own : List Bool) (known agreed : List (Option Outcome)) → length own ≡ length agreed → length known ≡ length agreed → map agreed_outcome (stand_all own known agreed) ≡ map (λ a. unwrap_or a no_outcome) agreed
outcomes_shown own known [] a b = refl_nil own known
  where
    refl_nil : (own : List Bool) (known : List (Option Outcome)) → map agreed_outcome (stand_all own known []) ≡ []
    refl_nil [] known = refl
    refl_nil (x ∷ own) [] = refl
    refl_nil (x ∷ own) (k ∷ known) = refl
outcomes_shown [] known (v ∷ agreed) a b = absurd (omega (arith, a))
outcomes_shown (x ∷ own) [] (v ∷ agreed) a b = absurd (omega (arith, b))
outcomes_shown (x ∷ own) (k ∷ known) (v ∷ agreed) a b = ap (λ os. unwrap_or v no_outcome ∷ os) (outcomes_shown own known agreed (omega (arith, a)) (omega (arith, b)))
