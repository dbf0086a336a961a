-- What a delivery comes to: known outcomes that are sound, and to which the rules add nothing, are exactly the believed ones.
-- So the code may find them in any order, and in rounds.
use Rattle.std.specs.Prelude.{ℕ, ◌<◌, ◌≤◌, Bool, true, false, ◌&&◌, cond, if◌then◌else◌, List, [], ◌∷◌, ◌++◌, map, length, get_or, take, Option, Some, None, ◌≡◌, refl, suc, zero}
use Rattle.std.proofs.Common.{sym, ◌∙◌, ap, arith, ⊎_elim}
use Rattle.std.proofs.lemmas.Bool.{cases_lt, and_parts}
use Rattle.std.proofs.lemmas.Option.{none-some}
use Rattle.std.proofs.lemmas.List.{map_push, length_push, get_or_append_left, get_or_push}
use Rattle.std.proofs.Math.Seq.{take-suc}
use Rattle.board_defs.specs.Closure.{Plan, can_run, closure_upto, comes_to, is_own, known_at}
use Rattle.known_defs.specs.Known.{after_known, knows_all, txn_at}
use Rattle.node_defs.specs.Log.{Log}
use Rattle.node_defs.specs.Position.{Standing, Work, agreed, is_agent, standing, standings}
use Rattle.node_defs.specs.Rules.{Rules, in_force_behind}
use Rattle.node_defs.specs.Programs.{rules_of}
use Rattle.node_laws.proofs.Growing.{knows_still}
use Rattle.node_laws.proofs.Order.{same_outcome_through, within_push}
use Rattle.node_laws.proofs.Same.{Within, rules_local}
use Rattle.oxii_defs.specs.State.{State}
use Rattle.oxii_defs.specs.Table.{Table}
use Rattle.txn_types.specs.declared.block.Block.{Block}
use Rattle.txn_types.specs.declared.txn.Outcome.{Outcome}

abbrev pub beliefs_at : Rules → Work → Log → ℕ → List (Option Outcome)
beliefs_at rules w L t = map (λ (s : Standing). s.believed) (standings rules w t L)

-- what the rules give position t, where the earlier positions are known so far
abbrev pub given_of : Rules → Work → Log → ℕ → List (Option Outcome) → Option Outcome
given_of rules w L t earlier =
    if knows_all rules.table.kind (txn_at w.txns t) w.txns earlier
    then (if is_agent rules w.me (txn_at w.txns t) then Some (rules.outcome (after_known w.base w.txns earlier) (txn_at w.txns t)) else agreed rules w t (standings rules w t) L)
    else None

-- at an accepted block a position is believed to be what the rules give from the beliefs before it
pub believed_is : (rules : Rules) (w : Work) (L : Log) (t : ℕ) → w.opens L ≡ true → (standing rules w t (standings rules w t) L).believed ≡ given_of rules w L t (beliefs_at rules w L t)
believed_is rules w L t op = rw op (one (is_agent rules w.me (txn_at w.txns t)) (knows_all rules.table.kind (txn_at w.txns t) w.txns (beliefs_at rules w L t)))
  where
    own : Option Outcome
    own = Some (rules.outcome (after_known w.base w.txns (beliefs_at rules w L t)) (txn_at w.txns t))

    votes : Option Outcome
    votes = agreed rules w t (standings rules w t) L

    one : (a k : Bool) → cond (a && (true && k)) own (cond (true && k) votes None) ≡ cond k (cond a own votes) None
    one true true = refl
    one true false = refl
    one false true = refl
    one false false = refl

-- the rules add nothing to xs: each position that they give an outcome has it
abbrev pub AddNothing : Rules → Work → Log → List (Option Outcome) → Type 0
AddNothing rules w L xs = (t : ℕ) (o : Outcome) → t < length w.txns → given_of rules w L t (take t xs) ≡ Some o → get_or xs t None ≡ Some o

pub within_at : (xs ys : List (Option Outcome)) (t : ℕ) (o : Outcome) → Within xs ys → get_or xs t None ≡ Some o → get_or ys t None ≡ Some o
within_at [] ys t o w h = absurd (none-some o h)
within_at (Some p ∷ xs) [] t o w h = absurd w
within_at (None ∷ xs) [] t o w h = absurd w
within_at (Some p ∷ xs) (y ∷ ys) zero o w h = w.0 ∙ h
within_at (None ∷ xs) (y ∷ ys) zero o w h = absurd (none-some o h)
within_at (Some p ∷ xs) (y ∷ ys) (suc t) o w h = within_at xs ys t o w.1 h
within_at (None ∷ xs) (y ∷ ys) (suc t) o w h = within_at xs ys t o w h

pub length_beliefs : (rules : Rules) (w : Work) (L : Log) (t : ℕ) → length (beliefs_at rules w L t) ≡ t
length_beliefs rules w L zero = refl
length_beliefs rules w L (suc t) = ap length (map_push (λ (s : Standing). s.believed) (standings rules w t L) (standing rules w t (standings rules w t) L)) ∙ omega (arith, length_push (beliefs_at rules w L t) (standing rules w t (standings rules w t) L).believed, length_beliefs rules w L t)

-- the beliefs on all positions have those on the first t as their front
pub front : (rules : Rules) (w : Work) (L : Log) (n t : ℕ) → t < n → get_or (beliefs_at rules w L n) t None ≡ (standing rules w t (standings rules w t) L).believed
front rules w L zero t h = absurd (omega arith)
front rules w L (suc n) t h =
    let push = map_push (λ (s : Standing). s.believed) (standings rules w n L) (standing rules w n (standings rules w n) L) in
    rw push (⊎_elim (λ e. inside (front rules w L n t) e) (λ e. last e) (cases_lt t n))
  where
    y : Option Outcome
    y = (standing rules w n (standings rules w n) L).believed

    inside : (t < n → get_or (beliefs_at rules w L n) t None ≡ (standing rules w t (standings rules w t) L).believed) → t < n → get_or (beliefs_at rules w L n ++ y ∷ []) t None ≡ (standing rules w t (standings rules w t) L).believed
    inside more e = get_or_append_left (beliefs_at rules w L n) (y ∷ []) None t (omega (arith, length_beliefs rules w L n)) ∙ more e

    last : n ≤ t → get_or (beliefs_at rules w L n ++ y ∷ []) t None ≡ (standing rules w t (standings rules w t) L).believed
    last e = let k : n ≡ t = omega arith in get_or_push (beliefs_at rules w L n) y None t (length_beliefs rules w L n ∙ k) ∙ ap (λ j. (standing rules w j (standings rules w j) L).believed) k

-- equal lists with equal last entries
pub push_same : {A : Type 0} (xs ys : List A) (x y : A) → xs ≡ ys → x ≡ y → xs ++ x ∷ [] ≡ ys ++ y ∷ []
push_same xs ys x y p q = cc

pub settled : (rules : Rules) (w : Work) (L : Log) (xs : List (Option Outcome)) → w.opens L ≡ true → length xs ≡ length w.txns → Within xs (beliefs_at rules w L (length w.txns)) → AddNothing rules w L xs → (t : ℕ) → t ≤ length w.txns → take t xs ≡ beliefs_at rules w L t
settled rules w L xs op n within nothing_more zero h = refl
settled rules w L xs op n within nothing_more (suc t) h =
    let before = settled rules w L xs op n within nothing_more t (omega arith) in
    let l : t < length xs = omega arith in
    take-suc xs t None l ∙ (one before (given_of rules w L t (take t xs)) refl (get_or xs t None) refl ∙ sym (map_push (λ (s : Standing). s.believed) (standings rules w t L) (standing rules w t (standings rules w t) L)))
  where
    believed : Option Outcome
    believed = (standing rules w t (standings rules w t) L).believed

    one : take t xs ≡ beliefs_at rules w L t → (g : Option Outcome) → given_of rules w L t (take t xs) ≡ g → (x : Option Outcome) → get_or xs t None ≡ x → take t xs ++ get_or xs t None ∷ [] ≡ beliefs_at rules w L t ++ believed ∷ []
    one b (Some o) e x q =
        let here : get_or xs t None ≡ Some o = nothing_more t o (omega arith) e in
        let there : believed ≡ Some o = believed_is rules w L t op ∙ (ap (given_of rules w L t) (sym b) ∙ e) in
        push_same (take t xs) (beliefs_at rules w L t) (get_or xs t None) believed b (here ∙ sym there)
    one b None e None q =
        let there : believed ≡ None = believed_is rules w L t op ∙ (ap (given_of rules w L t) (sym b) ∙ e) in
        push_same (take t xs) (beliefs_at rules w L t) (get_or xs t None) believed b (q ∙ sym there)
    one b None e (Some o) q =
        let there : believed ≡ None = believed_is rules w L t op ∙ (ap (given_of rules w L t) (sym b) ∙ e) in
        absurd (none-some o (sym there ∙ (sym (front rules w L (length w.txns) t (omega arith)) ∙ within_at xs (beliefs_at rules w L (length w.txns)) t o within q)))

-- One burst is sound: what the closure of a plan of this block gives is believed, where the plan's known outcomes are, and its own positions are this peer's.
-- The rules are those of a document, in force behind some blocks.
module _ (table : Table) (genesis : State) (blocks : List Block) (w : Work) (L : Log) (known : List (Option Outcome)) (own : List Bool) where
  abbrev rules : Rules
  rules = in_force_behind (rules_of table genesis) blocks

  abbrev plan : Plan
  plan = record { table = table; txns = w.txns; base = w.base; known = known; own = own }

  abbrev believed_of : ℕ → Option Outcome
  believed_of t = (standing rules w t (standings rules w t) L).believed

  here : w.opens L ≡ true → (t : ℕ) → (is_own plan t ≡ true → is_agent rules w.me (txn_at w.txns t) ≡ true) → ((o : Outcome) → known_at plan t ≡ Some o → believed_of t ≡ Some o) →
      (k : Option Outcome) → known_at plan t ≡ k → (b : Bool) → can_run plan t (closure_upto plan t) ≡ b → Within (closure_upto plan t) (beliefs_at rules w L t) →
      Within (comes_to plan t k (closure_upto plan t) ∷ []) (believed_of t ∷ [])
  here op t mine right (Some o) e b f v = (right o e, tt)
  here op t mine right None e false f v = rw f tt
  here op t mine right None e true f v =
      let p = and_parts (is_own plan t) (knows_all table.kind (txn_at w.txns t) w.txns (closure_upto plan t)) f in
      let ready = knows_still table.kind (txn_at w.txns t) w.txns (closure_upto plan t) (beliefs_at rules w L t) v p.1 in
      rw f (believed_is rules w L t op ∙ (rw ready (rw (mine p.0) (ap Some (sym (same_outcome_through rules (rules_local table genesis) w.base (txn_at w.txns t) w.txns (closure_upto plan t) (beliefs_at rules w L t) p.1 v))))), tt)

  pub closure_sound : w.opens L ≡ true → ((t : ℕ) → is_own plan t ≡ true → is_agent rules w.me (txn_at w.txns t) ≡ true) →
      ((t : ℕ) (o : Outcome) → known_at plan t ≡ Some o → believed_of t ≡ Some o) → (t : ℕ) → Within (closure_upto plan t) (beliefs_at rules w L t)
  closure_sound op mine right zero = tt
  closure_sound op mine right (suc t) =
      let earlier = closure_sound op mine right t in
      rw (map_push (λ (s : Standing). s.believed) (standings rules w t L) (standing rules w t (standings rules w t) L))
      (within_push (closure_upto plan t) (beliefs_at rules w L t) _ _ earlier (here op t (mine t) (right t) (known_at plan t) refl (can_run plan t (closure_upto plan t)) refl earlier))
