-- The loops that set the versions of known positions.
use Rattle.std.proofs.Common.{◌≡◌, ◌≢◌, ℕ, true, ◌+◌, ◌*◌, ◌<◌, ◌≤◌, List, length, get_or, set, sym, ap, ◌∙◌, subst, arith, get_or-set_same, get_or-set_other, Option, None}
use Rattle.std.specs.Prelude.{is_some}
use mathlib.Core.Logic.{dite}
use native.Mathlib.Decide.{ℕ_discrete}
use Rattle.txn_types.specs.declared.txn.Outcome.{Outcome}
use Rattle.txn_types.specs.declared.txn.Txn.{Txn}
use Rattle.known_defs.specs.Known.{txn_at}
use Rattle.board_core.specs.Words.{part, part_at}
use Rattle.board_defs.specs.Closure.{Plan, IsLawfulPlan}
use Rattle.board_work.specs.declared.layout.Layout.{Layout}
use Rattle.board_work.specs.declared.layout.Layout.TheVariants.{Versions}
use Rattle.board_work.specs.Scripts.{word_of, has_values}
use Rattle.script_laws.proofs.Sound.{known_below}
use Rattle.board_words.specs.Filled.{IsFilled}
use Rattle.std.proofs.lemmas.Bool.{false≢true}

-- one version more
pub version_step : (ws : List ℕ) (t i n : ℕ) (f : ℕ → ℕ) → 38 * t + 7 + 2 * i < length ws → n ≡ f (i + 1) → ((k : ℕ) → k < i → part ws t (k + 1) ≡ f (k + 1)) → (k : ℕ) → k < i + 1 → part (set ws (38 * t + 7 + 2 * i) n) t (k + 1) ≡ f (k + 1)
version_step ws t i n f l e old k lk = dite (ℕ_discrete k i)
    (λ s. ap (λ x. get_or (set ws (38 * t + 7 + 2 * i) n) x 0) {x = 38 * t + 5 + 2 * (k + 1)} {y = 38 * t + 7 + 2 * i} (omega arith) ∙ (get_or-set_same ws (38 * t + 7 + 2 * i) n 0 l ∙ (e ∙ ap (λ x. f (x + 1)) (sym s))))
    (λ ne. get_or-set_other ws (38 * t + 7 + 2 * i) (38 * t + 5 + 2 * (k + 1)) n 0 (λ s. ne (omega arith)) ∙ old k (omega arith))

-- the words of one position are set
pub record SetsOne (ws after : List ℕ) (t : ℕ) (x : Txn) (k : Option Outcome) : Type 0 where
  pub put : (j : ℕ) → is_some k ≡ true → j < length x.writes → part after t (j + 1) ≡ word_of k (j + 1)
  pub others : (i : ℕ) → ((j : ℕ) → is_some k ≡ true → j < length x.writes → i ≢ part_at t (j + 1)) → get_or after i 0 ≡ get_or ws i 0

-- one position more
module _ (ws after : List ℕ) (txns : List Txn) (known : List (Option Outcome)) (t : ℕ) (few : (t : ℕ) → length (txn_at txns t).writes ≤ 16) (one : SetsOne ws after t (txn_at txns t) (get_or known t None)) where
  pub known_put : ((x j : ℕ) → x < t → is_some (get_or known x None) ≡ true → j < length (txn_at txns x).writes → part ws x (j + 1) ≡ word_of (get_or known x None) (j + 1)) → (x j : ℕ) → x < t + 1 → is_some (get_or known x None) ≡ true → j < length (txn_at txns x).writes → part after x (j + 1) ≡ word_of (get_or known x None) (j + 1)
  known_put old x j lx some l = dite (ℕ_discrete x t)
      (λ e. subst (λ z. is_some (get_or known z None) ≡ true → j < length (txn_at txns z).writes → part after z (j + 1) ≡ word_of (get_or known z None) (j + 1)) (sym e) (one.put j) some l)
      (λ ne. one.others (part_at x (j + 1)) (λ i some_t li e. let a = few x in let b = few t in ne (omega arith)) ∙ old x j (omega arith) some l)

  pub known_others : (first : List ℕ) → ((i : ℕ) → ((x j : ℕ) → x < t → is_some (get_or known x None) ≡ true → j < length (txn_at txns x).writes → i ≢ part_at x (j + 1)) → get_or ws i 0 ≡ get_or first i 0)
      → (i : ℕ) → ((x j : ℕ) → x < t + 1 → is_some (get_or known x None) ≡ true → j < length (txn_at txns x).writes → i ≢ part_at x (j + 1)) → get_or after i 0 ≡ get_or first i 0
  known_others first old i other = one.others i (λ j some l. other t j (omega arith) some l) ∙ old i (λ x j lx some l. other x j (omega arith) some l)

-- what the loop sets is what is known
pub versions_filled : (layout : Layout) (plan : Plan) (before after : List ℕ) (txns : List Txn) (known : List (Option Outcome)) → txns ≡ plan.txns → known ≡ plan.known → IsLawfulPlan plan → layout ≡ Versions → length after ≡ length before
    → ((t j : ℕ) → t < length txns → is_some (get_or known t None) ≡ true → j < length (txn_at txns t).writes → part after t (j + 1) ≡ word_of (get_or known t None) (j + 1))
    → ((i : ℕ) → ((t j : ℕ) → is_some (get_or known t None) ≡ true → j < length (txn_at txns t).writes → i ≢ part_at t (j + 1)) → get_or after i 0 ≡ get_or before i 0) → IsFilled layout plan before after
versions_filled layout plan before after txns known et ek h is same put others = record {
  same = same;
  values = λ v. absurd (false≢true (sym (ap has_values is) ∙ v));
  versions = λ v t j e. put t j (subst (λ (ts : List Txn). t < length ts) (sym et) (known_below plan h t e.0)) (subst (λ (ks : List (Option Outcome)). is_some (get_or ks t None) ≡ true) (sym ek) e.0) (subst (λ ts. j < length (txn_at ts t).writes) (sym et) e.1)
      ∙ ap (λ (ks : List (Option Outcome)). word_of (get_or ks t None) (j + 1)) ek;
  others = λ i vs early. others i (λ t j some l. early t j (subst (λ (ks : List (Option Outcome)). is_some (get_or ks t None) ≡ true) ek some, subst (λ ts. j < length (txn_at ts t).writes) et l));
}
