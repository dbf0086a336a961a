-- Walking back over the versions of earlier writers gives the serial value.
use Rattle.std.proofs.Common.{◌≡◌, ℕ, suc, true, not, ◌||◌, ◌+◌, ◌-◌, ◌<◌, ◌≤◌, ◌⊎◌, inl, inr, ⊎_elim, List, length, get_or, sym, ap, ◌∙◌, arith, Option, Some, None}
use Rattle.std.specs.Prelude.{is_some, nat_lt}
use Rattle.std.proofs.lemmas.Bool.{false≢true, lt-ltb, and_parts, and_from}
use Rattle.txn_types.specs.declared.txn.Txn.{Txn}
use Rattle.oxii_defs.specs.State.{value_in, contains}
use Rattle.std.proofs.lemmas.List.{get_or_default}
use Rattle.known_defs.specs.Known.{no_txn}
use Rattle.board_defs.specs.Closure.{Plan, IsLawfulPlan, is_own, known_at}
use Rattle.board_core.specs.Script.{Script, Runs, or_else, serial_value}
use Rattle.board_work.specs.declared.layout.Layout.TheVariants.{Versions}
use Rattle.board_work.specs.Scripts.{AreHeld, reads_at, writes_at, outcome_at, gives, cell_word, word_of, has_values, is_early_version, script}
use Rattle.board_steps.specs.declared.about.About.{About}
use Rattle.board_steps.specs.Abouts.{told, scripted, IsLaidOut}
use Rattle.board_words.specs.Words.{cell_back}
use Rattle.board_words.proofs.Decode.{cell_is}
use Rattle.script_laws.proofs.Sound.{sound_for, writer_comes, known_is, used_below}
use Rattle.version_slots.specs.Places.{place_in}
use Rattle.version_slots.proofs.PlaceLemmas.{place_stands, version_is}

-- a position that runs is own
pub own_runs : (plan : Plan) (t : ℕ) → Runs (script plan) t → is_own plan t ≡ true
own_runs plan t runs = (and_parts (is_own plan t) (is_some (outcome_at plan t)) runs).0

module _ (about : About) (h : IsLawfulPlan (told about)) (t x r j : ℕ) (runs : Runs (script (told about)) t) (earlier : x < t) (place : place_in (writes_at (told about) x) r ≡ Some j) (reads : contains (reads_at (told about) t) r ≡ true) where
  comes : (is_some (known_at (told about) x) ≡ true) ⊎ (0 < (script (told about)).edge x t)
  comes = writer_comes (told about) h x t r (own_runs (told about) t runs) earlier (place_stands (writes_at (told about) x) r j place).0 reads

  -- the version of an earlier writer is set: it is known, or t waited for it
  pub version_set : IsLaidOut Versions about → ((scripted about).fixed x (j + 1) ≡ true) ⊎ (0 < (script (told about)).edge x t)
  version_set laid = let l = (place_stands (writes_at (told about) x) r j place).1 in ⊎_elim
      (λ known. inl (and_from (not (has_values about.layout.value)) (is_early_version (told about) x (j + 1)) (ap (λ layout. not (has_values layout)) laid)
      (and_from (is_some (known_at (told about) x)) _ known (and_from (nat_lt 0 (j + 1)) (nat_lt (j + 1) (1 + length (writes_at (told about) x))) (lt-ltb 0 (j + 1) (omega arith)) (lt-ltb (j + 1) (1 + length (writes_at (told about) x)) (omega arith))))))
      (λ waits. inr waits)
      comes

  -- and it has an outcome
  has_outcome : AreHeld (told about) → is_some (outcome_at (told about) x) ≡ true
  has_outcome held = ⊎_elim (λ known. ap is_some (known_is (told about) h x known) ∙ known)
      (λ waits. (and_parts (is_own (told about) x) (is_some (outcome_at (told about) x)) (((sound_for Versions (told about) (record { lawful = h; full = λ v. absurd (false≢true v) }) held).runs_only t runs).1 x waits)).1)
      comes

  -- its version word says what it gives the record
  pub version_given : AreHeld (told about) → (word : ℕ) → word ≡ word_of (outcome_at (told about) x) (j + 1) → word ≡ cell_word (gives (outcome_at (told about) x) (writes_at (told about) x) r)
  version_given held word is = is ∙ (ap (word_of (outcome_at (told about) x)) {x = j + 1} {y = suc j} (omega arith) ∙ version_is (outcome_at (told about) x) (writes_at (told about) x) r j (held.rising x) (has_outcome held) place)

-- what a version word says
pub version_back : (g : Option ℕ) (word : ℕ) → word ≡ cell_word g → cell_back word ≡ g
version_back g word e = ap cell_back e ∙ cell_is g

-- a version word is above 0
pub cell_pos : (g : Option ℕ) (word : ℕ) → word ≡ cell_word g → 0 < word
cell_pos (Some x) word e = omega arith
cell_pos None word e = omega arith

-- one further back
pub back_more : (p : Script) (t r d : ℕ) → d < t → serial_value p t r ≡ serial_value p (t - d) r → None ≡ p.effect (t - 1 - d) r → serial_value p t r ≡ serial_value p (t - (d + 1)) r
back_more p t r d l back none = back ∙ (ap (λ k. serial_value p k r) {x = t - d} {y = suc (t - 1 - d)} (omega arith)
    ∙ (ap (λ o. or_else o (serial_value p (t - 1 - d) r)) (sym none) ∙ ap (λ k. serial_value p k r) {x = t - 1 - d} {y = t - (d + 1)} (omega arith)))

-- the nearest writer that wrote the record
pub back_found : (p : Script) (t r d v : ℕ) → d < t → serial_value p t r ≡ serial_value p (t - d) r → Some v ≡ p.effect (t - 1 - d) r → v ≡ serial_value p t r
back_found p t r d v l back some = ap (λ o. or_else o (serial_value p (t - 1 - d) r)) some ∙ sym (back ∙ ap (λ k. serial_value p k r) {x = t - d} {y = suc (t - 1 - d)} (omega arith))

-- the base, where none did
pub back_ended : (plan : Plan) (t r d v : ℕ) → t ≤ d → serial_value (script plan) t r ≡ serial_value (script plan) (t - d) r → v ≡ value_in plan.base r → v ≡ serial_value (script plan) t r
back_ended plan t r d v l back is = is ∙ sym (back ∙ ap (λ k. serial_value (script plan) k r) {x = t - d} {y = 0} (omega arith))

-- the records that an earlier position writes
pub writes_there : (txns : List Txn) (plan : Plan) (x : ℕ) (y : Txn) (ws : List ℕ) → txns ≡ plan.txns → x < length plan.txns → ws ≡ (get_or txns x y).writes → ws ≡ writes_at plan x
writes_there txns plan x y ws same l row = row ∙ ap (λ (z : Txn). z.writes) (ap (λ ts. get_or ts x y) same ∙ get_or_default plan.txns x y no_txn l)

-- a record that is read is the table's
pub reads_below : (plan : Plan) → IsLawfulPlan plan → (t r : ℕ) → contains (reads_at plan t) r ≡ true → r < length plan.table.records
reads_below plan h t r reads = used_below plan h t r (ap (λ b. b || contains (writes_at plan t) r) reads)
