-- The place of a record among those that a position writes, and the version word there.
use Rattle.std.proofs.Common.{◌≡◌, ◌≢◌, ℕ, zero, suc, Bool, true, false, cond, ◌==◌, ◌||◌, ◌<◌, List, [], ◌∷◌, length, get_or, sym, refl, ap, ◌∙◌, arith, Option, Some, None}
use Rattle.std.specs.Prelude.{is_some}
use Rattle.std.proofs.lemmas.Bool.{false≢true, eqb-true, eq-eqb, ne_eqb}
use Rattle.txn_types.specs.Rising.{IsRising}
use Rattle.txn_types.specs.declared.txn.Outcome.{Outcome}
use Rattle.txn_types.specs.declared.txn.Outcome.TheVariants.{Abort, Commit}
use Rattle.oxii_defs.specs.State.{contains}
use Rattle.board_work.specs.Scripts.{later, given, gives, cell_word, word_of}
use Rattle.board_steps.proofs.PartFacts.{above, rest_rises, not_given}
use Rattle.script_laws.proofs.Sound.{given_is, gives_is}
use Rattle.version_slots.specs.Places.{place_in, next_place}

-- what has a place stands in the list
pub place_stands : (ws : List ℕ) (r j : ℕ) → place_in ws r ≡ Some j → (contains ws r ≡ true) × (j < length ws)
place_stands [] r j e = absurd (cc)
place_stands (w ∷ ws) r j e = go (r == w) (place_in ws r) e (place_stands ws r)
  where
    go : (b : Bool) (o : Option ℕ) → cond b (Some 0) (next_place o) ≡ Some j → ((k : ℕ) → o ≡ Some k → (contains ws r ≡ true) × (k < length ws)) → ((b || contains ws r) ≡ true) × (j < suc (length ws))
    go true o e rest = let z : 0 ≡ j = cc in (refl, omega arith)
    go false (Some k) e rest = let z : suc k ≡ j = cc in let a = rest k refl in let l = a.1 in (a.0, omega arith)
    go false None e rest = absurd (cc)

-- what has none is given nothing
pub no_place : (ws : List ℕ) (r : ℕ) → place_in ws r ≡ None → contains ws r ≡ false
no_place [] r e = refl
no_place (w ∷ ws) r e = go (r == w) (place_in ws r) e (no_place ws r)
  where
    go : (b : Bool) (o : Option ℕ) → cond b (Some 0) (next_place o) ≡ None → (o ≡ None → contains ws r ≡ false) → (b || contains ws r) ≡ false
    go true o e rest = absurd (cc)
    go false (Some k) e rest = absurd (cc)
    go false None e rest = rest refl

-- the word at its place says what the entries give it
cell_is : (ws : List ℕ) (cells : List (Option ℕ)) (r j : ℕ) → IsRising ws → place_in ws r ≡ Some j → cell_word (get_or cells j None) ≡ cell_word (given ws cells r)
cell_is [] cells r j rising e = absurd (cc)
cell_is (w ∷ ws) [] r j rising e = refl
cell_is (w ∷ ws) (c ∷ cells) r j rising e = go (r == w) refl (place_in ws r) e (λ k. cell_is ws cells r k (rest_rises w ws rising))
  where
    only_this : (c : Option ℕ) → cell_word c ≡ cell_word (later None c)
    only_this (Some x) = refl
    only_this None = refl

    not_this : (g : Option ℕ) → cell_word g ≡ cell_word (later g None)
    not_this (Some x) = refl
    not_this None = refl

    go : (b : Bool) → (r == w) ≡ b → (o : Option ℕ) → cond b (Some 0) (next_place o) ≡ Some j → ((k : ℕ) → o ≡ Some k → cell_word (get_or cells k None) ≡ cell_word (given ws cells r)) → cell_word (get_or (c ∷ cells) j None) ≡ cell_word (later (given ws cells r) (cond b c None))
    go true is o e rest = let z : 0 ≡ j = cc in
        ap (λ k. cell_word (get_or (c ∷ cells) k None)) (sym z) ∙ (only_this c ∙ ap (λ g. cell_word (later g c)) (sym (not_given (given ws cells r) (λ h. let a = above w ws r rising (given_is ws cells r h) in let b = eqb-true r w is in absurd (omega arith)))))
    go false is (Some k) e rest = let z : suc k ≡ j = cc in ap (λ k. cell_word (get_or (c ∷ cells) k None)) (sym z) ∙ (rest k refl ∙ not_this (given ws cells r))
    go false is None e rest = absurd (cc)

pub version_is : (o : Option Outcome) (ws : List ℕ) (r j : ℕ) → IsRising ws → is_some o ≡ true → place_in ws r ≡ Some j → word_of o (suc j) ≡ cell_word (gives o ws r)
version_is (Some (Commit cells)) ws r j rising some e = cell_is ws cells r j rising e
version_is (Some (Abort why)) ws r j rising some e = refl
version_is None ws r j rising some e = absurd (false≢true some)

-- the loop that seeks the place
pub place_found : (ws : List ℕ) (r j : ℕ) → j < length ws → ((k : ℕ) → k < j → get_or ws k 0 ≢ r) → get_or ws j 0 ≡ r → Some j ≡ place_in ws r
place_found [] r j l before here = absurd (omega arith)
place_found (w ∷ ws) r zero l before here = sym (ap (λ b. cond b (Some 0) (next_place (place_in ws r))) (eq-eqb r w (sym here)))
place_found (w ∷ ws) r (suc j) l before here = ap next_place (place_found ws r j (omega arith) (λ k lk. before (suc k) (omega arith)) here) ∙ sym (ap (λ b. cond b (Some 0) (next_place (place_in ws r))) (ne_eqb r w (λ e. before 0 (omega arith) (sym e))))

pub place_missing : (ws : List ℕ) (r : ℕ) → ((k : ℕ) → k < length ws → get_or ws k 0 ≢ r) → None ≡ place_in ws r
place_missing [] r each = refl
place_missing (w ∷ ws) r each = ap next_place (place_missing ws r (λ k lk. each (suc k) (omega arith))) ∙ sym (ap (λ b. cond b (Some 0) (next_place (place_in ws r))) (ne_eqb r w (λ e. each 0 (omega arith) (sym e))))

-- what a position gives a record that it doesn't write
pub no_version : (o : Option Outcome) (ws : List ℕ) (r : ℕ) → place_in ws r ≡ None → None ≡ gives o ws r
no_version o ws r e = sym (not_given (gives o ws r) (λ h. false≢true (sym (no_place ws r e) ∙ gives_is o ws r h)))
