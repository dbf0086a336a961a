-- Tokens of which none passes a counted limit.
use Rattle.std.proofs.Common.{◌≡◌, ℕ, ◌≤◌, Bool, true, false, nat_lt, List, [], ◌∷◌, ◌++◌, fold, refl, ap, ◌∙◌, arith, inl}
use Rattle.std.proofs.lemmas.List.Sums.{fold-append}
use Rattle.std.proofs.lemmas.Bool.{or_parts}
use Rattle.std.proofs.lemmas.Bool.Decides.{nat_tests}
use Rattle.contract_grammar.specs.declared.token.Operator.{Operator}
use Rattle.contract_grammar.specs.declared.token.Mark.TheVariants.{WordRequire, WordIf, WordElse, Semicolon, Becomes}
use Rattle.contract_grammar.specs.declared.token.Token.TheVariants.{Number, Named, Infix, Not, Open, Close}
use Rattle.contract_grammar.specs.declared.token.Extent.{Extent}
use Rattle.contract_grammar.specs.declared.token.Placed.{Placed}
use Rattle.contract_grammar.specs.Tree.{Tree, number, name, negation, binary, begun_at}
use Rattle.contract_grammar.specs.Grammar.{tok, fixed, Spells, of_number, of_name, of_group, of_not, of_binary, of_tighter}
use Rattle.contract_grammar.specs.Limits.{plain, Tally, tallied, no_tally, passes, is_large, is_bad_count, is_further_name, is_further_op, IsWithinLimits}
use Rattle.txn_types.specs.Values.{max_value}
use Rattle.contract_text.specs.Room.{IsSmall}

-- no token passes a limit, from this tally on
abbrev pub Quiet : Tally → List Placed → Type 0
Quiet c [] = Unit {0}
Quiet c (k ∷ ks) = (passes c k ≡ false) × Quiet (tallied c k) ks

-- the tally after some tokens
abbrev pub past : Tally → List Placed → Tally
past c ts = fold tallied c ts

pub past_both : (c : Tally) (xs ys : List Placed) → past c (xs ++ ys) ≡ past (past c xs) ys
past_both c xs ys = fold-append tallied c xs ys

not_true : (b : Bool) → (b ≡ true → ⊥) → b ≡ false
not_true true h = absurd (h refl)
not_true false h = refl

quiet_from : (c : Tally) (ts : List Placed) → ((q : List Placed) (k : Placed) (rest : List Placed) → ts ≡ q ++ k ∷ rest → passes (past c q) k ≡ true → ⊥) → Quiet c ts
quiet_from c [] h = tt
quiet_from c (k ∷ ks) h = (not_true _ (h [] k ks refl), quiet_from (tallied c k) ks (λ q j rest e. h (k ∷ q) j rest (ap (λ l. k ∷ l) e)))

pub quiet_within : (ts : List Placed) → IsWithinLimits ts → Quiet no_tally ts
quiet_within ts h = quiet_from no_tally ts (λ q k rest e over. h q k rest e (inl over))

pub quiet_parts : (c : Tally) (xs ys : List Placed) → Quiet c (xs ++ ys) → Quiet c xs × Quiet (past c xs) ys
quiet_parts c [] ys h = (tt, h)
quiet_parts c (x ∷ xs) ys h = let r = quiet_parts (tallied c x) xs ys h.1 in ((h.0, r.0), r.1)

-- what a token that passes no limit keeps
pub record Kept (c : Tally) (k : Placed) : Type 0 where
  pub large : is_large k.token ≡ false
  pub count : is_bad_count c.previous c.scopes k.token ≡ false
  pub further : is_further_name c.previous c.commas c.scopes k.token ≡ false
  pub op : is_further_op c.ops k.token ≡ false

pub kept : (c : Tally) (k : Placed) → passes c k ≡ false → Kept c k
unfolding passes
kept c k h =
    let a = or_parts _ _ h in
    let b = or_parts _ _ a.1 in
    let d = or_parts _ _ b.1 in
    let e = or_parts _ _ d.1 in
    let f = or_parts _ _ e.1 in
    let g = or_parts _ _ f.1 in
    record { large = a.0; count = d.0; further = f.0; op = g.0 }

-- blocks and operations stay, and a token behind no word of a limit is behind none
pub record Stays (c d : Tally) : Type 0 where
  pub scopes : d.scopes ≡ c.scopes
  pub ops : d.ops ≡ c.ops
  pub previous : c.previous ≡ plain → d.previous ≡ plain

pub stays_both : {c d e : Tally} → Stays c d → Stays d e → Stays c e
stays_both s t = record { scopes = t.scopes ∙ s.scopes; ops = t.ops ∙ s.ops; previous = λ h. t.previous (s.previous h) }

pub stays_past : (c : Tally) (xs ys : List Placed) → Stays c (past c xs) → Stays (past c xs) (past (past c xs) ys) → Stays c (past c (xs ++ ys))
stays_past c xs ys s t = rw (past_both c xs ys) (stays_both s t)

module _ (c : Tally) (w : Extent) where
  pub stays_number : (n : ℕ) → Stays c (tallied c (tok w (Number n)))
  unfolding tallied
  stays_number n = record { scopes = refl; ops = refl; previous = λ h. rw h refl }

  pub stays_name : (x : List ℕ) (long : Bool) → Stays c (tallied c (tok w (Named x long)))
  unfolding tallied
  stays_name x long = record { scopes = refl; ops = refl; previous = λ h. refl }

  pub stays_infix : (op : Operator) → Stays c (tallied c (tok w (Infix op)))
  unfolding tallied
  stays_infix op = record { scopes = refl; ops = refl; previous = λ h. refl }

  pub stays_not : Stays c (tallied c (tok w Not))
  unfolding tallied
  stays_not = record { scopes = refl; ops = refl; previous = λ h. refl }

  pub stays_open : Stays c (tallied c (tok w Open))
  unfolding tallied
  stays_open = record { scopes = refl; ops = refl; previous = λ h. refl }

  pub stays_close : Stays c (tallied c (tok w Close))
  unfolding tallied
  stays_close = record { scopes = refl; ops = refl; previous = λ h. refl }

  pub stays_semicolon : Stays c (tallied c (fixed w Semicolon))
  unfolding tallied
  stays_semicolon = record { scopes = refl; ops = refl; previous = λ h. refl }

  pub stays_becomes : Stays c (tallied c (fixed w Becomes))
  unfolding tallied
  stays_becomes = record { scopes = refl; ops = refl; previous = λ h. refl }

  pub stays_require : Stays c (tallied c (fixed w WordRequire))
  unfolding tallied
  stays_require = record { scopes = refl; ops = refl; previous = λ h. refl }

  pub stays_if : Stays c (tallied c (fixed w WordIf))
  unfolding tallied
  stays_if = record { scopes = refl; ops = refl; previous = λ h. refl }

  pub stays_else : Stays c (tallied c (fixed w WordElse))
  unfolding tallied
  stays_else = record { scopes = refl; ops = refl; previous = λ h. refl }

-- ---- expressions

small_begun : (p : ℕ) (e : Tree) → IsSmall e → IsSmall (begun_at p e)
small_begun p (number at n) h = h
small_begun p (name at own x) h = h
small_begun p (negation at e) h = h
small_begun p (binary at op a b) h = h

small_number : (n : ℕ) → nat_lt max_value n ≡ false → n ≤ max_value
small_number n h = grind (arith, nat_tests)

pub expr_small : {l : ℕ} {ts : List Placed} {e : Tree} → Spells l ts e → (c : Tally) → Quiet c ts → IsSmall e
expr_small (of_number {w = w} {n = n}) c q = small_number n (kept c (tok w (Number n)) q.0).large
expr_small of_name c q = tt
expr_small (of_group {w = w} {ts = ts} {e = e} z r) c q = small_begun w.start e (expr_small r (tallied c (tok w Open)) (quiet_parts (tallied c (tok w Open)) ts (tok z Close ∷ []) q.1).0)
expr_small (of_not {w = w} r) c q = expr_small r (tallied c (tok w Not)) q.1
expr_small (of_binary {xs = xs} {ys = ys} w op r s) c q =
    let parts = quiet_parts c xs (tok w (Infix op) ∷ ys) q in
    (expr_small r c parts.0, expr_small s (tallied (past c xs) (tok w (Infix op))) parts.1.1)
expr_small (of_tighter r) c q = expr_small r c q

pub expr_stays : {l : ℕ} {ts : List Placed} {e : Tree} → Spells l ts e → (c : Tally) → Stays c (past c ts)
expr_stays (of_number {w = w} {n = n}) c = stays_number c w n
expr_stays (of_name {w = w} {x = x} {long = long}) c = stays_name c w x long
expr_stays (of_group {w = w} {ts = ts} z r) c =
    let d = tallied c (tok w Open) in
    stays_both (stays_open c w) (stays_past d ts (tok z Close ∷ []) (expr_stays r d) (stays_close (past d ts) z))
expr_stays (of_not {w = w} r) c = stays_both (stays_not c w) (expr_stays r (tallied c (tok w Not)))
expr_stays (of_binary {xs = xs} {ys = ys} w op r s) c =
    let d = past c xs in
    stays_past c xs (tok w (Infix op) ∷ ys) (expr_stays r c) (stays_both (stays_infix d w op) (expr_stays s (tallied d (tok w (Infix op)))))
expr_stays (of_tighter r) c = expr_stays r c
