-- The first of each sender.
use Rattle.std.specs.Prelude.{ℕ, ◌==◌, Bool, true, false, ◌||◌, cond, List, [], ◌∷◌, ◌++◌, map, reverse, Some, None, ◌≡◌, refl}
use Rattle.std.specs.List.{list_any, cons_option}
use Rattle.std.proofs.Common.{sym, ◌∙◌, ap}
use Rattle.std.proofs.lemmas.Bool.{eqb-true}
use Rattle.node_defs.specs.Counting.{first_of_each}
use Rattle.counting_laws.proofs.Reversed.{list_any-reverse, reverse-push}

-- a sender stands among the first of each exactly where it stands in the list
pub senders_stay : {A : Type 0} (s : ℕ) (xs : List (ℕ × A)) → list_any (λ y. y.0 == s) (first_of_each xs) ≡ list_any (λ y. y.0 == s) xs
senders_stay s [] = refl
senders_stay {A} s (x ∷ xs) = one (list_any (λ y. y.0 == x.0) xs) refl (senders_stay s xs)
  where
    known : (b : Bool) → (x.0 == s) ≡ b → list_any (λ y. y.0 == x.0) xs ≡ true → list_any (λ (y : ℕ × A). y.0 == s) xs ≡ (b || list_any (λ y. y.0 == s) xs)
    known false e h = refl
    known true e h = ap (λ z. list_any (λ (y : ℕ × A). y.0 == z) xs) (sym (eqb-true x.0 s e)) ∙ h

    one : (b : Bool) → list_any (λ y. y.0 == x.0) xs ≡ b → list_any (λ y. y.0 == s) (first_of_each xs) ≡ list_any (λ y. y.0 == s) xs → list_any (λ y. y.0 == s) (cond b (first_of_each xs) (x ∷ first_of_each xs)) ≡ ((x.0 == s) || list_any (λ y. y.0 == s) xs)
    one true h stays = stays ∙ known (x.0 == s) refl h
    one false h stays = ap (λ b. (x.0 == s) || b) stays

list_any-map : {E A : Type 0} (f : E → A) (p : A → Bool) (es : List E) → list_any p (map f es) ≡ list_any (λ e. p (f e)) es
list_any-map f p [] = refl
list_any-map f p (e ∷ es) = ap (λ b. p (f e) || b) (list_any-map f p es)

-- a sender is told from kept entries, which are the first of each sender, in the order in which they came
pub senders_kept : {E A : Type 0} (pair : E → ℕ × A) (s : ℕ) (es : List E) (xs : List (ℕ × A)) → map pair (reverse es) ≡ first_of_each xs → list_any (λ e. (pair e).0 == s) es ≡ list_any (λ x. x.0 == s) xs
senders_kept {E} {A} pair s es xs k =
    sym (list_any-reverse (λ e. (pair e).0 == s) es)
    ∙ (sym (list_any-map pair (λ (x : ℕ × A). x.0 == s) (reverse es))
    ∙ (ap (list_any (λ (x : ℕ × A). x.0 == s)) k ∙ senders_stay s xs))

-- they stay so with one entry more, which is kept behind them unless its sender has one
pub firsts_more : {E A : Type 0} (pair : E → ℕ × A) (e : E) (es : List E) (xs : List (ℕ × A)) → map pair (reverse es) ≡ first_of_each xs →
    map pair (reverse (cond (list_any (λ x. (pair x).0 == (pair e).0) es) es (es ++ e ∷ []))) ≡ first_of_each (pair e ∷ xs)
firsts_more {E} {A} pair e es xs k =
    ap (λ b. map pair (reverse (cond b es (es ++ e ∷ [])))) (senders_kept pair (pair e).0 es xs k) ∙ one (list_any (λ (x : ℕ × A). x.0 == (pair e).0) xs)
  where
    one : (b : Bool) → map pair (reverse (cond b es (es ++ e ∷ []))) ≡ cond b (first_of_each xs) (pair e ∷ first_of_each xs)
    one true = k
    one false = ap (map pair) (reverse-push es e) ∙ ap (λ ys. pair e ∷ ys) k

-- one more entry in front, where a test holds
pub cons_option-if : {A : Type 0} (b : Bool) (v : A) (xs : List A) → cons_option (cond b (Some v) None) xs ≡ cond b (v ∷ xs) xs
cons_option-if true v xs = refl
cons_option-if false v xs = refl
