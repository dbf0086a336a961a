-- Predecessor lists, compared.
use Rattle.std.specs.Prelude.{ℕ, ◌≡◌, ◌≢◌, ◌<◌, ◌+◌, ◌↔◌, Bool, true, false, List, [], ◌∷◌, length, drop, get_or, refl}
use Rattle.std.proofs.Common.{ap, sym, ◌∙◌}
use Rattle.std.proofs.lemmas.Bool.{true≢false}
use Rattle.std.proofs.lemmas.List.{drop_more}
use Rattle.std.specs.Bool.{Decides}
use Rattle.node_defs.specs.Same.{same_list, same_number}
use Rattle.node_defs.proofs.SameLemmas.{same_number_decides, same_list_decides}

abbrev pub same_lists : List (List ℕ) → List (List ℕ) → Bool
same_lists = same_list (same_list same_number)

lists_decide : (xs ys : List (List ℕ)) → Decides (same_lists xs ys) (xs ≡ ys)
lists_decide = same_list_decides (same_list_decides same_number_decides)

-- lists that differ aren't taken for the same
pub lists_differ : (xs ys : List (List ℕ)) → xs ≢ ys → same_lists xs ys ≡ false
lists_differ xs ys d = one (same_lists xs ys) refl
  where
    one : (b : Bool) → same_lists xs ys ≡ b → same_lists xs ys ≡ false
    one false e = e
    one true e = absurd (d ((lists_decide xs ys).0 e))

-- where difference is refuted, they are the same
pub lists_are : (xs ys : List (List ℕ)) → (xs ≢ ys → ⊥) → same_lists xs ys ≡ true
lists_are xs ys d = one (same_lists xs ys) refl
  where
    one : (b : Bool) → same_lists xs ys ≡ b → same_lists xs ys ≡ true
    one true e = e
    one false e = absurd (d (λ same. true≢false (sym ((lists_decide xs ys).1 same) ∙ e)))

-- one list more is the same
pub next_list : (xs ys : List (List ℕ)) (t : ℕ) → t < length xs → t < length ys → get_or xs t [] ≡ get_or ys t [] → (xs ≡ ys) ↔ (drop t xs ≡ drop t ys) → (xs ≡ ys) ↔ (drop (t + 1) xs ≡ drop (t + 1) ys)
next_list xs ys t l m e left = (ap (drop (t + 1)), λ rest. left.1 (drop_more xs t [] l ∙ ((λ i. e i ∷ rest i) ∙ sym (drop_more ys t [] m))))
