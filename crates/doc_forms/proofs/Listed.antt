-- Whether a text is one of a list, as a test and as a fact.
use Rattle.std.proofs.Common.{◌≡◌, ℕ, List, refl, Contains}
use Rattle.std.specs.Bool.{Decides}
use Rattle.std.specs.List.{list_any}
use Rattle.std.specs.Str.{bytes_eq}
use Rattle.std.proofs.lemmas.Bool.Decides.{Decides-by_or}
use Rattle.std.proofs.lemmas.Slice.Eq.{bytes_eq-Decides}
use Rattle.std.proofs.lemmas.List.Elements.{Decides-contains}
use Rattle.doc_forms.specs.Forms.{is_listed}

pub listed_decides : (texts : List (List ℕ)) (text : List ℕ) → Decides (is_listed texts text) (Contains texts text)
unfolding is_listed
listed_decides texts text =
    Decides-contains texts text _
    (Decides-by_or (λ other. bytes_eq other text) (λ other. other ≡ text) (λ l. list_any (λ other. bytes_eq other text) l) (λ other. bytes_eq-Decides other text) refl (λ _ _. refl) texts)
