-- A loop over an object's keys.
use Rattle.std.proofs.Common.{◌≡◌, List, [], ◌∷◌, ℕ, true, false, cond, Result, Ok, Err, String, Global, string_bytes, refl, sym, ◌∙◌}
use Rattle.serde_json.specs.View.{members_view}
use Rattle.serde_json.specs.declared.value.Value.{Value}
use Rattle.doc_forms.specs.declared.fault.Step.TheVariants.{Key}
use Rattle.doc_forms.specs.Faults.{Fault, Field}
use Rattle.doc_forms.specs.Forms.{only, is_listed}
use Rattle.std.specs.Prelude.{⊤}

abbrev pub Entry : Type 0
Entry = String Global × Value

only_at : (keys : List (List ℕ)) (s t : List Entry) (e : Entry) → s ≡ e ∷ t → only keys (members_view s) ≡ cond (is_listed keys (string_bytes e.0)) (only keys (members_view t)) (Err (Field (Key (string_bytes e.0) ∷ [])))
unfolding only
only_at keys s t e is = rw is refl

pub only_stops : (keys : List (List ℕ)) (s t : List Entry) (e : Entry) (total : Result ⊤ Fault) → s ≡ e ∷ t → is_listed keys (string_bytes e.0) ≡ false → only keys (members_view s) ≡ total → total ≡ Err (Field (Key (string_bytes e.0) ∷ []))
only_stops keys s t e total is other so_far = sym so_far ∙ only_at keys s t e is ∙ rw other refl

pub only_goes_on : (keys : List (List ℕ)) (s t : List Entry) (e : Entry) (total : Result ⊤ Fault) → s ≡ e ∷ t → is_listed keys (string_bytes e.0) ≡ true → only keys (members_view s) ≡ total → only keys (members_view t) ≡ total
only_goes_on keys s t e total is listed so_far = sym (only_at keys s t e is ∙ rw listed refl) ∙ so_far

pub only_ended : (keys : List (List ℕ)) (s : List Entry) (total : Result ⊤ Fault) → s ≡ [] → only keys (members_view s) ≡ total → total ≡ Ok tt
unfolding only
only_ended keys s total is so_far = sym so_far ∙ rw is refl
