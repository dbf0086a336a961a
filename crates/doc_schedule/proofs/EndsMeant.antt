-- Lists whose items are put at the end, and places.
use Rattle.std.proofs.Common.{◌≡◌, ℕ, ◌+◌, ◌-◌, ◌≤◌, ltb, false, List, [], Option, Result, Ok, Err, length, refl, sym, ap, subst, ◌∙◌, arith}
use Rattle.std.proofs.lemmas.Bool.Decides.{nat_tests}
use Rattle.std.specs.Prelude.{IfOk}
use Rattle.serde_json.specs.Data.{Data, Items}
use Rattle.serde_json.specs.View.{items_view}
use Rattle.serde_json.specs.declared.value.Value.{Value}
use Rattle.doc_forms.specs.declared.fault.Which.{Which}
use Rattle.doc_forms.specs.declared.fault.DocFault.{DocFault}
use Rattle.doc_forms.specs.Faults.{Fault}
use Rattle.doc_forms.specs.Answers.{Gives}
use Rattle.doc_forms.specs.Forms as form
use Rattle.doc_forms.specs.Forms.{number_in}
use Rattle.doc_forms.specs.Meaning.{HasNumber, EachSays, HasList}
use Rattle.doc_forms.proofs.Lists.{length_of_items}
use Rattle.doc_forms.proofs.Meant.{bind_ok, same_ok, number_means, number_reads}
use Rattle.doc_forms.proofs.EachMeant.{IsStep, at_end, any, all_at_end, all_any, each_means, each_reads, items_mean, items_read}
use Rattle.doc_forms.proofs.SetsMeant.{length_of_said}
use Rattle.doc_schedule.specs.Places.{place_in}
use Rattle.doc_schedule.specs.ScheduleMeaning.{HasPlace}

-- an Ok of this value
abbrev pub gives : {A : Type 0} → A → Result A Fault
gives x = Ok x

pub each_end_means : {X : Type 0} (step : List X → Data → Result (List X) Fault) (Says : Data → X → Type 0) → IsStep step Says at_end any
    → (ds : Items) (xs : List X) → form.each step 0 [] ds ≡ Ok xs → EachSays Says ds xs
each_end_means step Says is ds xs e =
    let gave = each_means step Says at_end any is 0 [] xs ds e in
    subst (EachSays Says ds) (sym (all_at_end [] gave.xs) ∙ gave.is) gave.say

pub each_end_reads : {X : Type 0} (step : List X → Data → Result (List X) Fault) (Says : Data → X → Type 0) → IsStep step Says at_end any
    → (ds : Items) (xs : List X) → EachSays Says ds xs → form.each step 0 [] ds ≡ Ok xs
each_end_reads step Says is ds xs say =
    each_reads step Says at_end any is 0 [] ds xs say (all_any at_end [] xs) ∙ ap gives (all_at_end [] xs)

pub list_end_means : {X : Type 0} (step : List X → Data → Result (List X) Fault) (Says : Data → X → Type 0) → IsStep step Says at_end any
    → (low high : ℕ) (w : Which) (v : Option Data) (xs : List X) → form.items low high w step [] v ≡ Ok xs → HasList Says low high v xs
list_end_means step Says is low high w v xs e =
    let gave = items_mean step Says at_end any is low high w [] v xs e in
    subst (HasList Says low high v) (sym (all_at_end [] gave.xs) ∙ gave.is) gave.list

pub list_end_reads : {X : Type 0} (step : List X → Data → Result (List X) Fault) (Says : Data → X → Type 0) → IsStep step Says at_end any
    → (low high : ℕ) (w : Which) (v : Option Data) (xs : List X) → HasList Says low high v xs → form.items low high w step [] v ≡ Ok xs
list_end_reads step Says is low high w v xs h =
    items_read step Says at_end any is low high w [] v xs h (all_any at_end [] xs) ∙ ap gives (all_at_end [] xs)

-- what holds of the count of items holds of the count of what a function gives, where the check gives it too
pub each_count : {X : Type 0} (step : List X → Data → Result (List X) Fault) (Says : Data → X → Type 0) → IsStep step Says at_end any
    → (P : ℕ → Type 0) (vs : List Value) (start : List X) (result : Result (List X) DocFault)
    → start ≡ [] → Gives (λ xs. xs) result (form.each step 0 start (items_view vs)) → P (length vs) → IfOk result (λ xs. P (length xs))
each_count step Says is P vs start (Ok xs) none e holds =
    let say = each_end_means step Says is (items_view vs) xs (rw (sym none) e) in
    subst P (sym (length_of_said Says (items_view vs) xs say ∙ length_of_items vs)) holds
each_count step Says is P vs start (Err f) none e holds = tt

pub place_means : (high : ℕ) (w : Which) (v : Option Data) (i : ℕ) → place_in high w v ≡ Ok i → HasPlace high v i
unfolding place_in
place_means high w v i e =
    let n = bind_ok (number_in 1 high w v) _ i e in
    let h = number_means 1 high w v n.0 n.1 in
    let is : n.0 - 1 ≡ i = same_ok (n.0 - 1) i (gives (n.0 - 1)) refl n.2 in
    let next : n.0 ≡ i + 1 = omega (arith, is, h.1) in
    subst (HasNumber 1 high v) next h

pub place_reads : (high : ℕ) (w : Which) (v : Option Data) (i : ℕ) → HasPlace high v i → place_in high w v ≡ Ok i
unfolding place_in
place_reads high w v i h =
    let back : i + 1 - 1 ≡ i = omega arith in
    rw (number_reads 1 high w v (i + 1) h) (ap gives back)

-- tests of a sum

pub not_above : (n k : ℕ) → ltb n k ≡ false → k ≤ n
not_above n k e = grind (arith, nat_tests)

pub test_above : (n k : ℕ) → k ≤ n → ltb n k ≡ false
test_above n k h = grind (arith, nat_tests)
