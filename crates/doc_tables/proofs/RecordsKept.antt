-- What a list of records and its reading keep.
use Rattle.std.proofs.Common.{◌≡◌, ℕ, ◌≤◌, List, ◌∷◌, length, Result, Ok, Err, IfOk, Option, take, drop, arith, refl}
use Rattle.std.specs.List.{All, insert}
use Rattle.std.proofs.lemmas.List.Elements.{All-append, All-cons, All-drop, All-take}
use Rattle.std.proofs.lemmas.List.Edits.{length-insert}
use Rattle.serde_json.specs.Data.{Data}
use Rattle.txn_types.specs.Values.{max_value, IsValue, AreValues}
use Rattle.doc_forms.specs.declared.fault.Which.TheVariants as word
use Rattle.doc_forms.specs.declared.fault.DocFault.{DocFault}
use Rattle.doc_forms.specs.Answers.{Gives}
use Rattle.doc_forms.specs.Forms.{number_in}
use Rattle.doc_forms.proofs.Meant.{number_means}

pub read_value : (v : Option Data) (answer : Result ℕ DocFault) → Gives (λ n. n) answer (number_in 0 max_value word.Value v) → IfOk answer IsValue
read_value v (Ok n) h = (number_means 0 max_value word.Value v n h).2
read_value v (Err f) h = tt

-- one put among others
pub all_inserted : {A : Type 0} (P : A → Type 0) (xs : List A) (i : ℕ) (x : A) → P x → All P xs → All P (insert xs i x)
all_inserted P xs i x here all = All-append P (take i xs) (x ∷ drop i xs) (All-take P i xs all) (All-cons P x (drop i xs) here (All-drop P i xs all))

pub values_after : (values : List ℕ) (place n : ℕ) → AreValues values → IsValue n → AreValues (insert values place n)
values_after values place n all one = all_inserted IsValue values place n one all

pub lengths_after : (names : List (List ℕ)) (values : List ℕ) (place : ℕ) (text : List ℕ) (n : ℕ) → length values ≡ length names → place ≤ length names → length (insert values place n) ≡ length (insert names place text)
lengths_after names values place text n is le = rw (length-insert values place n (omega (arith, is, le)), length-insert names place text le, is) refl
