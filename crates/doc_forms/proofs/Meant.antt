-- Each form gives Ok exactly where the value says it.
use Rattle.std.proofs.Common.{◌≡◌, ℕ, ◌≤◌, Bool, true, false, cond, ◌&&◌, leb, List, [], ◌∷◌, Option, Some, None, option_and_then, Result, Ok, Err, Contains, refl, sym, ap, subst, ◌∙◌, arith}
use Rattle.std.specs.Prelude.{⊤}
use Rattle.std.proofs.lemmas.Bool.{leb-true, le-leb}
use Rattle.serde_json.specs.Data.{unsigned, negative, float, Data, null, boolean, number, string, array, object, Items, Members, no_members, member}
use Rattle.serde_json.specs.Find.{get_member, as_object, as_str, as_array}
use Rattle.doc_forms.specs.declared.fault.Step.{Step}
use Rattle.doc_forms.specs.declared.fault.Step.TheVariants.{Key}
use Rattle.doc_forms.specs.declared.fault.Which.{Which}
use Rattle.doc_forms.specs.Faults.{Fault, Field}
use Rattle.doc_forms.specs.Check.{◌>>=◌, within}
use Rattle.doc_forms.specs.Forms as form
use Rattle.doc_forms.specs.Forms.{wanted, whole, at, number_in, number_at, name_at, list_in, is_listed, is_name, object as members_of}
use Rattle.doc_forms.specs.Tables.{reference, found}
use Rattle.doc_forms.specs.Meaning.{HasOnly, HasNumber, HasName, HasReference}
use Rattle.doc_forms.proofs.NameTests.{Decides-name}
use Rattle.doc_forms.proofs.Listed.{listed_decides}
use Rattle.doc_forms.proofs.LookUps.{Finds}

pub bind_ok : {A B : Type 0} (r : Result A Fault) (f : A → Result B Fault) (y : B) → (r >>= f) ≡ Ok y → (x : A) × (r ≡ Ok x) × (f x ≡ Ok y)
bind_ok (Ok x) f y e = (x, refl, e)
bind_ok (Err d) f y e = absurd cc

pub within_ok : {A : Type 0} (s : Step) (r : Result A Fault) (x : A) → within s r ≡ Ok x → r ≡ Ok x
within_ok s (Ok z) x e = e
within_ok s (Err d) x e = absurd cc

pub wanted_ok : {A : Type 0} (o : Option A) (x : A) → wanted o ≡ Ok x → o ≡ Some x
wanted_ok None x e = absurd cc
wanted_ok (Some z) x e = cc

pub whole_is : (v : Option Data) (n : ℕ) → whole v ≡ Some n → v ≡ Some (number (unsigned n))
whole_is None n e = absurd cc
whole_is (Some null) n e = absurd cc
whole_is (Some (boolean b)) n e = absurd cc
whole_is (Some (number (unsigned k))) n e = cc
whole_is (Some (number (negative z))) n e = absurd cc
whole_is (Some (number (float x))) n e = absurd cc
whole_is (Some (string s)) n e = absurd cc
whole_is (Some (array ds)) n e = absurd cc
whole_is (Some (object ns)) n e = absurd cc

pub text_is : (v : Option Data) (t : List ℕ) → option_and_then as_str v ≡ Some t → v ≡ Some (string t)
text_is None t e = absurd cc
text_is (Some null) t e = absurd cc
text_is (Some (boolean b)) t e = absurd cc
text_is (Some (number n)) t e = absurd cc
text_is (Some (string s)) t e = cc
text_is (Some (array ds)) t e = absurd cc
text_is (Some (object ns)) t e = absurd cc

pub array_is : (v : Option Data) (ds : Items) → option_and_then as_array v ≡ Some ds → v ≡ Some (array ds)
array_is None t e = absurd cc
array_is (Some null) t e = absurd cc
array_is (Some (boolean b)) t e = absurd cc
array_is (Some (number n)) t e = absurd cc
array_is (Some (string s)) t e = absurd cc
array_is (Some (array ds)) t e = cc
array_is (Some (object ns)) t e = absurd cc

pub object_is : (v : Option Data) (ms : Members) → option_and_then as_object v ≡ Some ms → v ≡ Some (object ms)
object_is None t e = absurd cc
object_is (Some null) t e = absurd cc
object_is (Some (boolean b)) t e = absurd cc
object_is (Some (number n)) t e = absurd cc
object_is (Some (string s)) t e = absurd cc
object_is (Some (array ds)) t e = absurd cc
object_is (Some (object ns)) t e = cc

-- a test that has to be true, or has to be false
pub passed : {A : Type 0} (b : Bool) (x y : A) (f : Fault) → cond b (Ok x) (Err f) ≡ Ok y → (b ≡ true) × (x ≡ y)
passed true x y f e = (refl, cc)
passed false x y f e = absurd cc

pub failed : {A : Type 0} (b : Bool) (x : Result A Fault) (y : A) (f : Fault) → cond b (Err f) x ≡ Ok y → (b ≡ false) × (x ≡ Ok y)
failed true x y f e = absurd cc
failed false x y f e = (refl, e)

pub both : (a b : Bool) → (a && b) ≡ true → (a ≡ true) × (b ≡ true)
both true true e = (refl, refl)
both true false e = absurd cc
both false b e = absurd cc

pub same_ok : {A : Type 0} (x y : A) (r : Result A Fault) → r ≡ Ok x → r ≡ Ok y → x ≡ y
same_ok x y r a b = let e : Ok x ≡ Ok y = sym a ∙ b in cc

in_range : {A : Type 0} (low high k : ℕ) (x y : A) (f : Fault) → cond (leb low k && leb k high) (Ok x) (Err f) ≡ Ok y → (x ≡ y) × (low ≤ k) × (k ≤ high)
in_range low high k x y f e =
    let p = passed (leb low k && leb k high) x y f e in
    let t = both (leb low k) (leb k high) p.0 in
    (p.1, leb-true low k t.0, leb-true k high t.1)

-- numbers

pub number_means : (low high : ℕ) (w : Which) (v : Option Data) (n : ℕ) → number_in low high w v ≡ Ok n → HasNumber low high v n
unfolding number_in
number_means low high w v n e =
    let a = bind_ok (wanted (whole v)) _ n e in
    let r = in_range low high a.0 a.0 n _ a.2 in
    let is : a.0 ≡ n = r.0 in
    (whole_is v n (wanted_ok _ _ a.1 ∙ ap Some is), omega (arith, is, r.1), omega (arith, is, r.2))

pub number_reads : (low high : ℕ) (w : Which) (v : Option Data) (n : ℕ) → HasNumber low high v n → number_in low high w v ≡ Ok n
unfolding number_in
number_reads low high w v n h = rw (h.0, le-leb low n h.1, le-leb n high h.2) refl

pub number_at_means : (k : List ℕ) (low high : ℕ) (w : Which) (ms : Members) (n : ℕ) → number_at k low high w ms ≡ Ok n → HasNumber low high (get_member k ms) n
unfolding number_at
number_at_means k low high w ms n e = number_means low high w (get_member k ms) n (within_ok (Key k) (number_in low high w (get_member k ms)) n e)

-- a number at a key is at most the greatest
pub number_at_bound : (k : List ℕ) (low high : ℕ) (w : Which) (ms : Members) (n : ℕ) → number_at k low high w ms ≡ Ok n → n ≤ high
number_at_bound k low high w ms n e = (number_at_means k low high w ms n e).2

pub number_at_reads : (k : List ℕ) (low high : ℕ) (w : Which) (ms : Members) (n : ℕ) → HasNumber low high (get_member k ms) n → number_at k low high w ms ≡ Ok n
unfolding number_at
number_at_reads k low high w ms n h = rw (number_reads low high w (get_member k ms) n h) refl

-- keys

pub only_means : (keys : List (List ℕ)) (ms : Members) (u : ⊤) → form.only keys ms ≡ Ok u → HasOnly keys ms
unfolding form.only
only_means keys no_members u e = tt
only_means keys (member k d ms) u e = by_test (is_listed keys k) (listed_decides keys k).0 e (only_means keys ms u)
  where
    by_test : (b : Bool) → (b ≡ true → Contains keys k) → cond b (form.only keys ms) (Err (Field (Key k ∷ []))) ≡ Ok u → (form.only keys ms ≡ Ok u → HasOnly keys ms) → HasOnly keys (member k d ms)
    by_test true there e f = (there refl, f e)
    by_test false there e f = absurd cc

pub only_reads : (keys : List (List ℕ)) (ms : Members) → HasOnly keys ms → form.only keys ms ≡ Ok tt
unfolding form.only
only_reads keys no_members h = refl
only_reads keys (member k d ms) h = rw ((listed_decides keys k).1 h.0) (only_reads keys ms h.1)

-- names and references

pub name_means : (v : Option Data) (t : List ℕ) → form.name v ≡ Ok t → HasName v t
unfolding form.name
name_means v t e =
    let a = bind_ok (wanted (option_and_then as_str v)) _ t e in
    let p = passed (is_name a.0) a.0 t _ a.2 in
    (text_is v t (wanted_ok _ _ a.1 ∙ ap Some p.1), (Decides-name t).0 (subst (λ (x : List ℕ). is_name x ≡ true) p.1 p.0))

pub name_reads : (v : Option Data) (t : List ℕ) → HasName v t → form.name v ≡ Ok t
unfolding form.name
name_reads v t h = rw (h.0, (Decides-name t).1 h.1) refl

pub name_at_means : (k : List ℕ) (ms : Members) (t : List ℕ) → name_at k ms ≡ Ok t → HasName (get_member k ms) t
unfolding name_at
name_at_means k ms t e = name_means (get_member k ms) t (within_ok (Key k) (form.name (get_member k ms)) t e)

pub name_at_reads : (k : List ℕ) (ms : Members) (t : List ℕ) → HasName (get_member k ms) t → name_at k ms ≡ Ok t
unfolding name_at
name_at_reads k ms t h = rw (name_reads (get_member k ms) t h) refl

found_ok : {E : Type 0} (o : Option E) (e : E) → found o ≡ Ok e → o ≡ Some e
found_ok None e h = absurd cc
found_ok (Some x) e h = cc

pub reference_means : {E : Type 0} (lookup : List ℕ → Option E) (Names : List ℕ → E → Type 0) → Finds lookup Names → (v : Option Data) (e : E) → reference lookup v ≡ Ok e → HasReference Names v e
unfolding reference
reference_means lookup Names is v e h =
    let a = bind_ok (form.name v) _ e h in
    (a.0, name_means v a.0 a.1, is.found a.0 e (found_ok (lookup a.0) e a.2))

pub reference_reads : {E : Type 0} (lookup : List ℕ → Option E) (Names : List ℕ → E → Type 0) → Finds lookup Names → (v : Option Data) (e : E) → HasReference Names v e → reference lookup v ≡ Ok e
unfolding reference
reference_reads lookup Names is v e h = rw (name_reads v h.0 h.1, is.finds h.0 e h.2) refl

-- objects

pub members_are : (v : Option Data) (ms : Members) → members_of v ≡ Ok ms → v ≡ Some (object ms)
members_are v ms e = object_is v ms (wanted_ok _ _ e)
