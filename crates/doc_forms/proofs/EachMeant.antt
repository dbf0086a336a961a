-- A list gives Ok exactly where its items say what it gives, whatever is done with each.
use Rattle.std.proofs.Common.{◌≡◌, ℕ, suc, ◌≤◌, ◌++◌, ◌&&◌, leb, List, [], ◌∷◌, Option, Some, Result, Ok, refl, sym, ap, subst, ◌∙◌, append_assoc, append-nil}
use Rattle.std.proofs.lemmas.Bool.{leb-true, le-leb}
use Rattle.serde_json.specs.Data.{Data, array, Items, no_items, item, Members}
use Rattle.serde_json.specs.Find.{get_member}
use Rattle.serde_json.specs.Events.{items_len}
use Rattle.doc_forms.specs.declared.fault.Step.TheVariants.{Key, Index}
use Rattle.doc_forms.specs.declared.fault.Which.{Which}
use Rattle.doc_forms.specs.Faults.{Fault}
use Rattle.doc_forms.specs.Check.{within}
use Rattle.doc_forms.specs.Forms as form
use Rattle.doc_forms.specs.Forms.{wanted, list_in, items, list_at}
use Rattle.doc_forms.specs.Meaning.{EachSays, HasList}
use Rattle.doc_forms.proofs.Meant.{bind_ok, within_ok, wanted_ok, array_is, passed, both}

-- items put one after another
abbrev pub put_all : {S X : Type 0} → (S → X → S) → S → List X → S
put_all put done [] = done
put_all put done (x ∷ xs) = put_all put (put done x) xs

-- each may come where it comes
abbrev pub AllFresh : {S X : Type 0} → (S → X → S) → (S → X → Type 0) → S → List X → Type 0
AllFresh put Fresh done [] = Unit {0}
AllFresh put Fresh done (x ∷ xs) = Fresh done x × AllFresh put Fresh (put done x) xs

-- what is done with an item: it says something that may come there, which is put
pub record IsStep {S X : Type 0} (step : S → Data → Result S Fault) (Says : Data → X → Type 0) (put : S → X → S) (Fresh : S → X → Type 0) : Type 0 where
  pub means : (done more : S) (d : Data) → step done d ≡ Ok more → (x : X) × Says d x × Fresh done x × (put done x ≡ more)
  pub reads : (done : S) (d : Data) (x : X) → Says d x → Fresh done x → step done d ≡ Ok (put done x)

-- what a list gives
pub record Gave {S X : Type 0} (Says : Data → X → Type 0) (put : S → X → S) (Fresh : S → X → Type 0) (done : S) (ds : Items) (all : S) : Type 0 where
  pub xs : List X
  pub say : EachSays Says ds xs
  pub fresh : AllFresh put Fresh done xs
  pub is : put_all put done xs ≡ all

abbrev ok_of : {A : Type 0} → A → Result A Fault
ok_of x = Ok x

same_ok : {A : Type 0} (x y : A) → ok_of x ≡ ok_of y → x ≡ y
same_ok x y h = cc

pub each_means : {S X : Type 0} (step : S → Data → Result S Fault) (Says : Data → X → Type 0) (put : S → X → S) (Fresh : S → X → Type 0) → IsStep step Says put Fresh
    → (i : ℕ) (done all : S) (ds : Items) → form.each step i done ds ≡ Ok all → Gave Says put Fresh done ds all
unfolding form.each
each_means step Says put Fresh is i done all no_items e = record { xs = []; say = tt; fresh = tt; is = same_ok done all e }
each_means step Says put Fresh is i done all (item d ds) e =
    let first = bind_ok (within (Index i) (step done d)) _ all e in
    let one = is.means done first.0 d (within_ok (Index i) _ first.0 first.1) in
    let others = each_means step Says put Fresh is (suc i) first.0 all ds first.2 in
    record {
      xs = one.0 ∷ others.xs;
      say = (one.1, others.say);
      fresh = (one.2, subst (λ (s : _). AllFresh put Fresh s others.xs) (sym one.3) others.fresh);
      is = ap (λ (s : _). put_all put s others.xs) one.3 ∙ others.is;
    }

pub each_reads : {S X : Type 0} (step : S → Data → Result S Fault) (Says : Data → X → Type 0) (put : S → X → S) (Fresh : S → X → Type 0) → IsStep step Says put Fresh
    → (i : ℕ) (done : S) (ds : Items) (xs : List X) → EachSays Says ds xs → AllFresh put Fresh done xs → form.each step i done ds ≡ Ok (put_all put done xs)
unfolding form.each
each_reads step Says put Fresh is i done no_items [] say fresh = refl
each_reads step Says put Fresh is i done no_items (x ∷ xs) say fresh = absurd say
each_reads step Says put Fresh is i done (item d ds) [] say fresh = absurd say
each_reads step Says put Fresh is i done (item d ds) (x ∷ xs) say fresh =
    rw (is.reads done d x say.0 fresh.0) (each_reads step Says put Fresh is (suc i) (put done x) ds xs say.1 fresh.1)

-- an array with so many items

pub list_in_means : (low high : ℕ) (w : Which) (v : Option Data) (ds : Items) → list_in low high w v ≡ Ok ds → (v ≡ Some (array ds)) × (low ≤ items_len ds) × (items_len ds ≤ high)
unfolding list_in
list_in_means low high w v ds e =
    let a = bind_ok (wanted _) _ ds e in
    let p = passed (leb low (items_len a.0) && leb (items_len a.0) high) a.0 ds _ a.2 in
    let t = both (leb low (items_len a.0)) (leb (items_len a.0) high) p.0 in
    (array_is v ds (wanted_ok _ _ a.1 ∙ ap Some p.1), subst (λ (x : Items). low ≤ items_len x) p.1 (leb-true low _ t.0), subst (λ (x : Items). items_len x ≤ high) p.1 (leb-true _ high t.1))

pub list_in_reads : (low high : ℕ) (w : Which) (v : Option Data) (ds : Items) → v ≡ Some (array ds) → low ≤ items_len ds → items_len ds ≤ high → list_in low high w v ≡ Ok ds
unfolding list_in
list_in_reads low high w v ds is least most = rw (is, le-leb low (items_len ds) least, le-leb (items_len ds) high most) refl

-- what a list of so many items gives
pub record ListGave {S X : Type 0} (Says : Data → X → Type 0) (put : S → X → S) (Fresh : S → X → Type 0) (low high : ℕ) (start : S) (v : Option Data) (all : S) : Type 0 where
  pub xs : List X
  pub list : HasList Says low high v xs
  pub fresh : AllFresh put Fresh start xs
  pub is : put_all put start xs ≡ all

pub items_mean : {S X : Type 0} (step : S → Data → Result S Fault) (Says : Data → X → Type 0) (put : S → X → S) (Fresh : S → X → Type 0) → IsStep step Says put Fresh
    → (low high : ℕ) (w : Which) (start : S) (v : Option Data) (all : S) → items low high w step start v ≡ Ok all → ListGave Says put Fresh low high start v all
unfolding items
items_mean step Says put Fresh is low high w start v all e =
    let a = bind_ok (list_in low high w v) _ all e in
    let l = list_in_means low high w v a.0 a.1 in
    let g = each_means step Says put Fresh is 0 start all a.0 a.2 in
    record { xs = g.xs; list = record { items = a.0; is = l.0; least = l.1; most = l.2; each = g.say }; fresh = g.fresh; is = g.is }

pub items_read : {S X : Type 0} (step : S → Data → Result S Fault) (Says : Data → X → Type 0) (put : S → X → S) (Fresh : S → X → Type 0) → IsStep step Says put Fresh
    → (low high : ℕ) (w : Which) (start : S) (v : Option Data) (xs : List X) → HasList Says low high v xs → AllFresh put Fresh start xs → items low high w step start v ≡ Ok (put_all put start xs)
unfolding items
items_read step Says put Fresh is low high w start v xs h fresh =
    rw (list_in_reads low high w v h.items h.is h.least h.most) (each_reads step Says put Fresh is 0 start h.items xs h.each fresh)

pub list_at_means : {S X : Type 0} (step : S → Data → Result S Fault) (Says : Data → X → Type 0) (put : S → X → S) (Fresh : S → X → Type 0) → IsStep step Says put Fresh
    → (k : List ℕ) (low high : ℕ) (w : Which) (start : S) (ms : Members) (all : S) → list_at k low high w step start ms ≡ Ok all → ListGave Says put Fresh low high start (get_member k ms) all
unfolding list_at
list_at_means step Says put Fresh is k low high w start ms all e =
    items_mean step Says put Fresh is low high w start (get_member k ms) all (within_ok (Key k) (items low high w step start (get_member k ms)) all e)

pub list_at_reads : {S X : Type 0} (step : S → Data → Result S Fault) (Says : Data → X → Type 0) (put : S → X → S) (Fresh : S → X → Type 0) → IsStep step Says put Fresh
    → (k : List ℕ) (low high : ℕ) (w : Which) (start : S) (ms : Members) (xs : List X) → HasList Says low high (get_member k ms) xs → AllFresh put Fresh start xs → list_at k low high w step start ms ≡ Ok (put_all put start xs)
unfolding list_at
list_at_reads step Says put Fresh is k low high w start ms xs h fresh = rw (items_read step Says put Fresh is low high w start (get_member k ms) xs h fresh) refl

-- items put at the end, of which any may come

abbrev pub at_end : {X : Type 0} → List X → X → List X
at_end done x = done ++ x ∷ []

abbrev pub any : {S X : Type 0} → S → X → Type 0
any done x = Unit {0}

pub all_at_end : {X : Type 0} (done xs : List X) → put_all at_end done xs ≡ done ++ xs
all_at_end done [] = sym (append-nil done)
all_at_end done (x ∷ xs) = all_at_end (done ++ x ∷ []) xs ∙ append_assoc done (x ∷ []) xs

pub all_any : {S X : Type 0} (put : S → X → S) (done : S) (xs : List X) → AllFresh put any done xs
all_any put done [] = tt
all_any put done (x ∷ xs) = (tt, all_any put (put done x) xs)
