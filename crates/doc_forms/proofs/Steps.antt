-- A check one step further down, and a loop of them.
use Rattle.std.proofs.Common.{◌≡◌, ℕ, ◌+◌, ◌<◌, ◌≤◌, List, length, drop, drop-cons, get_or, add-one, Result, Ok, Err, refl, sym, ap, ◌∙◌, inl, inr}
use Rattle.std.specs.Prelude.{MatchResult, IsErrAnd}
use Rattle.std.proofs.Math.ListN.{drop_of_length-le}
use Rattle.serde_json.specs.Data.{Data}
use Rattle.serde_json.specs.View.{view, items_view}
use Rattle.serde_json.specs.declared.value.Value.{Value}
use Rattle.contract_text.specs.declared.faults.TextFault.{TextFault}
use Rattle.contract_text.specs.declared.faults.TextFault.TheVariants as text
use Rattle.doc_forms.specs.declared.fault.Step.{Step}
use Rattle.doc_forms.specs.declared.fault.Step.TheVariants.{Index}
use Rattle.doc_forms.specs.declared.fault.DocFault.{DocFault}
use Rattle.doc_forms.specs.declared.fault.DocFault.TheVariants as doc
use Rattle.doc_forms.specs.Faults.{Fault}
use Rattle.doc_forms.specs.Check.{◌>>=◌, within, Fails, FailsText}
use Rattle.doc_forms.specs.Answers.{Gives, raised, IsRaised}
use Rattle.doc_forms.specs.Forms.{each}

fails_text_under : {Y : Type 0} (s : Step) (app : ℕ) (f : TextFault) (check : Result Y Fault) → FailsText app f check → FailsText app f (within s check)
fails_text_under s app (text.Syntax at) check h = ap (within s) h
fails_text_under s app (text.UnknownName at) check h = ap (within s) h
fails_text_under s app (text.Kind at) check h = ap (within s) h
fails_text_under s app (text.Limit at) check h = ap (within s) h
fails_text_under s app (text.Double at) check h = ap (within s) h
fails_text_under s app text.OutOfMemory check h = h

fails_under : {Y : Type 0} (s : Step) (f : DocFault) (check : Result Y Fault) → Fails f check → Fails (raised s f) (within s check)
fails_under s doc.NotJson check h = ap (within s) h
fails_under s (doc.Field p) check h = ap (within s) h
fails_under s (doc.Limit w n) check h = ap (within s) h
fails_under s (doc.Contract app f) check h = fails_text_under s app f check h
fails_under s (doc.Name p) check h = ap (within s) h
fails_under s (doc.Double p) check h = ap (within s) h
fails_under s doc.OutOfMemory check h = tt

-- the outcome of a check, taken one step further up
abbrev pub TakenUp : {X : Type 0} → Step → Result X DocFault → Result X DocFault → Type 0
TakenUp s checked result = MatchResult checked (λ x. result ≡ Ok x) (λ f. IsErrAnd result (IsRaised s f))

err_taken : {Y : Type 0} (s : Step) (f e : DocFault) (check : Result Y Fault) → Fails f check → IsRaised s f e → Fails e (within s check)
err_taken s f e check h (inl is) = rw is (fails_under s f check h)
err_taken s f e check h (inr is) = rw is tt

pub gives_up : {X Y : Type 0} (seen : X → Y) (s : Step) (checked result : Result X DocFault) (check : Result Y Fault) → Gives seen checked check → TakenUp s checked result → Gives seen result (within s check)
gives_up seen s (Ok x) result check h is = rw is (ap (within s) h)
gives_up seen s (Err f) (Ok x) check h is = elim is [ ]
gives_up seen s (Err f) (Err e) check h is = err_taken s f e check h is

-- a loop over the items
unrolled : {S : Type 0} (step : S → Data → Result S Fault) (i : ℕ) (done : S) (vs : List Value) (v : Value) → i < length vs → v ≡ get_or vs i v
    → each step i done (items_view (drop i vs)) ≡ (within (Index i) (step done (view v)) >>= λ more. each step (i + 1) more (items_view (drop (i + 1) vs)))
unfolding each
unrolled step i done vs v lt is = rw (drop-cons vs i v, ← is, add-one) refl

pub goes_on : {S : Type 0} (step : S → Data → Result S Fault) (i : ℕ) (done more : S) (vs : List Value) (v : Value) (total : Result S Fault) → i < length vs → v ≡ get_or vs i v
    → within (Index i) (step done (view v)) ≡ Ok more → each step i done (items_view (drop i vs)) ≡ total → each step (i + 1) more (items_view (drop (i + 1) vs)) ≡ total
goes_on step i done more vs v total lt is ok so_far = sym (unrolled step i done vs v lt is ∙ ap (λ r. r >>= λ m. each step (i + 1) m (items_view (drop (i + 1) vs))) ok) ∙ so_far

fails_text_first : {A B : Type 0} (app : ℕ) (f : TextFault) (first : Result A Fault) (next : A → Result B Fault) → FailsText app f first → FailsText app f (first >>= next)
fails_text_first app (text.Syntax at) first next h = ap (λ r. r >>= next) h
fails_text_first app (text.UnknownName at) first next h = ap (λ r. r >>= next) h
fails_text_first app (text.Kind at) first next h = ap (λ r. r >>= next) h
fails_text_first app (text.Limit at) first next h = ap (λ r. r >>= next) h
fails_text_first app (text.Double at) first next h = ap (λ r. r >>= next) h
fails_text_first app text.OutOfMemory first next h = h

-- where the first check fails, the whole does
pub fails_first : {A B : Type 0} (e : DocFault) (first : Result A Fault) (next : A → Result B Fault) → Fails e first → Fails e (first >>= next)
fails_first doc.NotJson first next h = ap (λ r. r >>= next) h
fails_first (doc.Field p) first next h = ap (λ r. r >>= next) h
fails_first (doc.Limit w n) first next h = ap (λ r. r >>= next) h
fails_first (doc.Contract app f) first next h = fails_text_first app f first next h
fails_first (doc.Name p) first next h = ap (λ r. r >>= next) h
fails_first (doc.Double p) first next h = ap (λ r. r >>= next) h
fails_first doc.OutOfMemory first next h = tt

pub fails_here : {S : Type 0} (step : S → Data → Result S Fault) (i : ℕ) (done : S) (vs : List Value) (v : Value) (total : Result S Fault) (e : DocFault) → i < length vs → v ≡ get_or vs i v
    → Fails e (within (Index i) (step done (view v))) → each step i done (items_view (drop i vs)) ≡ total → Fails e total
fails_here step i done vs v total e lt is failed so_far =
    rw (sym so_far, unrolled step i done vs v lt is) (fails_first e _ (λ more. each step (i + 1) more (items_view (drop (i + 1) vs))) failed)

pub ended : {S : Type 0} (step : S → Data → Result S Fault) (i : ℕ) (done : S) (vs : List Value) (total : Result S Fault) → length vs ≤ i
    → each step i done (items_view (drop i vs)) ≡ total → total ≡ Ok done
unfolding each
ended step i done vs total le so_far = sym so_far ∙ rw (drop_of_length-le vs le) refl
