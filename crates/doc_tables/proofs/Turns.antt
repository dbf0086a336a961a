-- An item that is an application is one turn of the list.
use Rattle.std.proofs.Common.{◌≡◌, ℕ, List, [], ◌∷◌, ◌++◌, Result, Ok, Err, refl, sym, ap, ◌∙◌, subst}
use Rattle.serde_json.specs.Data.{Data}
use Rattle.oxii_defs.specs.Table.{App}
use Rattle.contract_text.specs.Verdict.{verdict}
use Rattle.doc_forms.specs.declared.fault.Step.{Step}
use Rattle.doc_forms.specs.declared.fault.DocFault.{DocFault}
use Rattle.doc_forms.specs.Faults.{Fault}
use Rattle.doc_forms.specs.Check.{◌>>=◌, within, Fails}
use Rattle.doc_forms.proofs.Steps.{fails_first}
use Rattle.doc_tables.specs.Apps.{app_in, next_app}

within_first : {A B : Type 0} (s : Step) (r : Result A Fault) (f : A → B) → within s (r >>= λ x. Ok (f x)) ≡ (within s r >>= λ x. Ok (f x))
within_first s (Ok x) f = refl
within_first s (Err e) f = refl

turn_first : (s : Step) (peers : List (List ℕ)) (before : List App) (d : Data) → within s (next_app verdict peers before d) ≡ (within s (app_in verdict peers before d) >>= λ app. Ok (before ++ app ∷ []))
unfolding next_app
turn_first s peers before d = within_first s (app_in verdict peers before d) (λ app. before ++ app ∷ [])

pub turn_fails : (s : Step) (peers : List (List ℕ)) (before : List App) (d : Data) (e : DocFault) → Fails e (within s (app_in verdict peers before d)) → Fails e (within s (next_app verdict peers before d))
turn_fails s peers before d e h = subst (Fails e) (sym (turn_first s peers before d)) (fails_first e (within s (app_in verdict peers before d)) (λ app. Ok (before ++ app ∷ [])) h)

pub turn_ok : (s : Step) (peers : List (List ℕ)) (before : List App) (d : Data) (app : App) → within s (app_in verdict peers before d) ≡ Ok app → within s (next_app verdict peers before d) ≡ Ok (before ++ app ∷ [])
turn_ok s peers before d app h = turn_first s peers before d ∙ ap (λ r. r >>= λ a. Ok (before ++ a ∷ [])) h
