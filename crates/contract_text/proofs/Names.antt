-- Names that differ, and what a name that is found stands for.
use Rattle.std.proofs.Common.{◌≡◌, ℕ, suc, ◌+◌, ◌<◌, ◌||◌, Bool, true, false, nat_eq, List, [], ◌∷◌, ◌++◌, length, map, Option, Some, None, slice_get, Contains, refl, sym, ◌∙◌, subst, arith, if◌then◌else◌}
use Rattle.std.specs.Bool.{Decides}
use Rattle.std.specs.Cmp.Lexicographic.{pointwise, bytes_decides}
use Rattle.std.proofs.lemmas.List.{get_or_default}
use Rattle.std.proofs.lemmas.Bool.Decides.{Decides-like, Decides-by_or}
use Rattle.contract_grammar.specs.declared.tree.ParamKind.{ParamKind}
use Rattle.contract_grammar.specs.declared.tree.ParamKind.TheVariants as kind
use Rattle.contract_grammar.specs.declared.tree.Param.{Param}
use Rattle.oxii_defs.specs.Syntax as meant
use Rattle.oxii_defs.specs.WellFormed.{HasKind}
use Rattle.oxii_defs.specs.NameLists.{AllDiffer, is_named}
use Rattle.txn_core.specs.Checked.{all_differ}
use Rattle.txn_core.proofs.CheckLemmas.{differ_decides}
use Rattle.contract_text.specs.declared.symbols.Symbol.{Symbol}
use Rattle.contract_text.specs.declared.symbols.Symbol.TheVariants as symbol
use Rattle.contract_text.specs.Symbols.{parameter_symbol, among_params, among_locals, or_else, symbol_of}
use Rattle.contract_text.specs.Typed.{typed_kind, formal}

pub named_decides : (names : List (List ℕ)) (x : List ℕ) → Decides (is_named names x) (Contains names x)
named_decides names x = Decides-like _
    (λ h. (h.0, h.1, h.2 x))
    (λ h. (h.0, h.1, λ d. get_or_default names h.0 d x h.1 ∙ h.2))
    (Decides-by_or (λ y. pointwise nat_eq y x) (λ y. y ≡ x) (λ l. is_named l x) (λ y. bytes_decides y x) refl (λ _ _. refl) names)

true_is_not_false : (b : Bool) → b ≡ true → b ≡ false → ⊥
true_is_not_false b t f = cc

pub not_named : (names : List (List ℕ)) (x : List ℕ) → is_named names x ≡ false → ¬ Contains names x
not_named names x h = λ found. true_is_not_false _ ((named_decides names x).1 found) h

-- ---- names that differ

-- each name is new behind these and those before it
abbrev pub AreFresh : List (List ℕ) → List (List ℕ) → Type 0
AreFresh seen [] = Unit {0}
AreFresh seen (x ∷ xs) = (is_named seen x ≡ false) × AreFresh (seen ++ x ∷ []) xs

or_first : (a b : Bool) → a ≡ true → (a || b) ≡ true
or_first a b h = rw h refl

named_front : (seen : List (List ℕ)) (x y : List ℕ) → is_named seen y ≡ true → is_named (seen ++ x ∷ []) y ≡ true
named_front [] x y h = cc
named_front (z ∷ seen) x y h = elim (pointwise nat_eq z y) as (λ b. (b || is_named seen y) ≡ true → (b || is_named (seen ++ x ∷ []) y) ≡ true) [ true ↦ λ e. refl | false ↦ λ e. named_front seen x y e ] h

named_last : (seen : List (List ℕ)) (x : List ℕ) → is_named (seen ++ x ∷ []) x ≡ true
named_last [] x = or_first _ _ ((bytes_decides x x).1 refl)
named_last (z ∷ seen) x = elim (pointwise nat_eq z x) as (λ b. (b || is_named (seen ++ x ∷ []) x) ≡ true) [ true ↦ refl | false ↦ named_last seen x ]

apart : (seen xs : List (List ℕ)) → AreFresh seen xs → (y : List ℕ) → is_named seen y ≡ true → is_named xs y ≡ false
apart seen [] h y known = refl
apart seen (x ∷ xs) h y known =
    let rest = apart (seen ++ x ∷ []) xs h.1 y (named_front seen x y known) in
    let other : pointwise nat_eq x y ≡ true → ⊥ = λ e. true_is_not_false (is_named seen x) (subst (λ z. is_named seen z ≡ true) (sym ((bytes_decides x y).0 e)) known) h.0 in
    elim (pointwise nat_eq x y) as (λ b. (b ≡ true → ⊥) → (b || is_named xs y) ≡ false) [ true ↦ λ no. absurd (no refl) | false ↦ λ no. rest ] other

fresh_tests : (seen xs : List (List ℕ)) → AreFresh seen xs → all_differ xs ≡ true
fresh_tests seen [] h = refl
fresh_tests seen (x ∷ xs) h = rw (apart (seen ++ x ∷ []) xs h.1 x (named_last seen x)) (fresh_tests (seen ++ x ∷ []) xs h.1)

pub fresh_differ : (seen xs : List (List ℕ)) → AreFresh seen xs → AllDiffer xs
fresh_differ seen xs h = (differ_decides xs).0 (fresh_tests seen xs h)

-- ---- what a name stands for

-- a name that is found stands for what is there
abbrev pub IsThere : List meant.Formal → List (List ℕ) → Symbol → Type 0
IsThere params locals (symbol.Rec i) = HasKind params i meant.RecKind
IsThere params locals (symbol.Num i) = HasKind params i meant.NumKind
IsThere params locals (symbol.Local i) = i < length locals

-- the same of parameters of these kinds, of which the first has this place
abbrev Sits : ℕ → List meant.ParamKind → Symbol → Type 0
Sits place kinds (symbol.Rec i) = (j : ℕ) × (i ≡ place + j) × (slice_get kinds j ≡ Some meant.RecKind)
Sits place kinds (symbol.Num i) = (j : ℕ) × (i ≡ place + j) × (slice_get kinds j ≡ Some meant.NumKind)
Sits place kinds (symbol.Local i) = ⊥

some_is : {A : Type 0} (a b : A) → ◌≡◌ {A = Option A} (Some a) (Some b) → a ≡ b
some_is a b e = cc

none_is : {A : Type 0} (a : A) → ◌≡◌ {A = Option A} None (Some a) → ⊥
none_is a e = cc

sits_here : (k : ParamKind) (place : ℕ) (kinds : List meant.ParamKind) → Sits place (typed_kind k ∷ kinds) (parameter_symbol k place)
sits_here kind.Record place kinds = (0, omega arith, refl)
sits_here kind.Number place kinds = (0, omega arith, refl)

sits_next : (s : Symbol) (place : ℕ) (k : meant.ParamKind) (kinds : List meant.ParamKind) → Sits (place + 1) kinds s → Sits place (k ∷ kinds) s
sits_next (symbol.Rec i) place k kinds h = (suc h.0, omega (arith, h.1), h.2)
sits_next (symbol.Num i) place k kinds h = (suc h.0, omega (arith, h.1), h.2)
sits_next (symbol.Local i) place k kinds h = h

abbrev kinds_of : List Param → List meant.ParamKind
kinds_of ps = map (λ f. f.kind) (map formal ps)

params_sit : (ps : List Param) (place : ℕ) (x : List ℕ) (s : Symbol) → among_params place ps x ≡ Some s → Sits place (kinds_of ps) s
params_sit [] place x s e = absurd (none_is s e)
params_sit (p ∷ ps) place x s e = elim (pointwise nat_eq p.name x) as (λ b. (if b then Some (parameter_symbol p.kind place) else among_params (place + 1) ps x) ≡ Some s → Sits place (kinds_of (p ∷ ps)) s) [
  | true ↦ λ h. subst (Sits place (kinds_of (p ∷ ps))) (some_is _ _ h) (sits_here p.kind place (kinds_of ps))
  | false ↦ λ h. sits_next s place (typed_kind p.kind) (kinds_of ps) (params_sit ps (place + 1) x s h)
] e

sits_there : (params : List Param) (locals : List (List ℕ)) (s : Symbol) → Sits 0 (kinds_of params) s → IsThere (map formal params) locals s
sits_there params locals (symbol.Rec i) h = let is : i ≡ h.0 = omega (arith, h.1) in rw is h.2
sits_there params locals (symbol.Num i) h = let is : i ≡ h.0 = omega (arith, h.1) in rw is h.2
sits_there params locals (symbol.Local i) h = absurd h

-- a local with a place below a bound
abbrev IsLocalBelow : ℕ → Symbol → Type 0
IsLocalBelow n (symbol.Rec i) = ⊥
IsLocalBelow n (symbol.Num i) = ⊥
IsLocalBelow n (symbol.Local i) = i < n

locals_below : (ys : List (List ℕ)) (place n : ℕ) (x : List ℕ) (s : Symbol) → place + length ys ≡ n → among_locals place ys x ≡ Some s → IsLocalBelow n s
locals_below [] place n x s is e = absurd (none_is s e)
locals_below (y ∷ ys) place n x s is e = elim (pointwise nat_eq y x) as (λ b. (if b then Some (symbol.Local place) else among_locals (place + 1) ys x) ≡ Some s → IsLocalBelow n s) [
  | true ↦ λ h. subst (IsLocalBelow n) (some_is _ _ h) (let lt : place < n = omega (arith, is) in lt)
  | false ↦ λ h. locals_below ys (place + 1) n x s (omega (arith, is)) h
] e

below_there : (params : List meant.Formal) (locals : List (List ℕ)) (s : Symbol) → IsLocalBelow (length locals) s → IsThere params locals s
below_there params locals (symbol.Rec i) h = absurd h
below_there params locals (symbol.Num i) h = absurd h
below_there params locals (symbol.Local i) h = h

either_there : (params : List Param) (locals : List (List ℕ)) (x : List ℕ) (s : Symbol) (o : Option Symbol) → among_params 0 params x ≡ o → or_else o (among_locals 0 locals x) ≡ Some s
    → IsThere (map formal params) locals s
either_there params locals x s None is e = below_there (map formal params) locals s (locals_below locals 0 (length locals) x s (omega arith) e)
either_there params locals x s (Some t) is e = sits_there params locals s (params_sit params 0 x s (is ∙ e))

pub found_there : (params : List Param) (locals : List (List ℕ)) (x : List ℕ) (s : Symbol) → symbol_of params locals x ≡ Some s → IsThere (map formal params) locals s
found_there params locals x s e = either_there params locals x s (among_params 0 params x) refl e

-- ---- a name that is not found

abbrev pub names_of : List Param → List (List ℕ)
names_of ps = map (λ f. f.name) (map formal ps)

no_param : (ps : List Param) (place : ℕ) (x : List ℕ) → among_params place ps x ≡ None → is_named (names_of ps) x ≡ false
no_param [] place x e = refl
no_param (p ∷ ps) place x e = elim (pointwise nat_eq p.name x) as (λ b. (if b then Some (parameter_symbol p.kind place) else among_params (place + 1) ps x) ≡ None → (b || is_named (names_of ps) x) ≡ false) [
  | true ↦ λ h. absurd (none_is _ (sym h))
  | false ↦ λ h. no_param ps (place + 1) x h
] e

no_local : (ys : List (List ℕ)) (place : ℕ) (x : List ℕ) → among_locals place ys x ≡ None → is_named ys x ≡ false
no_local [] place x e = refl
no_local (y ∷ ys) place x e = elim (pointwise nat_eq y x) as (λ b. (if b then Some (symbol.Local place) else among_locals (place + 1) ys x) ≡ None → (b || is_named ys x) ≡ false) [
  | true ↦ λ h. absurd (none_is _ (sym h))
  | false ↦ λ h. no_local ys (place + 1) x h
] e

both_none : (a b : Option Symbol) → or_else a b ≡ None → (a ≡ None) × (b ≡ None)
both_none None b e = (refl, e)
both_none (Some s) b e = absurd (none_is s (sym e))

pub not_found : (params : List Param) (locals : List (List ℕ)) (x : List ℕ) → symbol_of params locals x ≡ None → (¬ Contains (names_of params) x) × (¬ Contains locals x)
not_found params locals x e =
    let both = both_none (among_params 0 params x) (among_locals 0 locals x) e in
    (not_named _ x (no_param params 0 x both.0), not_named _ x (no_local locals 0 x both.1))
