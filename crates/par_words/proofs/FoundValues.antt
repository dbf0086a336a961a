-- What clap's matches say of the options of a command.
use Rattle.std.proofs.Common.{◌≡◌, ◌∙◌, ℕ, ◌||◌, Bool, true, false, cond, refl, sym, ap, subst, List, [], ◌∷◌, ◌++◌, Option, Some, None, codes, option_map, option_and_then, slice_get}
use Rattle.std.specs.Prelude.{find, fold, Result, Ok, Err, MatchResult, MatchOption, IfOk, ⊤, ◌⊎◌}
use Rattle.std.proofs.Common.{inl, inr}
use Rattle.clap.specs.Kinds.{Kinds, IsAmong}
use Rattle.clap.specs.declared.error.kind.ErrorKind.{ErrorKind}
use Rattle.clap.specs.declared.error.kind.ErrorKind.TheVariants as kind
use Rattle.std.specs.Str.{bytes_eq}
use Rattle.clap.specs.Walk as walk
use Rattle.clap.specs.Walk.{Row, Rule, Text, with_default, first_of, has_row, rows_of, at_row}
use Rattle.clap.specs.Simple.{App, built}
use Rattle.clap.specs.declared.parser.matches.Found.{Found}
use Rattle.clap.proofs.WalkLemmas.{first_value-rows}
use Rattle.clap.specs.declared.parser.matches.ValueSource.TheVariants.{DefaultValue}
use Rattle.clap.specs.declared.builder.value_parser.Reading.TheVariants as how
use Rattle.par_words.specs.OptionUses.{Use, uses_in}
use Rattle.par_words.specs.CommandOptions.{run_options, soak_options, run_app, soak_app, value_in, is_true, IsFound, IsNoneFound, IsRunOf, IsSoakOf}
use Rattle.par_words.proofs.Walks.{row_for, rows_for, rule_for, rules_for, at_row_fresh}
use Rattle.par_words.proofs.Parses.{app_for, parse_ok, parse_err, stray_read}

find_row : (n : Text) (uses : List Use) → find (λ (r : Row). bytes_eq r.id n) (rows_for uses) ≡ option_map row_for (find (λ (u : Use). bytes_eq u.0 n) uses)
find_row n [] = refl
find_row n (u ∷ us) = go (bytes_eq u.0 n) (find_row n us)
  where
    go : (b : Bool) → find (λ (r : Row). bytes_eq r.id n) (rows_for us) ≡ option_map row_for (find (λ (u : Use). bytes_eq u.0 n) us)
        → cond b (Some (row_for u)) (find (λ (r : Row). bytes_eq r.id n) (rows_for us)) ≡ option_map row_for (cond b (Some u) (find (λ (u : Use). bytes_eq u.0 n) us))
    go true h = refl
    go false h = h

first_row : (n : Text) (uses : List Use) → first_of n (rows_for uses) ≡ value_in uses n
first_row n uses = ap (λ o. option_and_then (λ (r : Row). slice_get r.values 0) o) (find_row n uses) ∙ go (find (λ (u : Use). bytes_eq u.0 n) uses)
  where
    go : (o : Option Use) → option_and_then (λ (r : Row). slice_get r.values 0) (option_map row_for o) ≡ option_map (λ u. u.1) o
    go None = refl
    go (Some u) = refl

find_snoc : (p : Row → Bool) (xs : List Row) (y : Row) → p y ≡ false → find p (xs ++ y ∷ []) ≡ find p xs
find_snoc p [] y e = ap (λ b. cond b (Some y) None) e
find_snoc p (x ∷ xs) y e = ap (λ o. cond (p x) (Some x) o) (find_snoc p xs y e)

-- a row that isn't there yet is found where it is added
no_row : (n : Text) (rows : List Row) → has_row n rows ≡ false → find (λ (r : Row). bytes_eq r.id n) rows ≡ None
no_row n [] e = refl
no_row n (r ∷ rows) e = go (bytes_eq r.id n) e (no_row n rows)
  where
    go : (b : Bool) → (b || has_row n rows) ≡ false → (has_row n rows ≡ false → find (λ (x : Row). bytes_eq x.id n) rows ≡ None) → cond b (Some r) (find (λ (x : Row). bytes_eq x.id n) rows) ≡ None
    go true h rest = cc
    go false h rest = rest h

find_new : (n : Text) (rows : List Row) (y : Row) → bytes_eq y.id n ≡ true → has_row n rows ≡ false → find (λ (r : Row). bytes_eq r.id n) (rows ++ y ∷ []) ≡ Some y
find_new n [] y is e = ap (λ b. cond b (Some y) None) is
find_new n (r ∷ rows) y is e = go (bytes_eq r.id n) e (find_new n rows y is)
  where
    go : (b : Bool) → (b || has_row n rows) ≡ false → (has_row n rows ≡ false → find (λ (x : Row). bytes_eq x.id n) (rows ++ y ∷ []) ≡ Some y)
        → cond b (Some r) (find (λ (x : Row). bytes_eq x.id n) (rows ++ y ∷ [])) ≡ Some y
    go true h rest = cc
    go false h rest = rest h

-- the row of a flag that was not given
abbrev unset : Text → Row
unset name = record { id = name; values = codes "false" ∷ []; count = None; source = Some DefaultValue; reading = how.AsWritten }

no_default : (name : Text) (rows : List Row) → with_default rows (rule_for (name, true)) ≡ rows
no_default name rows = go (has_row name rows)
  where
    go : (b : Bool) → cond b rows rows ≡ rows
    go true = refl
    go false = refl

abbrev defaulted : Text → List Row → List Row
defaulted name rows = at_row name (walk.more_values DefaultValue (codes "false" ∷ [])) (unset name ∷ []) rows

abbrev with_flag : Text → List Row → List Row
with_flag name rows = with_default rows (rule_for (name, false))

flag_default : (name : Text) (rows : List Row) → with_flag name rows ≡ cond (has_row name rows) rows (rows ++ unset name ∷ [])
flag_default name rows = go (has_row name rows) refl
  where
    go : (b : Bool) → has_row name rows ≡ b → cond b rows (defaulted name rows) ≡ cond b rows (rows ++ unset name ∷ [])
    go true e = refl
    go false e = at_row_fresh name (walk.more_values DefaultValue (codes "false" ∷ [])) (unset name ∷ []) rows e

abbrev value_of : Option Row → Option Text
value_of o = option_and_then (λ (r : Row). slice_get r.values 0) o

-- what other options were given stays
others_stay : (name n : Text) (rows : List Row) → bytes_eq name n ≡ false → first_of n (with_flag name rows) ≡ first_of n rows
others_stay name n rows apart = ap (first_of n) (flag_default name rows) ∙ go (has_row name rows)
  where
    go : (b : Bool) → first_of n (cond b rows (rows ++ unset name ∷ [])) ≡ first_of n rows
    go true = refl
    go false = ap value_of (find_snoc (λ (r : Row). bytes_eq r.id n) rows (unset name) apart)

-- and a flag that wasn't given is false
unset_is_false : (name : Text) (rows : List Row) → bytes_eq name name ≡ true → is_true (first_of name (with_flag name rows)) ≡ is_true (first_of name rows)
unset_is_false name rows itself = ap (λ rs. is_true (first_of name rs)) (flag_default name rows) ∙ go (has_row name rows) refl
  where
    go : (b : Bool) → has_row name rows ≡ b → is_true (first_of name (cond b rows (rows ++ unset name ∷ []))) ≡ is_true (first_of name rows)
    go true e = refl
    go false e = ap (λ o. is_true (value_of o)) (find_new name rows (unset name) itself e) ∙ sym (ap (λ o. is_true (value_of o)) (no_row name rows e))

record Values (uses : List Use) (rows : List Row) : Type 0 where
  workers : first_of (codes "workers") rows ≡ value_in uses (codes "workers")
  trace : is_true (first_of (codes "trace") rows) ≡ is_true (value_in uses (codes "trace"))
  evidence : is_true (first_of (codes "evidence") rows) ≡ is_true (value_in uses (codes "evidence"))

flag_values : (uses : List Use) → Values uses (with_flag (codes "evidence") (with_flag (codes "trace") (rows_for uses)))
flag_values uses =
    let traced = with_flag (codes "trace") (rows_for uses) in record {
      workers = others_stay (codes "evidence") (codes "workers") traced refl ∙ others_stay (codes "trace") (codes "workers") (rows_for uses) refl ∙ first_row (codes "workers") uses;
      trace = ap is_true (others_stay (codes "evidence") (codes "trace") traced refl) ∙ unset_is_false (codes "trace") (rows_for uses) refl ∙ ap is_true (first_row (codes "trace") uses);
      evidence = unset_is_false (codes "evidence") traced refl ∙ ap is_true (others_stay (codes "trace") (codes "evidence") (rows_for uses) refl) ∙ ap is_true (first_row (codes "evidence") uses);
    }

run_rows : (uses : List Use) → Values uses (fold with_default (rows_for uses) (rules_for run_options))
run_rows uses =
    subst (Values uses) (sym (ap (λ rows. with_flag (codes "evidence") (with_flag (codes "trace") rows)) (no_default (codes "workers") (rows_for uses)))) (flag_values uses)

built_run : built run_app ≡ app_for (codes "run") run_options
built_run = refl

-- on words that clap takes
run_found : (found : Found) (words : List Text) → IsFound run_app found words → IsRunOf found words
run_found found words is =
    let got = parse_ok run_app (codes "run") run_options words built_run refl is.plain is.no_fault in
    let same : rows_of found ≡ fold with_default (rows_for got.0) (rules_for run_options) = is.rows ∙ got.2 in
    let values = run_rows got.0 in record {
      uses = got.0;
      gives = got.1;
      workers = first_value-rows found (codes "workers") ∙ (ap (first_of (codes "workers")) same ∙ values.workers);
      trace = ap is_true (first_value-rows found (codes "trace") ∙ ap (first_of (codes "trace")) same) ∙ values.trace;
      evidence = ap is_true (first_value-rows found (codes "evidence") ∙ ap (first_of (codes "evidence")) same) ∙ values.evidence;
    }

-- on words that it refuses, or one of which is stray
run_none : (words : List Text) → IsNoneFound run_app words → uses_in run_options words ≡ None
run_none words (inl stray) = stray_read run_options _ words refl stray
run_none words (inr fault) = parse_err run_app (codes "run") run_options words built_run refl fault.0 fault.1

soak_rows : (uses : List Use) → fold with_default (rows_for uses) (rules_for soak_options) ≡ rows_for uses
soak_rows uses =
    ap (λ rows. with_default (with_default rows (rule_for (codes "txns", true))) (rule_for (codes "workers", true))) (no_default (codes "seed") (rows_for uses))
    ∙ ap (λ rows. with_default rows (rule_for (codes "workers", true))) (no_default (codes "txns") (rows_for uses))
    ∙ no_default (codes "workers") (rows_for uses)

built_soak : built soak_app ≡ app_for (codes "soak") soak_options
built_soak = refl

soak_found : (found : Found) (words : List Text) → IsFound soak_app found words → IsSoakOf found words
soak_found found words is =
    let got = parse_ok soak_app (codes "soak") soak_options words built_soak refl is.plain is.no_fault in
    let same : rows_of found ≡ rows_for got.0 = is.rows ∙ got.2 ∙ soak_rows got.0 in record {
      uses = got.0;
      gives = got.1;
      seed = first_value-rows found (codes "seed") ∙ ap (first_of (codes "seed")) same ∙ first_row (codes "seed") got.0;
      txns = first_value-rows found (codes "txns") ∙ ap (first_of (codes "txns")) same ∙ first_row (codes "txns") got.0;
      workers = first_value-rows found (codes "workers") ∙ ap (first_of (codes "workers")) same ∙ first_row (codes "workers") got.0;
    }

soak_none : (words : List Text) → IsNoneFound soak_app words → uses_in soak_options words ≡ None
soak_none words (inl stray) = stray_read soak_options _ words refl stray
soak_none words (inr fault) = parse_err soak_app (codes "soak") soak_options words built_soak refl fault.0 fault.1

answer_as : {M E : Type 0} (none other : Type 0) (P Q : M → Type 0) → (none → other) → ((m : M) → P m → Q m) → (r : Result (Option M) E) → IfOk r (λ o. MatchOption o none P) → IfOk r (λ o. MatchOption o other Q)
answer_as none other P Q f g (Ok None) h = f h
answer_as none other P Q f g (Ok (Some m)) h = g m h
answer_as none other P Q f g (Err e) h = tt

-- an answer of clap to a command's words
pub run_answer : {M E : Type 0} (found_in : M → Found) (app : App) (words : List (List ℕ)) → app ≡ run_app → (r : Result (Option M) E)
    → IfOk r (λ o. MatchOption o (IsNoneFound app words) (λ m. IsFound app (found_in m) words))
    → IfOk r (λ o. MatchOption o (uses_in run_options words ≡ None) (λ m. IsRunOf (found_in m) words))
run_answer found_in app words is r h =
    answer_as _ _ _ _ (λ none. run_none words (subst (λ (a : App). IsNoneFound a words) is none)) (λ m found. run_found (found_in m) words (subst (λ (a : App). IsFound a (found_in m) words) is found)) r h

pub soak_answer : {M E : Type 0} (found_in : M → Found) (app : App) (words : List (List ℕ)) → app ≡ soak_app → (r : Result (Option M) E)
    → IfOk r (λ o. MatchOption o (IsNoneFound app words) (λ m. IsFound app (found_in m) words))
    → IfOk r (λ o. MatchOption o (uses_in soak_options words ≡ None) (λ m. IsSoakOf (found_in m) words))
soak_answer found_in app words is r h =
    answer_as _ _ _ _ (λ none. soak_none words (subst (λ (a : App). IsNoneFound a words) is none)) (λ m found. soak_found (found_in m) words (subst (λ (a : App). IsFound a (found_in m) words) is found)) r h

-- an error of clap's that isn't want of memory
pub faulty : (k : ErrorKind) (kinds : Kinds) → (k ≡ kind.OutOfMemory) ⊎ IsAmong k kinds → (k ≡ kind.OutOfMemory → ⊥) → kinds ≡ [] → ⊥
faulty k kinds (inl is) other none = other is
faulty k [] (inr among) other none = among
faulty k (x ∷ xs) (inr among) other none = cc

pub refused_so : {T E : Type 0} (P : T → Type 0) (none : Type 0) (r : Result (Option T) E) (other : Type 0) → MatchResult r (λ o. (o ≡ None) × other) (λ _. ⊤)
    → (other → none) → IfOk r (λ o. MatchOption o none P)
refused_so P none (Ok None) other h f = f h.1
refused_so P none (Ok (Some x)) other h f = cc
refused_so P none (Err e) other h f = tt
