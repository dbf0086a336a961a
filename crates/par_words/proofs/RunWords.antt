-- The words of `run`.
use Rattle.std.proofs.Common.{◌≡◌, ◌∙◌, ℕ, ◌<◌, ◌^◌, ◌⊎◌, inl, inr, Bool, true, false, cond, refl, sym, ap, subst, List, [], ◌∷◌, Option, Some, None, arith, codes}
use Rattle.std.specs.Prelude.{decimal, unwrap_or}
use Rattle.std.specs.Str.{bytes_eq}
use Rattle.std.proofs.lemmas.Slice.Eq.{bytes_eq-Decides}
use Rattle.clap.specs.Matches.{first_value}
use Rattle.clap.specs.declared.parser.matches.Found.{Found}
use Rattle.par_words.specs.declared.command.Command.TheVariants.{Run, Graph, Soak}
use Rattle.par_words.specs.Words.{BeginWith, AreRunOptions, run_nothing, run_trace, run_evidence, run_workers, IsNumberOfWorkers, IsCommand, Says, SayRun}
use Rattle.par_words.specs.OptionUses.{Text, Use, is_given, option_in, option_named, uses_in}
use Rattle.par_words.specs.CommandOptions.{run_options, value_in, is_true, IsRunOf, WritesWorkers}
use Rattle.par_words.proofs.Spelling.{option_spelled}
use Rattle.par_words.proofs.Gives.{Gives, give_nothing, give_flag, give_words, give_joined, no_value, given_read, read_given}
use Rattle.par_words.proofs.Saying.{IsValue, absent, without, numbered, begin_words, begin_joined, takes_value, same_value}

-- FROM WHAT IS SAID

-- a flag is given where it is asked for
record IsFlag (uses : List Use) (name : Text) (asked : Bool) : Type 0 where
  given : is_given uses name ≡ asked
  value : is_true (value_in uses name) ≡ asked

record RunGiven (words : List Text) (workers : Option ℕ) (traced evident : Bool) : Type 0 where
  uses : List Use
  gives : Gives run_options words uses
  number : IsValue IsNumberOfWorkers (value_in uses (codes "workers")) workers
  trace : IsFlag uses (codes "trace") traced
  evidence : IsFlag uses (codes "evidence") evident

small : (n : ℕ) → IsNumberOfWorkers n → n < 2 ^ 64
small n range = omega (arith, range.1)

run_given : (words : List Text) (workers : Option ℕ) (traced evident : Bool) → AreRunOptions words workers traced evident → RunGiven words workers traced evident
run_given words workers traced evident run_nothing =
    record { uses = []; gives = give_nothing; number = tt; trace = record { given = refl; value = refl }; evidence = record { given = refl; value = refl } }
run_given words workers traced evident (run_trace rest number shown said) =
    let next = run_given rest number false shown said in record {
      uses = (codes "trace", codes "true") ∷ next.uses;
      gives = give_flag (codes "--trace") (codes "trace") rest next.uses refl refl next.trace.given next.gives;
      number = next.number;
      trace = record { given = refl; value = refl };
      evidence = record { given = next.evidence.given; value = next.evidence.value };
    }
run_given words workers traced evident (run_evidence rest number asked said) =
    let next = run_given rest number asked false said in record {
      uses = (codes "evidence", codes "true") ∷ next.uses;
      gives = give_flag (codes "--evidence") (codes "evidence") rest next.uses refl refl next.evidence.given next.gives;
      number = next.number;
      trace = record { given = next.trace.given; value = next.trace.value };
      evidence = record { given = refl; value = refl };
    }
run_given words workers traced evident (run_workers n rest ws asked shown begins range said) =
    let next = run_given rest None asked shown said in record {
      uses = (codes "workers", decimal n) ∷ next.uses;
      gives = numbered run_options (codes "workers") (codes "--workers") n rest ws next.uses refl (λ value. refl) refl (small n range) begins (absent IsNumberOfWorkers next.uses (codes "workers") next.number) next.gives;
      number = (range, refl);
      trace = record { given = next.trace.given; value = next.trace.value };
      evidence = record { given = next.evidence.given; value = next.evidence.value };
    }

rest_of : List Text → List Text
rest_of [] = []
rest_of (w ∷ rest) = rest

said_given : (words : List Text) (n : ℕ) (traced evident : Bool) (s : SayRun (codes "run" ∷ words) n traced evident) → RunGiven words s.given traced evident
unfolding rest_of
said_given words n traced evident s =
    run_given words s.given traced evident (subst (λ (ws : List Text). AreRunOptions ws s.given traced evident) (sym (ap rest_of s.first)) s.options)

-- TO WHAT IS SAID

abbrev Said : List Text → List Use → Type 0
Said words uses = (workers : Option ℕ) → IsValue IsNumberOfWorkers (value_in uses (codes "workers")) workers
    → AreRunOptions words workers (is_true (value_in uses (codes "trace"))) (is_true (value_in uses (codes "evidence")))

abbrev workers_option : Text × Bool
workers_option = (codes "workers", true)

abbrev trace_option : Text × Bool
trace_option = (codes "trace", false)

abbrev evidence_option : Text × Bool
evidence_option = (codes "evidence", false)

abbrev IsFlagName : Text → Type 0
IsFlagName name = (name ≡ codes "trace") ⊎ (name ≡ codes "evidence")

named_flag : (name : Text) → option_named run_options name ≡ Some (name, false) → IsFlagName name
named_flag name is = go (bytes_eq (codes "workers") name) (bytes_eq (codes "trace") name) (bytes_eq (codes "evidence") name) refl refl is
  where
    never : true ≡ false → ⊥
    never e = cc

    go : (b c d : Bool) → bytes_eq (codes "trace") name ≡ c → bytes_eq (codes "evidence") name ≡ d
        → cond b (Some workers_option) (cond c (Some trace_option) (cond d (Some evidence_option) None)) ≡ Some (name, false) → IsFlagName name
    go true c d second third h = absurd (never (ap takes_value h))
    go false true d second third h = inl (sym ((bytes_eq-Decides (codes "trace") name).0 second))
    go false false true second third h = inr (sym ((bytes_eq-Decides (codes "evidence") name).0 third))
    go false false false second third h = cc

named_valued : (name : Text) → option_named run_options name ≡ Some (name, true) → name ≡ codes "workers"
named_valued name is = go (bytes_eq (codes "workers") name) (bytes_eq (codes "trace") name) (bytes_eq (codes "evidence") name) refl is
  where
    never : false ≡ true → ⊥
    never e = cc

    go : (b c d : Bool) → bytes_eq (codes "workers") name ≡ b
        → cond b (Some workers_option) (cond c (Some trace_option) (cond d (Some evidence_option) None)) ≡ Some (name, true) → name ≡ codes "workers"
    go true c d first h = sym ((bytes_eq-Decides (codes "workers") name).0 first)
    go false true d first h = absurd (never (ap takes_value h))
    go false false true first h = absurd (never (ap takes_value h))
    go false false false first h = cc

nothing_said : Said [] []
nothing_said None value = run_nothing
nothing_said (Some n) value = absurd value

-- a flag before other words
abbrev FlagBefore : Text → Type 0
FlagBefore name = (word : Text) (rest : List Text) (uses : List Use) → option_in word ≡ Some (name, None) → is_given uses name ≡ false → Said rest uses
    → Said (word ∷ rest) ((name, codes "true") ∷ uses)

trace_said : FlagBefore (codes "trace")
trace_said word rest uses spelled once said workers value =
    let evident = is_true (value_in uses (codes "evidence")) in
    subst (λ (w : Text). AreRunOptions (w ∷ rest) workers true evident) (sym (option_spelled word (codes "trace", None) spelled))
    (run_trace rest workers evident (subst (λ (o : Option Text). AreRunOptions rest workers (is_true o) evident) (no_value uses (codes "trace") once) (said workers value)))

evidence_said : FlagBefore (codes "evidence")
evidence_said word rest uses spelled once said workers value =
    let traced = is_true (value_in uses (codes "trace")) in
    subst (λ (w : Text). AreRunOptions (w ∷ rest) workers traced true) (sym (option_spelled word (codes "evidence", None) spelled))
    (run_evidence rest workers traced (subst (λ (o : Option Text). AreRunOptions rest workers traced (is_true o)) (no_value uses (codes "evidence") once) (said workers value)))

flag_said : (name : Text) → IsFlagName name → FlagBefore name
flag_said name (inl is) = subst FlagBefore (sym is) trace_said
flag_said name (inr is) = subst FlagBefore (sym is) evidence_said

valued_said : (name value : Text) (rest words : List Text) (uses : List Use) → name ≡ codes "workers" → ((n : ℕ) → value ≡ decimal n → BeginWith (45 ∷ 45 ∷ name) n rest words)
    → is_given uses name ≡ false → Said rest uses → Said words ((name, value) ∷ uses)
valued_said name value rest words uses is begins once said =
    subst (λ (m : Text). ((n : ℕ) → value ≡ decimal n → BeginWith (45 ∷ 45 ∷ m) n rest words) → is_given uses m ≡ false → Said words ((m, value) ∷ uses)) (sym is) at_workers begins once
  where
    at_workers : ((n : ℕ) → value ≡ decimal n → BeginWith (codes "--workers") n rest words) → is_given uses (codes "workers") ≡ false → Said words ((codes "workers", value) ∷ uses)
    at_workers begins once None v = absurd v
    at_workers begins once (Some n) v =
        run_workers n rest words (is_true (value_in uses (codes "trace"))) (is_true (value_in uses (codes "evidence"))) (begins n v.1) v.0 (said None (without IsNumberOfWorkers uses (codes "workers") once))

run_said : (words : List Text) (uses : List Use) → Gives run_options words uses → Said words uses
run_said words uses give_nothing = nothing_said
run_said words uses (give_flag word name rest more spelled named once gives) =
    flag_said name (named_flag name named) word rest more spelled once (run_said rest more gives)
run_said words uses (give_words word name value rest more spelled named plain once gives) =
    valued_said name value rest (word ∷ value ∷ rest) more (named_valued name named) (begin_words word name value rest spelled) once (run_said rest more gives)
run_said words uses (give_joined word name value rest more spelled named once gives) =
    valued_said name value rest (word ∷ rest) more (named_valued name named) (begin_joined word name value rest spelled) once (run_said rest more gives)

-- WHAT IS READ IS SAID

given_in : (value : Option Text) (n : ℕ) → WritesWorkers value n → (given : Option ℕ) × IsValue IsNumberOfWorkers value given × (n ≡ unwrap_or given 4)
given_in None n writes = (None, tt, writes)
given_in (Some text) n writes = (Some n, writes, refl)

says_run : (words : List Text) (uses : List Use) (n : ℕ) → uses_in run_options words ≡ Some uses → WritesWorkers (value_in uses (codes "workers")) n
    → Says (codes "run" ∷ words) (Run n (is_true (value_in uses (codes "trace"))) (is_true (value_in uses (codes "evidence"))))
says_run words uses n read writes =
    let given = given_in (value_in uses (codes "workers")) n writes in record {
      rest = words;
      first = refl;
      given = given.0;
      options = run_said words uses (read_given run_options words uses read) given.0 given.1;
      number = given.2;
    }

-- WHAT ISN'T READ ISN'T SAID

only_run : (words : List Text) → ((n : ℕ) (traced evident : Bool) → SayRun (codes "run" ∷ words) n traced evident → ⊥) → IsCommand (codes "run" ∷ words) → ⊥
only_run words none (Run n traced evident, said) = none n traced evident said
only_run words none (Graph, said) = cc
only_run words none (Soak seed txns workers, said) =
    let first : codes "run" ∷ words ≡ codes "soak" ∷ said.rest = said.first in cc

pub run_not_read : (words : List Text) → uses_in run_options words ≡ None → IsCommand (codes "run" ∷ words) → ⊥
run_not_read words none =
    only_run words (λ n traced evident said. none_some (sym none ∙ given_read run_options words (said_given words n traced evident said).uses (said_given words n traced evident said).gives))
  where
    none_some : {uses : List Use} → None ≡ Some uses → ⊥
    none_some e = cc

writes_so : (value : Option Text) (given : Option ℕ) → IsValue IsNumberOfWorkers value given → ((n : ℕ) → ¬ WritesWorkers value n) → ⊥
writes_so None None is none = none 4 refl
writes_so None (Some n) is none = is
writes_so (Some text) None is none = is
writes_so (Some text) (Some n) is none = none n is

pub same_uses : (words : List Text) (uses : List Use) → uses_in run_options words ≡ Some uses → (more : List Use) → Gives run_options words more → uses ≡ more
same_uses words uses read more gives =
    let other : uses_in run_options words ≡ Some more = given_read run_options words more gives in cc

-- BY WHAT CLAP FOUND

pub no_run : (found : Found) (words : List Text) (value : Option Text) → IsRunOf found words → value ≡ first_value found (codes "workers") → ((n : ℕ) → ¬ WritesWorkers value n) → IsCommand (codes "run" ∷ words) → ⊥
no_run found words value is told none = only_run words not_said
  where
    not_said : (n : ℕ) (traced evident : Bool) → SayRun (codes "run" ∷ words) n traced evident → ⊥
    not_said n traced evident said =
        let g = said_given words n traced evident said in
        writes_so (value_in g.uses (codes "workers")) said.given g.number
        (subst (λ (v : Option Text). (m : ℕ) → ¬ WritesWorkers v m) (told ∙ is.workers ∙ ap (λ (us : List Use). value_in us (codes "workers")) (same_uses words is.uses is.gives g.uses g.gives)) none)

pub one_run : (found : Found) (words : List Text) (value flag other : Option Text) (n : ℕ) (traced evident : Bool) → IsRunOf found words → value ≡ first_value found (codes "workers") → WritesWorkers value n
    → flag ≡ first_value found (codes "trace") → traced ≡ is_true flag → other ≡ first_value found (codes "evidence") → evident ≡ is_true other
    → Says (codes "run" ∷ words) (Run n traced evident)
one_run found words value flag other n traced evident is told writes flagged asked shown evidenced =
    subst (λ (b : Bool). Says (codes "run" ∷ words) (Run n b evident)) (sym (asked ∙ ap is_true flagged ∙ is.trace))
    (subst (λ (b : Bool). Says (codes "run" ∷ words) (Run n (is_true (value_in is.uses (codes "trace"))) b)) (sym (evidenced ∙ ap is_true shown ∙ is.evidence))
    (says_run words is.uses n is.gives (subst (λ (v : Option Text). WritesWorkers v n) (told ∙ is.workers) writes)))

-- ONE RUN

pub run_range : (words : List Text) (given : Option ℕ) (traced evident : Bool) → AreRunOptions words given traced evident → IsNumberOfWorkers (unwrap_or given 4)
run_range words given traced evident run_nothing = (omega arith, omega arith)
run_range words given traced evident (run_trace rest number shown said) = run_range rest number false shown said
run_range words given traced evident (run_evidence rest number asked said) = run_range rest number asked false said
run_range words given traced evident (run_workers n rest ws asked shown begins range said) = range

-- words give one run
pub record SameRun (n m : ℕ) (traced asked evident shown : Bool) : Type 0 where
  pub workers : n ≡ m
  pub trace : traced ≡ asked
  pub evidence : evident ≡ shown

pub same_run : (words : List Text) (n m : ℕ) (traced asked evident shown : Bool) (s : SayRun words n traced evident) (r : SayRun words m asked shown) → SameRun n m traced asked evident shown
unfolding rest_of
same_run words n m traced asked evident shown s r =
    let rest : r.rest ≡ s.rest = ap rest_of (sym r.first ∙ s.first) in
    let one = run_given s.rest s.given traced evident s.options in
    let other = run_given s.rest r.given asked shown (subst (λ (ws : List Text). AreRunOptions ws r.given asked shown) rest r.options) in
    let uses : one.uses ≡ other.uses = same_uses s.rest one.uses (given_read run_options s.rest one.uses one.gives) other.uses other.gives in
    let given : s.given ≡ r.given = same_value IsNumberOfWorkers (λ k range. small k range) (value_in other.uses (codes "workers")) s.given r.given (subst (λ (us : List Use). IsValue IsNumberOfWorkers (value_in us (codes "workers")) s.given) uses one.number) other.number in record {
      workers = s.number ∙ ap (λ (g : Option ℕ). unwrap_or g 4) given ∙ sym r.number;
      trace = sym one.trace.value ∙ ap (λ (us : List Use). is_true (value_in us (codes "trace"))) uses ∙ other.trace.value;
      evidence = sym one.evidence.value ∙ ap (λ (us : List Use). is_true (value_in us (codes "evidence"))) uses ∙ other.evidence.value;
    }
