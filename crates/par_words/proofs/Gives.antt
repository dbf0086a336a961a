-- Words that give options, against the reading of the words.
use Rattle.std.proofs.Common.{◌≡◌, ◌∙◌, ◌||◌, Bool, true, false, cond, refl, sym, ap, subst, List, [], ◌∷◌, ◌++◌, append_assoc, append-nil, Option, Some, None, codes, option_map}
use Rattle.std.specs.Prelude.{find}
use Rattle.std.specs.Str.{bytes_eq}
use Rattle.std.proofs.lemmas.Slice.Eq.{bytes_eq-Decides}
use Rattle.std.proofs.lemmas.List.Folds.{list_any-append}
use Rattle.par_words.specs.OptionUses.{Text, Options, Use, Reading, reading, begins_with_hyphen, is_given, option_in, option_named, option_met, with_use, with_option, word_met, read_from, uses_in}
use Rattle.par_words.specs.CommandOptions.{value_in}
use Rattle.par_words.proofs.Walks.{read_none, read_cons, find_passes}

-- words that give these options in turn, each at most once
pub data Gives (os : Options) : List Text → List Use → Type 0 where
  give_nothing : Gives os [] []
  give_flag : (word name : Text) (rest : List Text) (uses : List Use) → option_in word ≡ Some (name, None) → option_named os name ≡ Some (name, false)
      → is_given uses name ≡ false → Gives os rest uses → Gives os (word ∷ rest) ((name, codes "true") ∷ uses)
  give_words : (word name value : Text) (rest : List Text) (uses : List Use) → option_in word ≡ Some (name, None) → option_named os name ≡ Some (name, true)
      → begins_with_hyphen value ≡ false → is_given uses name ≡ false → Gives os rest uses → Gives os (word ∷ value ∷ rest) ((name, value) ∷ uses)
  give_joined : (word name value : Text) (rest : List Text) (uses : List Use) → option_in word ≡ Some (name, Some value) → option_named os name ≡ Some (name, true)
      → is_given uses name ≡ false → Gives os rest uses → Gives os (word ∷ rest) ((name, value) ∷ uses)

-- what is given there isn't given here
abbrev pub IsFresh : List Use → List Use → Type 0
IsFresh given uses = (name : Text) → is_given uses name ≡ true → is_given given name ≡ false

given_more : (given : List Use) (u : Use) (name : Text) → is_given (given ++ u ∷ []) name ≡ (is_given given name || (bytes_eq u.0 name || false))
given_more given u name = list_any-append (λ (x : Use). bytes_eq x.0 name) given (u ∷ [])

same_text : (a b : Text) → bytes_eq a b ≡ true → a ≡ b
same_text a b e = (bytes_eq-Decides a b).0 e

itself : (a : Text) → bytes_eq a a ≡ true
itself a = (bytes_eq-Decides a a).1 refl

-- an option that isn't given has no value
pub no_value : (uses : List Use) (name : Text) → is_given uses name ≡ false → value_in uses name ≡ None
no_value [] name e = refl
no_value (u ∷ rest) name e = go (bytes_eq u.0 name) e (no_value rest name)
  where
    go : (b : Bool) → (b || is_given rest name) ≡ false → (is_given rest name ≡ false → value_in rest name ≡ None)
        → option_map (λ (x : Use). x.1) (cond b (Some u) (find (λ (x : Use). bytes_eq x.0 name) rest)) ≡ None
    go true h ih = cc
    go false h ih = ih h

-- and one without a value isn't given
pub not_given : (uses : List Use) (name : Text) → value_in uses name ≡ None → is_given uses name ≡ false
not_given [] name e = refl
not_given (u ∷ rest) name e = go (bytes_eq u.0 name) e (not_given rest name)
  where
    go : (b : Bool) → option_map (λ (x : Use). x.1) (cond b (Some u) (find (λ (x : Use). bytes_eq x.0 name) rest)) ≡ None → (value_in rest name ≡ None → is_given rest name ≡ false)
        → (b || is_given rest name) ≡ false
    go true h ih = cc
    go false h ih = ih h

-- WHAT IS GIVEN IS READ

-- one more use, and what follows stays fresh
fresh_rest : (given uses : List Use) (u : Use) → is_given uses u.0 ≡ false → IsFresh given (u ∷ uses) → IsFresh (given ++ u ∷ []) uses
fresh_rest given uses u once fresh name is = given_more given u name ∙ both (is_given given name) (bytes_eq u.0 name) (fresh name (behind (bytes_eq u.0 name) is)) other
  where
    behind : (b : Bool) → is_given uses name ≡ true → (b || is_given uses name) ≡ true
    behind true h = refl
    behind false h = h

    both : (a b : Bool) → a ≡ false → b ≡ false → (a || (b || false)) ≡ false
    both true b h g = h
    both false true h g = g
    both false false h g = refl

    clash : is_given uses name ≡ true → is_given uses name ≡ false → ⊥
    clash h g = absurd (two (sym h ∙ g))
      where
        two : true ≡ false → ⊥
        two e = cc

    go : (b : Bool) → bytes_eq u.0 name ≡ b → b ≡ false
    go true h = absurd (clash is (subst (λ (n : Text). is_given uses n ≡ false) (same_text u.0 name h) once))
    go false h = refl

    other : bytes_eq u.0 name ≡ false
    other = go (bytes_eq u.0 name) refl

first_free : (given uses : List Use) (u : Use) → IsFresh given (u ∷ uses) → is_given given u.0 ≡ false
first_free given uses u fresh = fresh u.0 (ap (λ (b : Bool). b || is_given uses u.0) (itself u.0))

next_word : (os : Options) (given : List Use) (waiting : Option Text) (word : Text) (words : List Text) (r : Reading) → word_met os word given waiting ≡ Some r
    → read_from os (Some (reading given waiting)) (word ∷ words) ≡ read_from os (Some r) words
next_word os given waiting word words r met = read_cons os (reading given waiting) word words ∙ ap (λ (o : Option Reading). read_from os o words) met

one_more : (os : Options) (given uses : List Use) (u : Use) (words : List Text) → read_from os (Some (reading (given ++ u ∷ []) None)) words ≡ Some ((given ++ u ∷ []) ++ uses)
    → read_from os (Some (reading (given ++ u ∷ []) None)) words ≡ Some (given ++ u ∷ uses)
one_more os given uses u words read = read ∙ ap Some (append_assoc given (u ∷ []) uses)

flag_met : (os : Options) (given : List Use) (word name : Text) → option_in word ≡ Some (name, None) → option_named os name ≡ Some (name, false) → is_given given name ≡ false
    → word_met os word given None ≡ Some (reading (given ++ (name, codes "true") ∷ []) None)
flag_met os given word name spelled named free = rw (spelled, named, free) refl

option_waits : (os : Options) (given : List Use) (word name : Text) → option_in word ≡ Some (name, None) → option_named os name ≡ Some (name, true)
    → word_met os word given None ≡ Some (reading given (Some name))
option_waits os given word name spelled named = rw (spelled, named) refl

value_met : (os : Options) (given : List Use) (name value : Text) → begins_with_hyphen value ≡ false → is_given given name ≡ false
    → word_met os value given (Some name) ≡ Some (reading (given ++ (name, value) ∷ []) None)
value_met os given name value plain free = rw (plain, free) refl

joined_met : (os : Options) (given : List Use) (word name value : Text) → option_in word ≡ Some (name, Some value) → option_named os name ≡ Some (name, true) → is_given given name ≡ false
    → word_met os word given None ≡ Some (reading (given ++ (name, value) ∷ []) None)
joined_met os given word name value spelled named free = rw (spelled, named, free) refl

no_word : (os : Options) (given : List Use) → read_from os (Some (reading given None)) [] ≡ Some (given ++ [])
unfolding read_from
no_word os given = ap Some (sym (append-nil given))

read_behind : (os : Options) (words : List Text) (uses : List Use) → Gives os words uses → (given : List Use) → IsFresh given uses
    → read_from os (Some (reading given None)) words ≡ Some (given ++ uses)
read_behind os words uses give_nothing given fresh = no_word os given
read_behind os words uses (give_flag word name rest more spelled named once gives) given fresh =
    let u : Use = (name, codes "true") in
    next_word os given None word rest _ (flag_met os given word name spelled named (first_free given more u fresh))
    ∙ one_more os given more u rest (read_behind os rest more gives (given ++ u ∷ []) (fresh_rest given more u once fresh))
read_behind os words uses (give_words word name value rest more spelled named plain once gives) given fresh =
    let u : Use = (name, value) in
    next_word os given None word (value ∷ rest) _ (option_waits os given word name spelled named)
    ∙ (next_word os given (Some name) value rest _ (value_met os given name value plain (first_free given more u fresh))
    ∙ one_more os given more u rest (read_behind os rest more gives (given ++ u ∷ []) (fresh_rest given more u once fresh)))
read_behind os words uses (give_joined word name value rest more spelled named once gives) given fresh =
    let u : Use = (name, value) in
    next_word os given None word rest _ (joined_met os given word name value spelled named (first_free given more u fresh))
    ∙ one_more os given more u rest (read_behind os rest more gives (given ++ u ∷ []) (fresh_rest given more u once fresh))

pub given_read : (os : Options) (words : List Text) (uses : List Use) → Gives os words uses → uses_in os words ≡ Some uses
given_read os words uses gives = read_behind os words uses gives [] (λ name is. refl)

-- WHAT IS READ IS GIVEN

-- words that are read as options, none of which is given before
record GivesMore (os : Options) (given uses : List Use) (words : List Text) : Type 0 where
  more : List Use
  behind_given : uses ≡ given ++ more
  fresh : IsFresh given more
  gives : Gives os words more

-- a value, and words behind it
record Awaits (os : Options) (name : Text) (given uses : List Use) (words : List Text) : Type 0 where
  value : Text
  rest : List Text
  is : words ≡ value ∷ rest
  plain : begins_with_hyphen value ≡ false
  free : is_given given name ≡ false
  next : GivesMore os (given ++ (name, value) ∷ []) uses rest

abbrev Idle : Options → List Text → Type 0
Idle os words = (given uses : List Use) → read_from os (Some (reading given None)) words ≡ Some uses → GivesMore os given uses words

abbrev Waits : Options → List Text → Type 0
Waits os words = (name : Text) (given uses : List Use) → read_from os (Some (reading given (Some name))) words ≡ Some uses → Awaits os name given uses words

nothing_read : {X : Type 0} (os : Options) (words : List Text) (uses : List Use) → read_from os None words ≡ Some uses → X
nothing_read os words uses e = absurd (none_some (sym (read_none os words) ∙ e))
  where
    none_some : None ≡ Some uses → ⊥
    none_some h = cc

-- an option is used for the first time
first_use : (os : Options) (given uses : List Use) (u : Use) (rest : List Text) → Idle os rest → read_from os (with_use given u.0 u.1) rest ≡ Some uses
    → (is_given given u.0 ≡ false) × GivesMore os (given ++ u ∷ []) uses rest
first_use os given uses u rest idle e = go (is_given given u.0) refl e
  where
    go : (b : Bool) → is_given given u.0 ≡ b → read_from os (cond b None (Some (reading (given ++ u ∷ []) None))) rest ≡ Some uses
        → (is_given given u.0 ≡ false) × GivesMore os (given ++ u ∷ []) uses rest
    go true is h = nothing_read os rest uses h
    go false is h = (is, idle (given ++ u ∷ []) uses h)

fresh_with : (given more : List Use) (u : Use) → is_given given u.0 ≡ false → IsFresh (given ++ u ∷ []) more → IsFresh given (u ∷ more)
fresh_with given more u free fresh name e = go (bytes_eq u.0 name) refl e
  where
    left : (a b : Bool) → (a || b) ≡ false → a ≡ false
    left true b h = cc
    left false b h = refl

    go : (b : Bool) → bytes_eq u.0 name ≡ b → (b || is_given more name) ≡ true → is_given given name ≡ false
    go true is h = subst (λ (n : Text). is_given given n ≡ false) (same_text u.0 name is) free
    go false is h = left (is_given given name) _ (sym (given_more given u name) ∙ fresh name h)

-- it isn't given behind itself
not_again : (given more : List Use) (u : Use) → IsFresh (given ++ u ∷ []) more → is_given more u.0 ≡ false
not_again given more u fresh = go (is_given more u.0) refl
  where
    right : (a : Bool) → (a || (true || false)) ≡ true
    right true = refl
    right false = refl

    there : is_given (given ++ u ∷ []) u.0 ≡ true
    there = given_more given u u.0 ∙ ap (λ (b : Bool). is_given given u.0 || (b || false)) (itself u.0) ∙ right (is_given given u.0)

    go : (b : Bool) → is_given more u.0 ≡ b → is_given more u.0 ≡ false
    go true is = absurd (both (sym there ∙ fresh u.0 is))
      where
        both : true ≡ false → ⊥
        both h = cc
    go false is = is

with_first : (os : Options) (given uses : List Use) (u : Use) (rest words : List Text) → is_given given u.0 ≡ false → (next : GivesMore os (given ++ u ∷ []) uses rest)
    → (is_given next.more u.0 ≡ false → Gives os words (u ∷ next.more)) → GivesMore os given uses words
with_first os given uses u rest words free next build = record {
  more = u ∷ next.more;
  behind_given = next.behind_given ∙ append_assoc given (u ∷ []) next.more;
  fresh = fresh_with given next.more u free next.fresh;
  gives = build (not_again given next.more u next.fresh);
}

-- an option word
option_step : (os : Options) (word : Text) (rest : List Text) → Idle os rest → Waits os rest → (given uses : List Use) (o : Text × Bool) (v : Option Text)
    → option_in word ≡ Some (o.0, v) → option_named os o.0 ≡ Some o → read_from os (with_option given (Some o) v) rest ≡ Some uses → GivesMore os given uses (word ∷ rest)
option_step os word rest idle waits given uses (name, true) None spelled named e =
    let value = waits name given uses e in
    with_first os given uses (name, value.value) value.rest (word ∷ rest) value.free value.next
    (λ once. subst (λ (ws : List Text). Gives os (word ∷ ws) ((name, value.value) ∷ value.next.more)) (sym value.is)
    (give_words word name value.value value.rest value.next.more spelled named value.plain once value.next.gives))
option_step os word rest idle waits given uses (name, true) (Some text) spelled named e =
    let used = first_use os given uses (name, text) rest idle e in
    with_first os given uses (name, text) rest (word ∷ rest) used.0 used.1
    (λ once. give_joined word name text rest used.1.more spelled named once used.1.gives)
option_step os word rest idle waits given uses (name, false) None spelled named e =
    let used = first_use os given uses (name, codes "true") rest idle e in
    with_first os given uses (name, codes "true") rest (word ∷ rest) used.0 used.1
    (λ once. give_flag word name rest used.1.more spelled named once used.1.gives)
option_step os word rest idle waits given uses (name, false) (Some text) spelled named e = nothing_read os rest uses e

idle_step : (os : Options) (word : Text) (rest : List Text) → Idle os rest → Waits os rest → Idle os (word ∷ rest)
idle_step os word rest idle waits given uses e = by_word (option_in word) refl (sym (read_cons os (reading given None) word rest) ∙ e)
  where
    by_name : (p : Text × Option Text) → option_in word ≡ Some p → (o : Option (Text × Bool)) → option_named os p.0 ≡ o
        → read_from os (with_option given o p.1) rest ≡ Some uses → GivesMore os given uses (word ∷ rest)
    by_name p is None found h = nothing_read os rest uses h
    by_name p is (Some o) found h =
        let same : o.0 ≡ p.0 = same_text o.0 p.0 (find_passes (λ x. bytes_eq x.0 p.0) os o found) in
        option_step os word rest idle waits given uses o p.1 (is ∙ ap (λ (n : Text). Some (n, p.1)) (sym same)) (ap (option_named os) same ∙ found) h

    by_word : (o : Option (Text × Option Text)) → option_in word ≡ o → read_from os (option_met os given o) rest ≡ Some uses → GivesMore os given uses (word ∷ rest)
    by_word None is h = nothing_read os rest uses h
    by_word (Some p) is h = by_name p is (option_named os p.0) refl h

wait_step : (os : Options) (word : Text) (rest : List Text) → Idle os rest → Waits os (word ∷ rest)
wait_step os word rest idle name given uses e = go (begins_with_hyphen word) refl (sym (read_cons os (reading given (Some name)) word rest) ∙ e)
  where
    go : (b : Bool) → begins_with_hyphen word ≡ b → read_from os (cond b None (with_use given name word)) rest ≡ Some uses → Awaits os name given uses (word ∷ rest)
    go true is h = nothing_read os rest uses h
    go false is h =
        let used = first_use os given uses (name, word) rest idle h in
        record { value = word; rest = rest; is = refl; plain = is; free = used.0; next = used.1 }

no_words : (os : Options) → Idle os []
unfolding read_from
no_words os given uses e = record {
  more = [];
  behind_given = sym same ∙ sym (append-nil given);
  fresh = λ name h. absurd (never h);
  gives = give_nothing;
}
  where
    same : given ≡ uses
    same = cc

    never : false ≡ true → ⊥
    never h = cc

no_value_word : (os : Options) → Waits os []
unfolding read_from
no_value_word os name given uses e = absurd (none_some e)
  where
    none_some : None ≡ Some uses → ⊥
    none_some h = cc

each : (os : Options) (words : List Text) → Idle os words × Waits os words
each os [] = (no_words os, no_value_word os)
each os (word ∷ rest) =
    let next = each os rest in
    (idle_step os word rest next.0 next.1, wait_step os word rest next.0)

pub read_given : (os : Options) (words : List Text) (uses : List Use) → uses_in os words ≡ Some uses → Gives os words uses
read_given os words uses read =
    let more = (each os words).0 [] uses read in
    subst (Gives os words) (sym more.behind_given) more.gives
