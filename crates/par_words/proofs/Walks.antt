-- What clap makes of the words of a command whose options are given at most once.
use Rattle.std.proofs.Common.{◌≡◌, ◌∙◌, ℕ, ◌&&◌, ◌||◌, Bool, true, false, cond, not, refl, sym, ap, List, [], ◌∷◌, ◌++◌, map, Option, Some, None, is_some, codes, option_map}
use Rattle.std.specs.Prelude.{find, fold}
use Rattle.std.specs.Option.{option_map_or}
use Rattle.std.specs.Str.{bytes_eq}
use Rattle.std.proofs.lemmas.Slice.Eq.{bytes_eq-Decides}
use Rattle.clap.specs.Lexer.{long_of, strip_byte}
use Rattle.clap.specs.Walk as walk
use Rattle.clap.specs.Walk.{Row, Rule, Walk, Waiting, Held, walked, arg_by_id, arg_by_long, arg_by_index, has_row, at_row, used, settled_rows, idle, option}
use Rattle.clap.specs.Simple.{Shape, new_shape, new_rule}
use Rattle.clap.specs.Kinds.{Kinds, or_else}
use Rattle.clap.specs.Faults as faults
use Rattle.clap.specs.Faults.{walk_fault, turn_fault, settle_fault, use_fault}
use Rattle.clap.specs.declared.error.kind.ErrorKind.TheVariants as kind
use Rattle.std.proofs.lemmas.List.{append-nil, map-append}
use Rattle.clap.specs.declared.builder.action.ArgAction.TheVariants.{Set, SetTrue}
use Rattle.clap.specs.declared.builder.value_parser.ValueParser.TheVariants as vp
use Rattle.clap.specs.declared.builder.value_parser.Reading.TheVariants as how
use Rattle.clap.specs.declared.parser.matches.ValueSource.TheVariants.{CommandLine}
use Rattle.par_words.specs.OptionUses.{Text, Options, Use, Reading, reading, after_byte, begins_with_hyphen, option_in, option_named, is_given, with_option, word_met, read_from}

-- an option as clap builds it
abbrev pub rule_for : Text × Bool → Rule
rule_for (name, true) = record (new_rule name) {
  long = Some name;
  action = Some Set;
  range = Some (record { start_inclusive = 1; end_inclusive = 1 });
  parser = Some vp.String;
}
rule_for (name, false) = record (new_rule name) {
  long = Some name;
  action = Some SetTrue;
  range = Some (record { start_inclusive = 0; end_inclusive = 0 });
  defaults = codes "false" ∷ [];
  missing = codes "true" ∷ [];
  parser = Some vp.Bool;
}

abbrev pub rules_for : Options → List Rule
rules_for = map rule_for

abbrev pub shape_for : Text → Options → Shape
shape_for name os = record (new_shape name) {
  rules = rules_for os;
  no_binary_name = true;
  disable_help_flag = true;
  disable_help_subcommand = true;
  disable_version_flag = true;
  is_built = true;
}

abbrev pub row_for : Use → Row
row_for u = record { id = u.0; values = u.1 ∷ []; count = None; source = Some CommandLine; reading = how.AsWritten }

abbrev pub rows_for : List Use → List Row
rows_for = map row_for

or_false : (b : Bool) → (b || false) ≡ b
or_false true = refl
or_false false = refl

long_name : (o : Text × Bool) (name : Text) → (not (is_some (rule_for o).index) && walk.has_long (rule_for o) name) ≡ bytes_eq o.0 name
long_name (n, true) name = or_false (bytes_eq n name)
long_name (n, false) name = or_false (bytes_eq n name)

id_of : (o : Text × Bool) → (rule_for o).id ≡ o.0
id_of (n, true) = refl
id_of (n, false) = refl

index_of : (o : Text × Bool) → (rule_for o).index ≡ None
index_of (n, true) = refl
index_of (n, false) = refl

pub find_rule : (p : Rule → Bool) (q : Text × Bool → Bool) (os : Options) → ((o : Text × Bool) → p (rule_for o) ≡ q o)
    → find p (rules_for os) ≡ option_map rule_for (find q os)
find_rule p q [] same = refl
find_rule p q (o ∷ os) same = rw (same o) (go (q o) (find_rule p q os same))
  where
    go : (b : Bool) → find p (rules_for os) ≡ option_map rule_for (find q os)
        → cond b (Some (rule_for o)) (find p (rules_for os)) ≡ option_map rule_for (cond b (Some o) (find q os))
    go true h = refl
    go false h = h

pub by_long : (os : Options) (name : Text) → arg_by_long (rules_for os) name ≡ option_map rule_for (option_named os name)
by_long os name = find_rule _ (λ o. bytes_eq o.0 name) os (λ o. long_name o name)

pub by_id : (os : Options) (name : Text) → arg_by_id (rules_for os) name ≡ option_map rule_for (option_named os name)
by_id os name = find_rule _ (λ o. bytes_eq o.0 name) os (λ o. ap (λ t. bytes_eq t name) (id_of o))

none_found : (os : Options) → find (λ o. false) os ≡ None
none_found [] = refl
none_found (o ∷ os) = none_found os

pub by_index : (os : Options) (i : ℕ) → arg_by_index (rules_for os) i ≡ None
by_index os i = find_rule _ (λ o. false) os (λ o. rw (index_of o) refl) ∙ ap (option_map rule_for) (none_found os)

-- rows
pub row_given : (given : List Use) (name : Text) → has_row name (rows_for given) ≡ is_given given name
row_given [] name = refl
row_given (u ∷ us) name = ap (λ b. bytes_eq u.0 name || b) (row_given us name)

pub at_row_fresh : (name : Text) (change : Row → List Row) (missing rows : List Row) → has_row name rows ≡ false
    → at_row name change missing rows ≡ rows ++ missing
at_row_fresh name change missing [] fresh = refl
at_row_fresh name change missing (r ∷ rs) fresh = go (bytes_eq r.id name) fresh (at_row_fresh name change missing rs)
  where
    go : (b : Bool) → (b || has_row name rs) ≡ false → (has_row name rs ≡ false → at_row name change missing rs ≡ rs ++ missing)
        → cond b (change r ++ rs) (r ∷ at_row name change missing rs) ≡ r ∷ (rs ++ missing)
    go true e h = cc
    go false e h = ap (λ xs. r ∷ xs) (h e)

-- where the walk stands
abbrev pub at : List Row → Option (Text × List Text) → Waiting → Walk
at rows pending waiting = record {
  held = record { rows = rows; pending = pending; skip = 0 };
  waiting = waiting;
  position = 1;
  is_trailing = false;
  stopped = None;
}

abbrev pub rows_unless : Kinds → List Row → Option (List Row)
rows_unless [] rows = Some rows
rows_unless (k ∷ ks) rows = None

abbrev pub after_turn : Kinds → Option (List Row) → Option (List Row)
after_turn [] next = next
after_turn (k ∷ ks) next = None

-- what a walk over the words comes to: the rows, or none where clap refuses the words
abbrev pub outcome : Shape → Walk → List Text → Option (List Row)
outcome s w words =
    let end = (fold (walked s.rules []) w words).held in
    rows_unless (or_else (walk_fault s [] w words) (settle_fault s.rules false end)) (settled_rows s.rules end.pending end.rows)

turn_then : (turn rest last : Kinds) (rows : List Row)
    → rows_unless (or_else (or_else turn rest) last) rows ≡ after_turn turn (rows_unless (or_else rest last) rows)
turn_then [] rest last rows = refl
turn_then (k ∷ ks) rest last rows = refl

outcome-cons : (s : Shape) (w : Walk) (word : Text) (words : List Text)
    → outcome s w (word ∷ words) ≡ after_turn (turn_fault s [] w word) (outcome s (walked s.rules [] w word) words)
unfolding walk_fault
outcome-cons s w word words = turn_then (turn_fault s [] w word) _ _ _

-- one use of an option
used_fresh : (o : Text × Bool) (value : Text) (given : List Use) → is_given given o.0 ≡ false → o.1 ≡ true
    → used (rule_for o) (value ∷ []) (rows_for given) ≡ rows_for (given ++ (o.0, value) ∷ [])
used_fresh (n, true) value given fresh is = go
  where
    none : has_row n (rows_for given) ≡ false
    none = row_given given n ∙ fresh

    same : at_row n (λ _. []) [] (rows_for given) ≡ rows_for given
    same = at_row_fresh n (λ _. []) [] (rows_for given) none ∙ append-nil (rows_for given)

    go : used (rule_for (n, true)) (value ∷ []) (rows_for given) ≡ rows_for (given ++ (n, value) ∷ [])
    go = ap (λ rs. at_row n (walk.more_values CommandLine (value ∷ [])) (row_for (n, value) ∷ []) rs) same
        ∙ (at_row_fresh n (walk.more_values CommandLine (value ∷ [])) (row_for (n, value) ∷ []) (rows_for given) none ∙ sym (map-append row_for given ((n, value) ∷ [])))
used_fresh (n, false) value given fresh is = cc

flag_fresh : (n : Text) (given : List Use) → is_given given n ≡ false
    → used (rule_for (n, false)) [] (rows_for given) ≡ rows_for (given ++ (n, codes "true") ∷ [])
flag_fresh n given fresh = go
  where
    none : has_row n (rows_for given) ≡ false
    none = row_given given n ∙ fresh

    same : at_row n (λ _. []) [] (rows_for given) ≡ rows_for given
    same = at_row_fresh n (λ _. []) [] (rows_for given) none ∙ append-nil (rows_for given)

    go : used (rule_for (n, false)) [] (rows_for given) ≡ rows_for (given ++ (n, codes "true") ∷ [])
    go = ap (λ rs. at_row n (walk.more_values CommandLine (codes "true" ∷ [])) (row_for (n, codes "true") ∷ []) rs) same
        ∙ (at_row_fresh n (walk.more_values CommandLine (codes "true" ∷ [])) (row_for (n, codes "true") ∷ []) (rows_for given) none ∙ sym (map-append row_for given ((n, codes "true") ∷ [])))

abbrev pub conflict : Bool → Kinds
conflict true = kind.ArgumentConflict ∷ []
conflict false = []

valued_fault : (n value : Text) (given : List Use)
    → use_fault false (rule_for (n, true)) (value ∷ []) (rows_for given) ≡ conflict (is_given given n)
valued_fault n value given = rw (row_given given n) (go (is_given given n))
  where
    go : (b : Bool) → or_else (cond (b && true) (kind.ArgumentConflict ∷ []) []) [] ≡ conflict b
    go true = refl
    go false = refl

flag_fault : (n : Text) (given : List Use)
    → use_fault false (rule_for (n, false)) [] (rows_for given) ≡ conflict (is_given given n)
flag_fault n given = rw (row_given given n) (go (is_given given n))
  where
    go : (b : Bool) → or_else (cond (b && true) (kind.ArgumentConflict ∷ []) []) [] ≡ conflict b
    go true = refl
    go false = refl

-- a word that is an option, as both sides read it, or a word that begins with no hyphen
pub data Kind (word : Text) : Type 0 where
  long : (p : Text × Option Text) → bytes_eq word (45 ∷ 45 ∷ []) ≡ false → long_of word ≡ Some p → option_in word ≡ Some p
      → begins_with_hyphen word ≡ true → Kind word
  plain : bytes_eq word (45 ∷ 45 ∷ []) ≡ false → strip_byte 45 word ≡ None → after_byte 45 word ≡ None → Kind word

abbrev pub AllKinds : List Text → Type 0
AllKinds [] = Unit {0}
AllKinds (word ∷ words) = Kind word × AllKinds words

-- a turn at an option, whatever waits
long_turn : (name : Text) (os : Options) (h : Held) (w : Waiting) (word : Text) (p : Text × Option Text)
    → (f : Option (Text × Bool)) → option_named os p.0 ≡ f → bytes_eq word (45 ∷ 45 ∷ []) ≡ false → long_of word ≡ Some p
    → (words : List Text) (r : Option (List Row))
    → let s = shape_for name os in
    let here : Walk = record { held = h; waiting = w; position = 1; is_trailing = false; stopped = None } in
    let met = walk.after_flag s.rules w word (walk.long_met s.rules (option_map rule_for f) p.1 h).0 (walk.long_met s.rules (option_map rule_for f) p.1 h).1 in
    after_turn (or_else (faults.long_fault s.rules false (option_map rule_for f) p.1 h) (faults.step_fault s 1 met.0 met.1))
    (outcome s (walk.after_step s.rules word here met.0 met.1) words) ≡ r
    → outcome s here (word ∷ words) ≡ r
unfolding walked
long_turn name os h idle word p f found dashes is words r goal =
    outcome-cons _ _ word words ∙ rw (dashes, is, by_long os p.0, found) goal
long_turn name os h (option n) word p f found dashes is words r goal =
    outcome-cons _ _ word words ∙ rw (dashes, is, by_long os p.0, found) goal
long_turn name os h walk.positional word p f found dashes is words r goal =
    outcome-cons _ _ word words ∙ rw (dashes, is, by_long os p.0, found) goal

pub find_passes : {X : Type 0} (p : X → Bool) (xs : List X) (x : X) → find p xs ≡ Some x → p x ≡ true
find_passes p [] x e = cc
find_passes p (y ∷ ys) x e = go (p y) refl (find_passes p ys x) e
  where
    go : (b : Bool) → p y ≡ b → (find p ys ≡ Some x → p x ≡ true) → cond b (Some y) (find p ys) ≡ Some x → p x ≡ true
    go true h rest e =
        let same : y ≡ x = cc in
        ap p (sym same) ∙ h
    go false h rest e = rest e

-- an option is found by its own name
named_again : (os : Options) (name : Text) (o : Text × Bool) → option_named os name ≡ Some o → option_named os o.0 ≡ Some o
named_again os name o e =
    let same : o.0 ≡ name = (bytes_eq-Decides o.0 name).0 (find_passes (λ x. bytes_eq x.0 name) os o e) in
    ap (option_named os) same ∙ e

pub read_none : (os : Options) (words : List Text) → read_from os None words ≡ None
unfolding read_from
read_none os [] = refl
read_none os (w ∷ ws) = refl

pub read_cons : (os : Options) (r : Reading) (word : Text) (words : List Text)
    → read_from os (Some r) (word ∷ words) ≡ read_from os (word_met os word r.given r.waiting) words
unfolding read_from
read_cons os r word words = refl

-- what the walk and the reading come to is one
abbrev pub Agrees : Text → Options → Walk → Option Reading → List Text → Type 0
Agrees name os w r words = outcome (shape_for name os) w words ≡ option_map rows_for (read_from os r words)

abbrev IdleAgrees : Text → Options → List Text → Type 0
IdleAgrees name os words = (given : List Use) → Agrees name os (at (rows_for given) None idle) (Some (reading given None)) words

abbrev WaitAgrees : Text → Options → List Text → Type 0
WaitAgrees name os words = (given : List Use) (n : Text) → option_named os n ≡ Some (n, true)
    → Agrees name os (at (rows_for given) (Some (n, [])) (option n)) (Some (reading given (Some n))) words

none_is : (os : Options) (words : List Text) → None ≡ option_map rows_for (read_from os None words)
none_is os words = ap (option_map rows_for) (sym (read_none os words))

-- a use that is settled at once
use_agrees : (name : Text) (os : Options) (words : List Text) → IdleAgrees name os words → (given : List Use) (n value : Text) (rows : List Row)
    → (is_given given n ≡ false → rows ≡ rows_for (given ++ (n, value) ∷ []))
    → (b : Bool) → is_given given n ≡ b
    → after_turn (conflict b) (outcome (shape_for name os) (at rows None idle) words)
    ≡ option_map rows_for (read_from os (cond b None (Some (reading (given ++ (n, value) ∷ []) None))) words)
use_agrees name os words ih given n value rows fresh true e = none_is os words
use_agrees name os words ih given n value rows fresh false e =
    ap (λ rs. outcome (shape_for name os) (at rs None idle) words) (fresh e) ∙ ih (given ++ (n, value) ∷ [])

or_nil : (ks : Kinds) → or_else ks [] ≡ ks
or_nil [] = refl
or_nil (k ∷ ks) = refl

-- an option word where nothing is pending
option_agrees : (name : Text) (os : Options) (words : List Text) → IdleAgrees name os words → WaitAgrees name os words
    → (given : List Use) (w : Waiting) (word : Text) (f : Option (Text × Bool)) (v : Option Text) → ((o : Text × Bool) → f ≡ Some o → option_named os o.0 ≡ Some o)
    → let s = shape_for name os in
    let h : Held = record { rows = rows_for given; pending = None; skip = 0 } in
    let here : Walk = at (rows_for given) None w in
    let met = walk.after_flag s.rules w word (walk.long_met s.rules (option_map rule_for f) v h).0 (walk.long_met s.rules (option_map rule_for f) v h).1 in
    after_turn (or_else (faults.long_fault s.rules false (option_map rule_for f) v h) (faults.step_fault s 1 met.0 met.1))
    (outcome s (walk.after_step s.rules word here met.0 met.1) words)
    ≡ option_map rows_for (read_from os (with_option given f v) words)
option_agrees name os words idles waits given w word None v named = none_is os words
option_agrees name os words idles waits given w word (Some (n, true)) None named = waits given n (named (n, true) refl)
option_agrees name os words idles waits given w word (Some (n, true)) (Some value) named =
    rw (or_nil (use_fault false (rule_for (n, true)) (value ∷ []) (rows_for given)), valued_fault n value given)
    (use_agrees name os words idles given n value _ (λ e. used_fresh (n, true) value given e refl) (is_given given n) refl)
option_agrees name os words idles waits given w word (Some (n, false)) None named =
    rw (or_nil (use_fault false (rule_for (n, false)) [] (rows_for given)), flag_fault n given)
    (use_agrees name os words idles given n (codes "true") _ (λ e. flag_fresh n given e) (is_given given n) refl)
option_agrees name os words idles waits given w word (Some (n, false)) (Some value) named = none_is os words

after_none : (ks : Kinds) → None ≡ after_turn ks None
after_none [] = refl
after_none (k ∷ ks) = refl

after_first : (first : Kinds) (next : Option (List Row)) → after_turn (or_else first []) next ≡ after_turn first next
after_first [] next = refl
after_first (k ∷ ks) next = refl

after_both : (first second : Kinds) (next : Option (List Row))
    → after_turn (or_else (or_else first second) []) next ≡ after_turn first (after_turn (or_else second []) next)
after_both [] second next = refl
after_both (k ∷ ks) second next = refl

-- a word that is no option, where nothing waits
plain_idle : (name : Text) (os : Options) (h : Held) (word : Text) (words : List Text) → bytes_eq word (45 ∷ 45 ∷ []) ≡ false → strip_byte 45 word ≡ None
    → None ≡ outcome (shape_for name os) (record { held = h; waiting = idle; position = 1; is_trailing = false; stopped = None }) (word ∷ words)
unfolding walked
plain_idle name os h word words dashes none =
    sym (outcome-cons _ _ word words ∙ rw (dashes, none, none) (go (arg_by_index (rules_for os) 1) (by_index os 1)))
  where
    go : (f : Option Rule) → f ≡ None
        → after_turn (option_map_or (λ a. faults.positional_fault (rules_for os) false a h) f (kind.UnknownArgument ∷ []))
        (outcome (shape_for name os) (walk.to_positional (rules_for os) f word (record { held = h; waiting = idle; position = 1; is_trailing = false; stopped = None }) h) words) ≡ None
    go None e = refl
    go (Some a) e = cc

abbrev held : List Row → Option (Text × List Text) → Held
held rows pending = record { rows = rows; pending = pending; skip = 0 }

-- a value that is pending is used at the next word
pending_used : (name : Text) (os : Options) (given : List Use) (n value : Text) → option_named os n ≡ Some (n, true)
    → (words : List Text) (f : Option (Text × Bool)) (v : Option Text) (word : Text)
    → let s = shape_for name os in
    let h = held (rows_for given) (Some (n, value ∷ [])) in
    let rows = used (rule_for (n, true)) (value ∷ []) (rows_for given) in
    let met = walk.after_flag s.rules idle word (walk.long_met s.rules (option_map rule_for f) v h).0 (walk.long_met s.rules (option_map rule_for f) v h).1 in
    let met2 = walk.after_flag s.rules idle word (walk.long_met s.rules (option_map rule_for f) v (held rows None)).0 (walk.long_met s.rules (option_map rule_for f) v (held rows None)).1 in
    after_turn (or_else (faults.long_fault s.rules false (option_map rule_for f) v h) (faults.step_fault s 1 met.0 met.1))
    (outcome s (walk.after_step s.rules word (at (rows_for given) (Some (n, value ∷ [])) idle) met.0 met.1) words)
    ≡ after_turn (conflict (is_given given n)) (after_turn (or_else (faults.long_fault s.rules false (option_map rule_for f) v (held rows None)) (faults.step_fault s 1 met2.0 met2.1))
    (outcome s (walk.after_step s.rules word (at rows None idle) met2.0 met2.1) words))
pending_used name os given n value found words None v word = after_none (conflict (is_given given n))
pending_used name os given n value found words (Some (m, true)) None word =
    rw (by_id os n, found, valued_fault n value given) (after_first (conflict (is_given given n)) _)
pending_used name os given n value found words (Some (m, true)) (Some x) word =
    rw (by_id os n, found, valued_fault n value given) (after_both (conflict (is_given given n)) _ _)
pending_used name os given n value found words (Some (m, false)) None word =
    rw (by_id os n, found, valued_fault n value given) (after_both (conflict (is_given given n)) _ _)
pending_used name os given n value found words (Some (m, false)) (Some x) word = after_none (conflict (is_given given n))

pending_agrees : (name : Text) (os : Options) (given : List Use) (n value : Text) → option_named os n ≡ Some (n, true)
    → (words : List Text) → AllKinds words
    → outcome (shape_for name os) (at (rows_for given) (Some (n, value ∷ [])) idle) words
    ≡ after_turn (conflict (is_given given n)) (outcome (shape_for name os) (at (used (rule_for (n, true)) (value ∷ []) (rows_for given)) None idle) words)
unfolding walk_fault
pending_agrees name os given n value found [] kinds = rw (by_id os n, found, valued_fault n value given) (go (is_given given n))
  where
    go : (b : Bool) → rows_unless (conflict b) (used (rule_for (n, true)) (value ∷ []) (rows_for given))
        ≡ after_turn (conflict b) (Some (used (rule_for (n, true)) (value ∷ []) (rows_for given)))
    go true = refl
    go false = refl
pending_agrees name os given n value found (word ∷ words) ((long p dashes is mine hyphen), kinds) =
    long_turn name os _ idle word p (option_named os p.0) refl dashes is words _
    (pending_used name os given n value found words (option_named os p.0) p.1 word
    ∙ ap (after_turn (conflict (is_given given n)))
    (sym (long_turn name os _ idle word p (option_named os p.0) refl dashes is words _ refl)))
pending_agrees name os given n value found (word ∷ words) ((plain dashes none mine), kinds) =
    sym (plain_idle name os _ word words dashes none) ∙ (after_none (conflict (is_given given n))
    ∙ ap (after_turn (conflict (is_given given n))) (plain_idle name os _ word words dashes none))

-- while a value is waited for, no option may come
waiting_refuses : (name : Text) (os : Options) (given : List Use) (n : Text) → option_named os n ≡ Some (n, true)
    → (words : List Text) (f : Option (Text × Bool)) (v : Option Text) (word : Text)
    → let s = shape_for name os in
    let h = held (rows_for given) (Some (n, [])) in
    let met = walk.after_flag s.rules (option n) word (walk.long_met s.rules (option_map rule_for f) v h).0 (walk.long_met s.rules (option_map rule_for f) v h).1 in
    after_turn (or_else (faults.long_fault s.rules false (option_map rule_for f) v h) (faults.step_fault s 1 met.0 met.1))
    (outcome s (walk.after_step s.rules word (at (rows_for given) (Some (n, [])) (option n)) met.0 met.1) words)
    ≡ None
waiting_refuses name os given n found words None v word = refl
waiting_refuses name os given n found words (Some (m, true)) None word = rw (by_id os n, found) refl
waiting_refuses name os given n found words (Some (m, true)) (Some x) word = rw (by_id os n, found) refl
waiting_refuses name os given n found words (Some (m, false)) None word = rw (by_id os n, found) refl
waiting_refuses name os given n found words (Some (m, false)) (Some x) word = refl

-- the next word is the value
value_turn : (name : Text) (os : Options) (given : List Use) (n : Text) → option_named os n ≡ Some (n, true)
    → (word : Text) (words : List Text) → bytes_eq word (45 ∷ 45 ∷ []) ≡ false → strip_byte 45 word ≡ None
    → outcome (shape_for name os) (at (rows_for given) (Some (n, [])) (option n)) (word ∷ words)
    ≡ outcome (shape_for name os) (at (rows_for given) (Some (n, word ∷ [])) idle) words
unfolding walked
value_turn name os given n found word words dashes none =
    outcome-cons _ _ word words ∙ rw (dashes, none, none, by_id os n, found, (bytes_eq-Decides n n).1 refl) refl

pub idle_step : (name : Text) (os : Options) (word : Text) (words : List Text) → Kind word → IdleAgrees name os words → WaitAgrees name os words
    → IdleAgrees name os (word ∷ words)
idle_step name os word words (long p dashes is mine hyphen) idles waits given =
    long_turn name os _ idle word p (option_named os p.0) refl dashes is words _
    (option_agrees name os words idles waits given idle word (option_named os p.0) p.1 (named_again os p.0)
    ∙ ap (option_map rows_for) (sym (read_cons os (reading given None) word words ∙ rw mine refl)))
idle_step name os word words (plain dashes none mine) idles waits given =
    sym (plain_idle name os _ word words dashes none)
    ∙ (none_is os words ∙ ap (option_map rows_for) (sym (read_cons os (reading given None) word words ∙ rw mine refl)))

pub wait_step : (name : Text) (os : Options) (word : Text) (words : List Text) → Kind word → AllKinds words → IdleAgrees name os words
    → WaitAgrees name os (word ∷ words)
wait_step name os word words (long p dashes is mine hyphen) kinds idles given n found =
    long_turn name os _ (option n) word p (option_named os p.0) refl dashes is words _
    (waiting_refuses name os given n found words (option_named os p.0) p.1 word
    ∙ (none_is os words ∙ ap (option_map rows_for) (sym (read_cons os (reading given (Some n)) word words ∙ rw hyphen refl))))
wait_step name os word words (plain dashes none mine) kinds idles given n found =
    value_turn name os given n found word words dashes none
    ∙ (pending_agrees name os given n word found words kinds
    ∙ (use_agrees name os words idles given n word _ (λ e. used_fresh (n, true) word given e refl) (is_given given n) refl
    ∙ ap (option_map rows_for) (sym (read_cons os (reading given (Some n)) word words ∙ rw mine refl))))

-- what clap makes of the words is what they give
pub words_agree : (name : Text) (os : Options) (words : List Text) → AllKinds words
    → IdleAgrees name os words × WaitAgrees name os words
unfolding walk_fault read_from
words_agree name os [] kinds = (λ given. refl, λ given n found. rw (by_id os n, found) refl)
words_agree name os (word ∷ words) (kind, kinds) =
    let rest = words_agree name os words kinds in (
      idle_step name os word words kind rest.0 rest.1,
      wait_step name os word words kind kinds rest.0,
    )
