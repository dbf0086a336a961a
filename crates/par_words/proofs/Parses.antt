-- From clap's own words on a parse to the options that the words give.
use Rattle.std.proofs.Common.{◌≡◌, ◌∙◌, ℕ, ◌==◌, ◌&&◌, ◌||◌, Bool, true, false, cond, not, refl, sym, ap, ap₂, List, [], ◌∷◌, map, Option, Some, None, is_some, option_map}
use Rattle.std.specs.Prelude.{fold}
use Rattle.std.specs.List.{list_any}
use Rattle.clap.specs.Lexer.{name_and_value as clap_name_and_value}
use Rattle.clap.specs.Walk as walk
use Rattle.clap.specs.Walk.{Row, Rule, Held, nothing_held, walk_from, with_default}
use Rattle.clap.specs.Simple.{App, entered, built, argument_words, matches_of}
use Rattle.clap.specs.Kinds.{Kinds, or_else}
use Rattle.clap.specs.Faults as faults
use Rattle.clap.specs.Takes as takes
use Rattle.clap.specs.Faults.{fault_of, walk_fault, settle_fault, defaults_fault}
use Rattle.par_words.specs.OptionUses.{Text, Options, Use, Reading, option_named, word_met, read_from, uses_in, is_stray, is_stray_rest, is_empty}
use Rattle.par_words.proofs.Walks.{Kind, AllKinds, long, plain, rule_for, rules_for, shape_for, rows_for, rows_unless, words_agree, read_none}

-- a word that isn't stray is an option, or begins with no hyphen
pub kind_of : (word : Text) → is_stray word ≡ false → Kind word
kind_of [] e = plain refl refl refl
kind_of (x ∷ rest) e = go (x == 45) refl e
  where
    three : (y : ℕ) (zs : Text) → (x == 45) ≡ true → (y == 45) ≡ true → is_empty zs ≡ false → Kind (x ∷ y ∷ zs)
    three y [] is too h = cc
    three y (z ∷ zs) is too h = long (clap_name_and_value (z ∷ zs)) (rw (is, too) refl) (rw (is, too) refl) (rw (is, too) refl) (rw is refl)

    two : (ys : Text) → (x == 45) ≡ true → is_stray_rest ys ≡ false → Kind (x ∷ ys)
    two [] is h = cc
    two (y ∷ zs) is h = pick (y == 45) refl h
      where
        pick : (b : Bool) → (y == 45) ≡ b → cond b (is_empty zs) true ≡ false → Kind (x ∷ y ∷ zs)
        pick true too h = three y zs is too h
        pick false too h = cc

    go : (b : Bool) → (x == 45) ≡ b → cond b (is_stray_rest rest) false ≡ false → Kind (x ∷ rest)
    go true is h = two rest is h
    go false is h = plain (rw is refl) (rw is refl) (rw is refl)

-- no command has a stray word
stray_met : (os : Options) (word : Text) (given : List Use) (waiting : Option Text) → option_named os [] ≡ None → is_stray word ≡ true
    → word_met os word given waiting ≡ None
stray_met os [] given waiting unnamed e = cc
stray_met os (x ∷ rest) given waiting unnamed e = go (x == 45) refl e
  where
    idle : (ys : Text) → (x == 45) ≡ true → is_stray_rest ys ≡ true → word_met os (x ∷ ys) given None ≡ None
    idle [] is h = rw is refl
    idle (y ∷ zs) is h = pick (y == 45) refl h
      where
        pick : (b : Bool) → (y == 45) ≡ b → cond b (is_empty zs) true ≡ true → word_met os (x ∷ y ∷ zs) given None ≡ None
        pick true too h = last zs h
          where
            last : (ws : Text) → is_empty ws ≡ true → word_met os (x ∷ y ∷ ws) given None ≡ None
            last [] h = rw (is, too, unnamed) refl
            last (w ∷ ws) h = cc
        pick false too h = rw (is, too) refl

    met : (w : Option Text) → (x == 45) ≡ true → is_stray_rest rest ≡ true → word_met os (x ∷ rest) given w ≡ None
    met None is h = idle rest is h
    met (Some n) is h = rw is refl

    go : (b : Bool) → (x == 45) ≡ b → cond b (is_stray_rest rest) false ≡ true → word_met os (x ∷ rest) given waiting ≡ None
    go true is h = met waiting is h
    go false is h = cc

pub stray_read : (os : Options) (r : Option Reading) (words : List Text) → option_named os [] ≡ None → list_any is_stray words ≡ true
    → read_from os r words ≡ None
unfolding read_from
stray_read os None words unnamed e = read_none os words
stray_read os (Some r) [] unnamed e = cc
stray_read os (Some r) (word ∷ words) unnamed e = go (is_stray word) refl e (λ q. stray_read os q words unnamed)
  where
    go : (b : Bool) → is_stray word ≡ b → (b || list_any is_stray words) ≡ true
        → ((q : Option Reading) → list_any is_stray words ≡ true → read_from os q words ≡ None)
        → read_from os (word_met os word r.given r.waiting) words ≡ None
    go true is h rest = rw (stray_met os word r.given r.waiting unnamed is) (read_none os words)
    go false is h rest = rest (word_met os word r.given r.waiting) h

pub all_kinds : (words : List Text) → list_any is_stray words ≡ false → AllKinds words
all_kinds [] e = tt
all_kinds (word ∷ words) e = go (is_stray word) refl e (all_kinds words)
  where
    go : (b : Bool) → is_stray word ≡ b → (b || list_any is_stray words) ≡ false → (list_any is_stray words ≡ false → AllKinds words)
        → Kind word × AllKinds words
    go true is h rest = cc
    go false is h rest = (kind_of word is, rest h)

-- A WHOLE PARSE

-- the command as it is built
abbrev pub app_for : Text → Options → App
app_for name os = record { top = shape_for name os; subs = [] }

no_defaults_fault : (os : Options) (rows : List Row) → defaults_fault rows (rules_for os) ≡ []
unfolding defaults_fault
no_defaults_fault [] rows = refl
no_defaults_fault ((n, true) ∷ os) rows = go (walk.has_row n rows) (no_defaults_fault os)
  where
    go : (b : Bool) → ((rs : List Row) → defaults_fault rs (rules_for os) ≡ [])
        → or_else (cond (b || true) [] []) (defaults_fault (with_default rows (rule_for (n, true))) (rules_for os)) ≡ []
    go true rest = rest _
    go false rest = rest _
no_defaults_fault ((n, false) ∷ os) rows = go (walk.has_row n rows) (no_defaults_fault os)
  where
    go : (b : Bool) → ((rs : List Row) → defaults_fault rs (rules_for os) ≡ [])
        → or_else (cond (b || false) [] []) (defaults_fault (with_default rows (rule_for (n, false))) (rules_for os)) ≡ []
    go true rest = rest _
    go false rest = rest _

none_required : (os : Options) (rows : List Row) → list_any (λ a. a.required && not (takes.is_given a.id rows)) (rules_for os) ≡ false
none_required [] rows = refl
none_required ((n, true) ∷ os) rows = none_required os rows
none_required ((n, false) ∷ os) rows = none_required os rows

leaf_fault : (name : Text) (os : Options) (words : List Text) (stop : Option (Text × List Text)) (below : Kinds)
    → is_some (entered (app_for name os) stop) ≡ false
leaf_fault name os words None below = refl
leaf_fault name os words (Some p) below = refl

leaf_below : (name : Text) (os : Options) (stop : Option (Text × List Text)) → faults.entered_fault (app_for name os) stop ≡ []
leaf_below name os None = refl
leaf_below name os (Some p) = refl

or_none : (ks : Kinds) → or_else ks [] ≡ ks
or_none [] = refl
or_none (k ∷ ks) = refl

-- a parse fails only in the walk, or where what is pending is used
pub fault_is : (a : App) (name : Text) (os : Options) (words : List Text) → built a ≡ app_for name os → argument_words a words ≡ words
    → fault_of a words ≡ or_else (walk_fault (shape_for name os) [] (walk_from nothing_held) words)
    (settle_fault (rules_for os) false (walk.walk (rules_for os) [] nothing_held words).held)
fault_is a name os words is same =
    ap₂ (λ b ws. faults.built_fault b nothing_held ws) is same
    ∙ rw (
      leaf_below name os (walk.walk (rules_for os) [] nothing_held words).stopped,
      leaf_fault name os words (walk.walk (rules_for os) [] nothing_held words).stopped [],
      no_defaults_fault os (walk.settled (rules_for os) (walk.walk (rules_for os) [] nothing_held words).held).rows,
      none_required os (walk.finished (rules_for os) (walk.walk (rules_for os) [] nothing_held words).held),
    )
    (ap (or_else (walk_fault (shape_for name os) [] (walk_from nothing_held) words)) (or_none _))

-- clap's answer on words that are not stray
pub parse_ok : (a : App) (name : Text) (os : Options) (words : List Text) → built a ≡ app_for name os → argument_words a words ≡ words
    → list_any is_stray words ≡ false → fault_of a words ≡ []
    → (uses : List Use) × (uses_in os words ≡ Some uses) × (matches_of a words ≡ fold with_default (rows_for uses) (rules_for os))
parse_ok a name os words is same stray no_fault =
    let settled = walk.settled_rows (rules_for os) (walk.walk (rules_for os) [] nothing_held words).held.pending (walk.walk (rules_for os) [] nothing_held words).held.rows in
    let agree : rows_unless (fault_of a words) settled ≡ option_map rows_for (uses_in os words) =
    ap (λ k. rows_unless k settled) (fault_is a name os words is same) ∙ (words_agree name os words (all_kinds words stray)).0 [] in
    let got : Some settled ≡ option_map rows_for (uses_in os words) = ap (λ k. rows_unless k settled) (sym no_fault) ∙ agree in
    let rows : matches_of a words ≡ fold with_default settled (rules_for os) =
    ap₂ (λ b ws. walk.rows_after b.top.rules (map (λ x. (x.name, x.aliases)) b.subs) ws) is same in
    go settled rows (uses_in os words) refl got
  where
    go : (settled : List Row) → matches_of a words ≡ fold with_default settled (rules_for os)
        → (o : Option (List Use)) → uses_in os words ≡ o → Some settled ≡ option_map rows_for o
        → (uses : List Use) × (uses_in os words ≡ Some uses) × (matches_of a words ≡ fold with_default (rows_for uses) (rules_for os))
    go settled rows None e h = cc
    go settled rows (Some uses) e h =
        let same_rows : settled ≡ rows_for uses = cc in
        (uses, e, rows ∙ ap (λ rs. fold with_default rs (rules_for os)) same_rows)

pub parse_err : (a : App) (name : Text) (os : Options) (words : List Text) → built a ≡ app_for name os → argument_words a words ≡ words
    → list_any is_stray words ≡ false → (fault_of a words ≡ [] → ⊥) → uses_in os words ≡ None
parse_err a name os words is same stray fault =
    let settled = walk.settled_rows (rules_for os) (walk.walk (rules_for os) [] nothing_held words).held.pending (walk.walk (rules_for os) [] nothing_held words).held.rows in
    let agree : rows_unless (fault_of a words) settled ≡ option_map rows_for (uses_in os words) =
    ap (λ k. rows_unless k settled) (fault_is a name os words is same) ∙ (words_agree name os words (all_kinds words stray)).0 [] in
    go settled (fault_of a words) fault (uses_in os words) agree
  where
    go : (settled : List Row) (ks : Kinds) → (ks ≡ [] → ⊥) → (o : Option (List Use)) → rows_unless ks settled ≡ option_map rows_for o → o ≡ None
    go settled [] faulty o h = absurd (faulty refl)
    go settled (k ∷ ks) faulty None h = refl
    go settled (k ∷ ks) faulty (Some uses) h = cc
