-- Votes held one after another are held and cut as the definitions say.
use Rattle.std.specs.Prelude.{ℕ, ◌==◌, ◌<◌, ◌≤◌, ◌≡◌, Bool, true, false, ◌&&◌, ◌||◌, not, cond, List, [], ◌∷◌, ◌++◌, map, reverse, length, get_or, Option, None, is_some, nat_lt, zero, suc, refl}
use Rattle.std.proofs.Common.{sym, ◌∙◌, ap, subst, arith, ⊎_elim, append_assoc}
use Rattle.std.proofs.lemmas.Bool.{false≢true, cases_lt, eqb-true, eq-eqb, lt-ltb, le-ltb, and_parts}
use Rattle.std.proofs.lemmas.List.{reverse-append, map-append}
use Rattle.txn_types.specs.declared.txn.Outcome.{Outcome}
use Rattle.txn_types.specs.declared.txn.Txn.{Txn}
use Rattle.txn_types.specs.declared.block.Block.{Block}
use Rattle.txn_types.specs.declared.message.Vote.{Vote}
use Rattle.txn_types.specs.declared.message.Commit.{Commit}
use Rattle.oxii_defs.specs.State.{contains}
use Rattle.oxii_defs.specs.Dependency.{graph_of}
use Rattle.known_defs.specs.Known.{txn_at}
use Rattle.node_defs.specs.Rules.{Rules}
use Rattle.node_defs.specs.Position.{Work, is_agent}
use Rattle.node_defs.specs.Sent.{held, is_cut, all_own_in, other_app_follows}
use Rattle.peer_laws.specs.Turns.{plain, has_run, just_ran, cuts_made, vote_of, cut_of, IsOrder, CutsMade}
use Rattle.peer_laws.proofs.Steps.{contains-append, place_more}
use Rattle.peer_parts.specs.Owning.{IsOwn}
use Rattle.peer_parts.specs.Holding.{none_left, cut_behind, has_just, held_if, sent_if}

in_just : (rules : Rules) (me : ℕ) (txns : List Txn) (before after : List (Option Outcome)) (n t : ℕ) → contains (just_ran rules me txns before after n) t ≡ (nat_lt t n && (has_run rules me txns after t && not (is_some (get_or before t None))))
in_just rules me txns before after zero t = rw (le-ltb t 0 (omega arith)) refl
in_just rules me txns before after (suc n) t = place_more (λ u. has_run rules me txns after u && not (is_some (get_or before u None))) n t (just_ran rules me txns before after n) (in_just rules me txns before after n t)

-- with t, all those below it that have just run, and those before
own_in : (rules : Rules) (me : ℕ) (b : Block) (own : List Bool) (before after : List (Option Outcome)) (order : List ℕ) → IsOwn rules me b.txns own → IsOrder rules me b before order → (t : ℕ) → is_some (get_or after t None) ≡ true → (u : ℕ) → u ≤ length b.txns → all_own_in rules (plain me b.txns) (t ∷ (just_ran rules me b.txns before after t ++ order)) u ≡ none_left own before after t u
own_in rules me b own before after order is io t s zero l = refl
own_in rules me b own before after order is io t s (suc u) l = both (own_in rules me b own before after order is io t s u (omega arith)) (one (is_agent rules me (txn_at b.txns u)) refl ∙ ap (λ x. not x || (is_some (get_or before u None) || (not (nat_lt t u) && is_some (get_or after u None)))) (sym (is u (omega arith))))
  where
    old : Bool
    old = is_some (get_or before u None)

    now : Bool
    now = is_some (get_or after u None)

    J : List ℕ
    J = just_ran rules me b.txns before after t

    both : {x y p q : Bool} → x ≡ y → p ≡ q → (p && x) ≡ (q && y)
    both e f = cc

    seen : (a : Bool) → is_agent rules me (txn_at b.txns u) ≡ a → contains (J ++ order) u ≡ ((nat_lt u t && ((a && now) && not old)) || (a && old))
    seen a q = contains-append J order u ∙ (ap (λ x. x || contains order u) (in_just rules me b.txns before after t u) ∙ (ap (λ x. (nat_lt u t && ((is_agent rules me (txn_at b.txns u) && now) && not old)) || x) (io u (omega arith)) ∙ ap (λ x. (nat_lt u t && ((x && now) && not old)) || (x && old)) q))

    plain_case : (e lt gt o k : Bool) → (e ≡ true → gt ≡ false) → (e ≡ true → k ≡ true) → (e ≡ false → lt ≡ not gt) → (e || ((lt && (k && not o)) || o)) ≡ (o || (not gt && k))
    plain_case true lt gt o k g h i = rw (g refl) (rw (h refl) (elim o as (λ x. true ≡ (x || true)) [ true ↦ refl | false ↦ refl ]))
    plain_case false lt true true k g h i = rw (i refl) refl
    plain_case false lt true false k g h i = rw (i refl) refl
    plain_case false lt false true true g h i = rw (i refl) refl
    plain_case false lt false true false g h i = rw (i refl) refl
    plain_case false lt false false true g h i = rw (i refl) refl
    plain_case false lt false false false g h i = rw (i refl) refl

    one : (a : Bool) → is_agent rules me (txn_at b.txns u) ≡ a → (not (is_agent rules me (txn_at b.txns u)) || ((u == t) || contains (J ++ order) u)) ≡ (not (is_agent rules me (txn_at b.txns u)) || (old || (not (nat_lt t u) && now)))
    one false q = rw q refl
    one true q = ap (λ x. not x || ((u == t) || contains (J ++ order) u)) q ∙ (ap (λ x. (u == t) || x) (seen true q) ∙ (plain_case (u == t) (nat_lt u t) (nat_lt t u) old now
        (λ e. le-ltb t u (let k : t ≡ u = sym (eqb-true u t e) in omega (arith, k)))
        (λ e. ap (λ z. is_some (get_or after z None)) (eqb-true u t e) ∙ s)
        (λ e. ⊎_elim (λ lt. lt-ltb u t lt ∙ sym (ap not (le-ltb t u (omega arith)))) (λ ge. le-ltb u t ge ∙ sym (ap not (lt-ltb t u (past e ge)))) (cases_lt u t))
        ∙ sym (ap (λ x. not x || (old || (not (nat_lt t u) && now))) q)))
      where
        past : (u == t) ≡ false → t ≤ u → t < u
        past e ge = ⊎_elim (λ lt. lt) (λ le. absurd (false≢true (sym e ∙ eq-eqb u t (let k : u ≡ t = omega arith in k)))) (cases_lt t u)

pub cut_is : (rules : Rules) (me : ℕ) (b : Block) (own : List Bool) (before after : List (Option Outcome)) (order : List ℕ) → length own ≡ length b.txns → IsOwn rules me b.txns own → IsOrder rules me b before order → (t : ℕ) → is_some (get_or after t None) ≡ true → is_cut rules (plain me b.txns) (t ∷ (just_ran rules me b.txns before after t ++ order)) ≡ cut_behind rules.table.kind b.txns own before after t
cut_is rules me b own before after order lo is io t s = ap (λ x. other_app_follows t (txn_at b.txns t).app (graph_of rules.table.kind b.txns) b.txns || x) (own_in rules me b own before after order is io t s (length b.txns) (omega arith) ∙ ap (none_left own before after t) (sym lo))

-- what is held and sent when the first t positions are done with
pub record CutsUpto (rules : Rules) (me n : ℕ) (b : Block) (before after : List (Option Outcome)) (order : List ℕ) (held_new : List Vote) (sent_old sent_new : List Commit) (t : ℕ) : Type 0 where
  pub holds : held_new ≡ reverse (map (vote_of after) (held rules (plain me b.txns) (just_ran rules me b.txns before after t ++ order)))
  pub commits : sent_new ≡ sent_old ++ map (cut_of n after) (reverse (cuts_made rules (plain me b.txns) (just_ran rules me b.txns before after t) order))

map_reverse : {A B : Type 0} (f : A → B) (xs : List A) → map f (reverse xs) ≡ reverse (map f xs)
map_reverse f [] = refl
map_reverse f (x ∷ xs) = ap (map f) (reverse-append (x ∷ []) xs) ∙ (map-append f (reverse xs) (x ∷ []) ∙ (ap (λ ys. ys ++ f x ∷ []) (map_reverse f xs) ∙ sym (reverse-append (f x ∷ []) (map f xs))))

nil : {A : Type 0} (xs : List A) → xs ++ [] ≡ xs
nil [] = refl
nil (x ∷ xs) = ap (λ ys. x ∷ ys) (nil xs)

pub cuts_none : (rules : Rules) (me n : ℕ) (b : Block) (before after : List (Option Outcome)) (order : List ℕ) (held_old : List Vote) (sent_old : List Commit) → held_old ≡ reverse (map (vote_of after) (held rules (plain me b.txns) order)) → CutsUpto rules me n b before after order held_old sent_old sent_old 0
cuts_none rules me n b before after order held_old sent_old h = record { holds = h; commits = sym (nil sent_old) }

pub cuts_more : (rules : Rules) (me n : ℕ) (b : Block) (own : List Bool) (before after : List (Option Outcome)) (order : List ℕ) → length own ≡ length b.txns → IsOwn rules me b.txns own → IsOrder rules me b before order → (held1 held2 : List Vote) (sent0 sent1 sent2 : List Commit) (t : ℕ) → t < length b.txns → CutsUpto rules me n b before after order held1 sent0 sent1 t
    → held2 ≡ cond (has_just own before after t) (held_if (cut_behind rules.table.kind b.txns own before after t) (vote_of after t) held1) held1
    → sent2 ≡ cond (has_just own before after t) (sent_if n (cut_behind rules.table.kind b.txns own before after t) (vote_of after t) held1 sent1) sent1
    → CutsUpto rules me n b before after order held2 sent0 sent2 (suc t)
cuts_more rules me n b own before after order lo is io held1 held2 sent0 sent1 sent2 t lt c h s = one (has_run rules me b.txns after t && not (is_some (get_or before t None))) refl
  where
    w : Work
    w = plain me b.txns

    J : List ℕ
    J = just_ran rules me b.txns before after t

    X : Bool
    X = cut_behind rules.table.kind b.txns own before after t

    just : has_just own before after t ≡ (has_run rules me b.txns after t && not (is_some (get_or before t None)))
    just = ap (λ a. (a && is_some (get_or after t None)) && not (is_some (get_or before t None))) (is t lt)

    one : (k : Bool) → (has_run rules me b.txns after t && not (is_some (get_or before t None))) ≡ k → CutsUpto rules me n b before after order held2 sent0 sent2 (suc t)
    one false q = record {
      holds = h ∙ (ap (λ x. cond x (held_if X (vote_of after t) held1) held1) (just ∙ q) ∙ (c.holds ∙ sym (ap (λ x. reverse (map (vote_of after) (held rules w (cond x (t ∷ J) J ++ order)))) q)));
      commits = s ∙ (ap (λ x. cond x (sent_if n X (vote_of after t) held1 sent1) sent1) (just ∙ q) ∙ (c.commits ∙ sym (ap (λ x. sent0 ++ map (cut_of n after) (reverse (cuts_made rules w (cond x (t ∷ J) J) order))) q)));
    }
    one true q = record {
      holds = h ∙ (ap (λ x. cond x (held_if X (vote_of after t) held1) held1) (just ∙ q) ∙ (holds2 X cut ∙ sym (ap (λ x. reverse (map (vote_of after) (held rules w (cond x (t ∷ J) J ++ order)))) q)));
      commits = s ∙ (ap (λ x. cond x (sent_if n X (vote_of after t) held1 sent1) sent1) (just ∙ q) ∙ (sent_more X cut ∙ sym (ap (λ x. sent0 ++ map (cut_of n after) (reverse (cuts_made rules w (cond x (t ∷ J) J) order))) q)));
    }
      where
        cut : is_cut rules w (t ∷ (J ++ order)) ≡ X
        cut = cut_is rules me b own before after order lo is io t (and_parts (is_agent rules me (txn_at b.txns t)) (is_some (get_or after t None)) (and_parts _ _ q).0).1

        pushed : held1 ++ vote_of after t ∷ [] ≡ reverse (map (vote_of after) (t ∷ held rules w (J ++ order)))
        pushed = ap (λ vs. vs ++ vote_of after t ∷ []) c.holds ∙ sym (reverse-append (vote_of after t ∷ []) (map (vote_of after) (held rules w (J ++ order))))

        holds2 : (x : Bool) → is_cut rules w (t ∷ (J ++ order)) ≡ x → held_if x (vote_of after t) held1 ≡ reverse (map (vote_of after) (held rules w (t ∷ (J ++ order))))
        holds2 true e = rw e refl
        holds2 false e = rw e pushed

        commit_as : (us vs : List Vote) → us ≡ vs → ◌≡◌ {A = Commit} (record { n = n; votes = us }) (record { n = n; votes = vs })
        commit_as us vs p = cc

        sent_more : (x : Bool) → is_cut rules w (t ∷ (J ++ order)) ≡ x → sent_if n x (vote_of after t) held1 sent1 ≡ sent0 ++ map (cut_of n after) (reverse (cuts_made rules w (t ∷ J) order))
        sent_more false e = rw e c.commits
        sent_more true e = rw e (ap (λ xs. xs ++ record { n = n; votes = held1 ++ vote_of after t ∷ [] } ∷ []) c.commits ∙ (append_assoc sent0 (map (cut_of n after) (reverse (cuts_made rules w J order))) (record { n = n; votes = held1 ++ vote_of after t ∷ [] } ∷ []) ∙ ap (λ xs. sent0 ++ xs) last))
          where
            this : ◌≡◌ {A = Commit} (record { n = n; votes = held1 ++ vote_of after t ∷ [] }) (cut_of n after (t ∷ held rules w (J ++ order)))
            this = commit_as (held1 ++ vote_of after t ∷ []) (map (vote_of after) (reverse (t ∷ held rules w (J ++ order)))) (pushed ∙ sym (map_reverse (vote_of after) (t ∷ held rules w (J ++ order))))

            last : map (cut_of n after) (reverse (cuts_made rules w J order)) ++ record { n = n; votes = held1 ++ vote_of after t ∷ [] } ∷ [] ≡ map (cut_of n after) (reverse ((t ∷ held rules w (J ++ order)) ∷ cuts_made rules w J order))
            last = ap (λ x. map (cut_of n after) (reverse (cuts_made rules w J order)) ++ x ∷ []) this ∙ (sym (map-append (cut_of n after) (reverse (cuts_made rules w J order)) ((t ∷ held rules w (J ++ order)) ∷ [])) ∙ ap (map (cut_of n after)) (sym (reverse-append ((t ∷ held rules w (J ++ order)) ∷ []) (cuts_made rules w J order))))

-- when all positions are done with
pub all_cut : (rules : Rules) (me n : ℕ) (b : Block) (before after : List (Option Outcome)) (order : List ℕ) (held2 : List Vote) (sent0 sent2 : List Commit) (t : ℕ) → t ≡ length b.txns → CutsUpto rules me n b before after order held2 sent0 sent2 t → CutsMade rules me n b before after order held2 sent0 sent2
all_cut rules me n b before after order held2 sent0 sent2 t e c =
    let d : CutsUpto rules me n b before after order held2 sent0 sent2 (length b.txns) = subst (CutsUpto rules me n b before after order held2 sent0 sent2) e c in
    record { holds = d.holds; commits = d.commits }
