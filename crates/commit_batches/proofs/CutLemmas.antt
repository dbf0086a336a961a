-- What steps hand out and leave is what was held and added.
use Rattle.std.specs.Prelude.{ℕ, ◌≡◌, ◌==◌, true, false, cond, if◌then◌else◌, List, [], ◌∷◌, ◌++◌, length, Option, Some, None, refl}
use Rattle.std.specs.List.{flat_map, list_any, cons_option}
use Rattle.std.proofs.Common.{sym, ◌∙◌, ap, append_assoc, ne_eqb, arith}
use Rattle.std.proofs.lemmas.List.{append-nil}
use Rattle.std.proofs.lemmas.Bool.{or_parts, true≢false}
use Rattle.txn_types.specs.declared.message.Vote.{Vote}
use Rattle.txn_types.specs.declared.message.Commit.{Commit}
use Rattle.commit_batches.specs.Held.{Step, Hold, Cut, handed_at, held_behind}
use Rattle.commit_batches.specs.Cuts.{handed, left, added, added_at, cuts}

abbrev votes_of : List Commit → List Vote
votes_of cs = flat_map (λ c. c.votes) cs

-- a cut without a vote loses nothing
cut_whole : (n : ℕ) (vs : List Vote) → votes_of (cons_option (if length vs == 0 then None else Some (record { n = n; votes = vs })) []) ++ [] ≡ vs ++ []
cut_whole n [] = refl
cut_whole n (v ∷ vs) =
    let some : (length (v ∷ vs) == 0) ≡ false = ne_eqb (length (v ∷ vs)) 0 (λ z. absurd (omega arith)) in
    ap (λ b. votes_of (cons_option (cond b None (Some (record { n = n; votes = v ∷ vs }))) []) ++ []) some ∙ append-nil ((v ∷ vs) ++ [])

-- nothing is lost at one step
one_whole : (held : Commit) (s : Step) → votes_of (cons_option (handed_at held s) []) ++ (held_behind held s).votes ≡ held.votes ++ added_at s
one_whole held (Hold n vote true) = append-nil ((held.votes ++ vote ∷ []) ++ []) ∙ append-nil (held.votes ++ vote ∷ [])
one_whole held (Hold n vote false) = refl
one_whole held Cut = cut_whole held.n held.votes

votes_first : (o : Option Commit) (cs : List Commit) → votes_of (cons_option o cs) ≡ votes_of (cons_option o []) ++ votes_of cs
votes_first None cs = refl
votes_first (Some c) cs = ap (λ vs. vs ++ votes_of cs) (sym (append-nil c.votes))

pub whole : (held : Commit) (steps : List Step) → votes_of (handed held steps) ++ (left held steps).votes ≡ held.votes ++ added steps
whole held [] = sym (append-nil held.votes)
whole held (s ∷ rest) =
    let now = votes_of (cons_option (handed_at held s) []) in
    let later = votes_of (handed (held_behind held s) rest) in
    let last = (left (held_behind held s) rest).votes in
    ap (λ vs. vs ++ last) (votes_first (handed_at held s) (handed (held_behind held s) rest))
    ∙ (append_assoc now later last
    ∙ (ap (λ vs. now ++ vs) (whole (held_behind held s) rest)
    ∙ (sym (append_assoc now (held_behind held s).votes (added rest))
    ∙ (ap (λ vs. vs ++ added rest) (one_whole held s) ∙ append_assoc held.votes (added_at s) (added rest)))))

-- steps without a cut hold what they add
uncut : (held : Commit) (steps : List Step) → list_any cuts steps ≡ false → (left held steps).votes ≡ held.votes ++ added steps
uncut held [] h = sym (append-nil held.votes)
uncut held (Hold n vote follows ∷ rest) h =
    let parts = or_parts follows (list_any cuts rest) h in
    uncut (held_behind held (Hold n vote follows)) rest parts.1
    ∙ (ap (λ b. (held_behind held (Hold n vote b)).votes ++ added rest) parts.0 ∙ append_assoc held.votes (vote ∷ []) (added rest))
uncut held (Cut ∷ rest) h = absurd (true≢false h)

-- steps one behind the other
left-append : (held : Commit) (xs ys : List Step) → left held (xs ++ ys) ≡ left (left held xs) ys
left-append held [] ys = refl
left-append held (x ∷ xs) ys = left-append (held_behind held x) xs ys

-- a cut leaves nothing
cut_empties : (held : Commit) (s : Step) → cuts s ≡ true → (held_behind held s).votes ≡ []
cut_empties held (Hold n vote true) h = refl
cut_empties held (Hold n vote false) h = absurd (true≢false (sym h))
cut_empties held Cut h = refl

pub open_part : (held : Commit) (before : List Step) (s : Step) (after : List Step) → cuts s ≡ true → list_any cuts after ≡ false → (left held (before ++ s ∷ after)).votes ≡ added after
open_part held before s after c h =
    ap (λ k. k.votes) (left-append held before (s ∷ after))
    ∙ (uncut (held_behind (left held before) s) after h ∙ ap (λ vs. vs ++ added after) (cut_empties (left held before) s c))
