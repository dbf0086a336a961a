-- The note of a COMMIT by the votes that a peer keeps
use Rattle.std.specs.Prelude.{ℕ, ◌==◌, ◌≡◌, true, false, ◌||◌, not, cond, List, [], ◌∷◌, refl}
use Rattle.std.specs.List.{list_any}
use Rattle.txn_types.specs.declared.txn.Outcome.{Outcome}
use Rattle.std.proofs.Common.{ap}
use Rattle.txn_types.specs.declared.message.Vote.{Vote}
use Rattle.txn_types.specs.declared.message.Commit.{Commit}
use Rattle.node_defs.specs.Rules.{Rules}
use Rattle.node_defs.specs.Log.{Log}
use Rattle.peer_laws.specs.Delivery.{SendersAre}
use Rattle.peer_laws.specs.declared.note.Note.{Note}
use Rattle.peer_laws.specs.declared.note.Note.TheVariants.{Counted, Repeat}
use Rattle.peer_laws.specs.Notes.{any_first, commit_note}
use Rattle.peer_laws.specs.Turns.{Casts, said}

-- of another peer the votes that are kept tell what the log tells
pub first_by_cast : (rules : Rules) (me p n : ℕ) (votes : List Vote) (cast : Casts) (L : Log) → SendersAre rules me cast L → (p == me) ≡ false
    → any_first (λ k t. said rules me k t L) p n votes ≡ any_first cast p n votes
first_by_cast rules me p n [] cast L s other = refl
first_by_cast rules me p n (v ∷ rest) cast L s other =
    rw (s n v.t p other) (ap (λ b. not (list_any (λ (x : ℕ × Outcome). x.0 == p) (said rules me n v.t L)) || b) (first_by_cast rules me p n rest cast L s other))

-- the note of another peer's COMMIT, by the votes that are kept
pub commit_note_is : (rules : Rules) (me p : ℕ) (c : Commit) (cast : Casts) (L : Log) → SendersAre rules me cast L → (p == me) ≡ false
    → commit_note rules me p c L ≡ cond (any_first cast p c.n c.votes) Counted Repeat
commit_note_is rules me p c cast L s other =
    rw other (ap (λ b. cond {A = Note} b Counted Repeat) (first_by_cast rules me p c.n c.votes cast L s other))

-- this peer's own COMMIT is nothing new
pub own_commit_note : (rules : Rules) (me p : ℕ) (c : Commit) (L : Log) → (p == me) ≡ true → commit_note rules me p c L ≡ Repeat
own_commit_note rules me p c L mine = rw mine refl
