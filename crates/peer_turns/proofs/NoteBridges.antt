-- The note of a message, by what is put.
use Rattle.std.specs.Prelude.{ℕ, ◌==◌, ◌≡◌, ◌&&◌, ◌||◌, Bool, true, false, not, cond, List, [], ◌∷◌, length, Some, None, nat_lt, refl}
use Rattle.std.specs.List.{list_any, cons_option}
use Rattle.std.specs.Option.{option_map}
use Rattle.std.proofs.Common.{sym, ◌∙◌, ap}
use Rattle.std.proofs.lemmas.Bool.{eqb-true, eq-eqb}
use Rattle.txn_types.specs.declared.message.Node.TheVariants.{Peer, Orderer}
use Rattle.txn_types.specs.declared.message.Node.{Node}
use Rattle.txn_types.specs.declared.message.Vote.{Vote}
use Rattle.txn_types.specs.declared.message.Commit.{Commit}
use Rattle.txn_types.specs.declared.message.NewBlock.{NewBlock}
use Rattle.txn_types.specs.declared.message.Message.TheVariants as message
use Rattle.oxii_defs.specs.Dependency.{graph_of}
use Rattle.node_defs.specs.Same.{same_list, same_number}
use Rattle.oxii_defs.specs.State.{contains}
use Rattle.node_defs.specs.Rules.{Rules}
use Rattle.node_defs.specs.Log.{Log, first_newblocks}
use Rattle.node_defs.specs.World.{count_from}
use Rattle.newblock_quorum.specs.declared.entry.NewBlockPut.{NewBlockPut}
use Rattle.newblock_quorum.specs.Newblocks.{answer_to_newblock, orderer_of}
use Rattle.newblock_quorum.specs.declared.entry.NewBlockPut.TheVariants as put
use Rattle.vote_book.specs.Puts.{Cast, answer_to_vote, cast_of, cast_on, voter_of}
use Rattle.peer_laws.specs.declared.note.Note.{Note}
use Rattle.peer_laws.specs.declared.note.Note.TheVariants.{Counted, Repeat, Stranger, WrongGraph}
use Rattle.peer_laws.specs.Delivery.{SendersAre}
use Rattle.peer_laws.specs.Notes.{any_first, has_vote, note_from}
use Rattle.peer_laws.specs.Turns.{Casts}
use Rattle.peer_laws.proofs.NoteLemmas.{commit_note_is, own_commit_note}
use Rattle.peer_parts.specs.Voting.{any_new, is_counted}
use Rattle.peer_turns.specs.Answering.{put_note, votes_note}
use Rattle.peer_turns.specs.Relation.{is_me}

-- A NEWBLOCK

pub newblock_noted : (rules : Rules) (me : ℕ) (L : Log) (from : Node) (m : NewBlock) → put_note (answer_to_newblock rules L (orderer_of (length rules.table.orderers) from) m) ≡ note_from rules me L from (message.NewBlock m)
newblock_noted rules me L (Peer p) m = refl
newblock_noted rules me L (Orderer o) m = one (nat_lt o (length rules.table.orderers))
  where
    two : (g h : Bool) → put_note (cond {A = NewBlockPut} g (cond {A = NewBlockPut} h put.Repeat put.Counted) put.WrongGraph) ≡ cond g (cond h Repeat Counted) WrongGraph
    two true true = refl
    two true false = refl
    two false h = refl

    one : (b : Bool) → put_note (answer_to_newblock rules L (cond b (Some o) None) m) ≡ cond b (cond (same_list (same_list same_number) m.preds (graph_of rules.table.kind m.block.txns)) (cond (list_any (λ x. x.0 == o) (first_newblocks rules m.block.number L)) Repeat Counted) WrongGraph) Stranger
    one false = refl
    one true = two (same_list (same_list same_number) m.preds (graph_of rules.table.kind m.block.txns)) (list_any (λ x. x.0 == o) (first_newblocks rules m.block.number L))

-- A COMMIT

first_same : (p n : ℕ) (votes : List Vote) (cast cast2 : Casts) → ((t : ℕ) → has_vote p (cast n t) ≡ has_vote p (cast2 n t)) → any_first cast p n votes ≡ any_first cast2 p n votes
first_same p n [] cast cast2 h = refl
first_same p n (v ∷ votes) cast cast2 h = ap (λ b. not b || any_first cast p n votes) (h v.t) ∙ ap (λ b. not (has_vote p (cast2 n v.t)) || b) (first_same p n votes cast cast2 h)

same_self : (p : ℕ) → (p == p) ≡ true
same_self p = eq-eqb p p refl

-- one more vote of p, where it has one, is no first vote
again : (voters : List ℕ) (p n : ℕ) (v : Vote) (puts : List Cast) → contains voters p ≡ true → has_vote p (cast_on voters n v.t puts) ≡ true → (t : ℕ) → has_vote p (cast_on voters n t (cast_of (Peer p) n v.t v.outcome ∷ puts)) ≡ has_vote p (cast_on voters n t puts)
again voters p n v puts h k t = one (v.t == t) refl
  where
    there : (b : Bool) → (n == n) ≡ true → voter_of voters (Peer p) ≡ Some p → has_vote p (cons_option (cond ((n == n) && b) (option_map (λ (q : ℕ). (q, v.outcome)) (voter_of voters (Peer p))) None) (cast_on voters n t puts)) ≡ cond b true (has_vote p (cast_on voters n t puts))
    there true e f = rw e (rw f (rw (same_self p) refl))
    there false e f = rw e refl

    one : (b : Bool) → (v.t == t) ≡ b → has_vote p (cast_on voters n t (cast_of (Peer p) n v.t v.outcome ∷ puts)) ≡ has_vote p (cast_on voters n t puts)
    one true q =
        let e : v.t ≡ t = eqb-true v.t t q in
        ap (λ b. has_vote p (cons_option (cond ((n == n) && b) (option_map (λ (q : ℕ). (q, v.outcome)) (voter_of voters (Peer p))) None) (cast_on voters n t puts))) q
        ∙ (there true (same_self n) (ap (λ (b : Bool). cond b (Some p) None) h) ∙ sym (ap (λ u. has_vote p (cast_on voters n u puts)) (sym e) ∙ k))
    one false q =
        ap (λ b. has_vote p (cons_option (cond ((n == n) && b) (option_map (λ (q : ℕ). (q, v.outcome)) (voter_of voters (Peer p))) None) (cast_on voters n t puts))) q
        ∙ there false (same_self n) (ap (λ (b : Bool). cond b (Some p) None) h)

-- whether a put of them is counted, is whether one is the first on its position
pub new_is_first : (voters : List ℕ) (p n : ℕ) (votes : List Vote) (puts : List Cast) → contains voters p ≡ true → any_new voters (Peer p) n votes puts ≡ any_first (λ k t. cast_on voters k t puts) p n votes
new_is_first voters p n [] puts h = refl
new_is_first voters p n (v ∷ votes) puts h =
    ap (λ q. is_counted (answer_to_vote q (cast_on voters n v.t puts)) || any_new voters (Peer p) n votes more) (ap (λ (b : Bool). cond b (Some p) None) h)
    ∙ (ap (λ b. is_counted (answer_to_vote (Some p) (cast_on voters n v.t puts)) || b) (new_is_first voters p n votes more h) ∙ one (has_vote p (cast_on voters n v.t puts)) refl)
  where
    more : List Cast
    more = cast_of (Peer p) n v.t v.outcome ∷ puts

    one : (b : Bool) → has_vote p (cast_on voters n v.t puts) ≡ b → (is_counted (answer_to_vote (Some p) (cast_on voters n v.t puts)) || any_first (λ k t. cast_on voters k t more) p n votes) ≡ (not (has_vote p (cast_on voters n v.t puts)) || any_first (λ k t. cast_on voters k t puts) p n votes)
    one true q = rw q (first_same p n votes (λ k t. cast_on voters k t more) (λ k t. cast_on voters k t puts) (again voters p n v puts h q))
    one false q = rw q refl

pub commit_noted : (rules : Rules) (me : ℕ) (L : Log) (from : Node) (c : Commit) (puts : List Cast) (new : Bool) → let voters = count_from 0 (length rules.table.peers) in
    ((p : ℕ) → contains voters p ≡ nat_lt p (length rules.table.peers)) → is_me me from ≡ false → SendersAre rules me (λ k t. cast_on voters k t puts) L → new ≡ any_new voters from c.n c.votes puts
    → votes_note (length rules.table.peers) from new ≡ note_from rules me L from (message.Commit c)
commit_noted rules me L (Orderer o) c puts new are other s q = refl
commit_noted rules me L (Peer p) c puts new are other s q = one (nat_lt p (length rules.table.peers)) refl
  where
    voters : List ℕ
    voters = count_from 0 (length rules.table.peers)

    one : (b : Bool) → nat_lt p (length rules.table.peers) ≡ b → votes_note (length rules.table.peers) (Peer p) new ≡ note_from rules me L (Peer p) (message.Commit c)
    one false e = rw e refl
    one true e = rw e (ap (λ b. cond {A = Note} b Counted Repeat) (q ∙ new_is_first voters p c.n c.votes puts (are p ∙ e)) ∙ sym (commit_note_is rules me p c (λ k t. cast_on voters k t puts) L s other))

pub own_noted : (rules : Rules) (me : ℕ) (L : Log) (from : Node) (c : Commit) → is_me me from ≡ true → votes_note (length rules.table.peers) from false ≡ note_from rules me L from (message.Commit c)
own_noted rules me L (Orderer o) c h = refl
own_noted rules me L (Peer p) c h = one (nat_lt p (length rules.table.peers)) refl
  where
    one : (b : Bool) → nat_lt p (length rules.table.peers) ≡ b → votes_note (length rules.table.peers) (Peer p) false ≡ note_from rules me L (Peer p) (message.Commit c)
    one false e = rw e refl
    one true e = rw e (sym (own_commit_note rules me p c L h))
