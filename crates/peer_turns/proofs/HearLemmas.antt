-- A message is heard.
use Rattle.std.specs.Prelude.{ℕ, ◌==◌, ◌+◌, ◌<◌, ◌≤◌, ◌≡◌, ◌⊎◌, ◌&&◌, ◌||◌, Bool, true, false, cond, List, [], ◌∷◌, ◌++◌, map, reverse, length, Option, Some, None, nat_lt, suc, zero, refl}
use Rattle.std.specs.List.{cons_option}
use Rattle.std.specs.Option.{option_map}
use Rattle.std.proofs.Common.{sym, ◌∙◌, ap, subst, arith, inl, inr}
use Rattle.std.proofs.lemmas.Bool.{eqb-true, cases_lt, lt-ltb, le-ltb}
use Rattle.txn_types.specs.declared.txn.Outcome.{Outcome}
use Rattle.txn_types.specs.declared.message.Node.{Node}
use Rattle.txn_types.specs.declared.message.Node.TheVariants.{Peer, Orderer}
use Rattle.txn_types.specs.declared.message.Vote.{Vote}
use Rattle.txn_types.specs.declared.message.Commit.{Commit}
use Rattle.txn_types.specs.declared.message.NewBlock.{NewBlock}
use Rattle.txn_types.specs.declared.message.Message.TheVariants as message
use Rattle.newblock_quorum.specs.declared.entry.NewBlockPut.{NewBlockPut}
use Rattle.oxii_defs.specs.State.{State, contains}
use Rattle.txn_core.specs.MeantTable.{table_of}
use Rattle.node_defs.specs.Rules.{Rules}
use Rattle.node_defs.specs.Log as log
use Rattle.node_defs.specs.Log.{Letter, Log, votes_from}
use Rattle.node_defs.specs.World.{count_from}
use Rattle.node_laws.proofs.Same.{rules_local}
use Rattle.node_laws.proofs.Few.{counted}
use Rattle.newblock_quorum.specs.Entries as inbox
use Rattle.newblock_quorum.specs.Newblocks as newblocks
use Rattle.vote_book.specs.Ballots as book
use Rattle.vote_book.specs.Puts.{Cast, BookStandsFor, cast_of, voter_of, cast_on}
use Rattle.peer_laws.proofs.Exits.{IsHeard, start}
use Rattle.peer_laws.proofs.RunLemmas.{runs_start}
use Rattle.peer_parts.specs.Voting.{any_new, with_casts}
use Rattle.peer_parts.proofs.VotingLemmas.{heard_is}
use Rattle.peer_turns.specs.Answering.{put_note, votes_note}
use Rattle.peer_turns.specs.Peers.{KeptPeer}
use Rattle.peer_turns.specs.Traces.{AreTraced}
use Rattle.peer_turns.proofs.NoteBridges.{commit_noted, newblock_noted, own_noted}
use Rattle.peer_turns.specs.Relation.{HearsOf, NotesOf, rules_for, voters_of, done_of, opened_of, cast_by, is_me, letter_from}

-- WHO VOTES

uncounted : (i n x : ℕ) → i + n ≤ x → contains (count_from i n) x ≡ false
uncounted i zero x l = refl
uncounted i (suc n) x l = one (x == i) refl (uncounted (suc i) n x (omega arith))
  where
    one : (b : Bool) → (x == i) ≡ b → contains (count_from (suc i) n) x ≡ false → (b || contains (count_from (suc i) n) x) ≡ false
    one true e more = let q : x ≡ i = eqb-true x i e in absurd (omega (arith, q))
    one false e more = more

voters_are : (n p : ℕ) → contains (count_from 0 n) p ≡ nat_lt p n
voters_are n p = one (cases_lt p n)
  where
    one : (p < n) ⊎ (n ≤ p) → contains (count_from 0 n) p ≡ nat_lt p n
    one (inl l) = counted 0 n p (omega arith) (omega arith) ∙ sym (lt-ltb p n l)
    one (inr l) = uncounted 0 n p (omega arith) ∙ sym (le-ltb p n l)

strangers : (voters : List ℕ) (from : Node) (n : ℕ) (vs : List Vote) (k u : ℕ) (puts : List Cast) → voter_of voters from ≡ None → cast_on voters k u (with_casts from n vs puts) ≡ cast_on voters k u puts
strangers voters from n [] k u puts h = refl
strangers voters from n (v ∷ vs) k u puts h = strangers voters from n vs k u (cast_of from n v.t v.outcome ∷ puts) h ∙ one ((n == k) && (v.t == u))
  where
    one : (b : Bool) → cons_option (cond b (option_map (λ (q : ℕ). (q, v.outcome)) (voter_of voters from)) None) (cast_on voters k u puts) ≡ cast_on voters k u puts
    one false = refl
    one true = ap (λ (q : Option ℕ). cons_option (option_map (λ (p : ℕ). (p, v.outcome)) q) (cast_on voters k u puts)) h

-- VOTES OF A MESSAGE

newblock_votes : (rules : Rules) (me k u : ℕ) (from : Node) (m : NewBlock) → votes_from rules me k u from (message.NewBlock m) ≡ []
newblock_votes rules me k u (Peer p) m = refl
newblock_votes rules me k u (Orderer o) m = refl

own_votes : (rules : Rules) (me k u : ℕ) (from : Node) (c : Commit) → is_me me from ≡ true → votes_from rules me k u from (message.Commit c) ≡ []
own_votes rules me k u (Orderer o) c h = refl
own_votes rules me k u (Peer p) c h = rw h (one (nat_lt p (length rules.table.peers)))
  where
    one : (b : Bool) → cond {A = List (ℕ × Outcome)} ((b && false) && (c.n == k)) (map (λ o. (p, o)) (reverse (log.outcomes_on u c.votes))) [] ≡ []
    one true = refl
    one false = refl

commit_votes : (rules : Rules) (me : ℕ) (from : Node) (c : Commit) (puts : List Cast) → is_me me from ≡ false → (k u : ℕ)
    → cast_on (count_from 0 (length rules.table.peers)) k u (with_casts from c.n c.votes puts) ≡ votes_from rules me k u from (message.Commit c) ++ cast_on (count_from 0 (length rules.table.peers)) k u puts
commit_votes rules me (Orderer o) c puts h k u = strangers (count_from 0 (length rules.table.peers)) (Orderer o) c.n c.votes k u puts refl
commit_votes rules me (Peer p) c puts h k u = rw h (one (nat_lt p (length rules.table.peers)) (voters_are (length rules.table.peers) p))
  where
    voters : List ℕ
    voters = count_from 0 (length rules.table.peers)

    said : List (ℕ × Outcome)
    said = map (λ o. (p, o)) (reverse (log.outcomes_on u c.votes))

    one : (b : Bool) → contains voters p ≡ b → cast_on voters k u (with_casts (Peer p) c.n c.votes puts) ≡ cond ((b && true) && (c.n == k)) said [] ++ cast_on voters k u puts
    one true e = heard_is voters p c.n c.votes k u puts e
    one false e = strangers voters (Peer p) c.n c.votes k u puts (ap (λ (b : Bool). cond b (Some p) None) e)

-- HEARING

abbrev pub with_heard : KeptPeer → inbox.KeptNewBlocks → book.KeptVotes → KeptPeer
with_heard p i b = record { table = p.table; me = p.me; inbox = i; book = b; ledger = p.ledger; state = p.state; force = p.force; work = p.work; halted = p.halted }

pub heard_by : (p : KeptPeer) (i : inbox.KeptNewBlocks) (b : book.KeptVotes) (e : Letter)
    → ((rules : Rules) (K : Log) → newblocks.InboxStandsFor p.inbox rules K → newblocks.InboxStandsFor i rules (e ∷ K))
    → ((genesis : State) (puts : List Cast) → BookStandsFor p.book (voters_of p) puts → (more : List Cast) × BookStandsFor b (voters_of p) more × IsHeard (rules_for p genesis) p.me e (cast_by p puts) (cast_by p more))
    → HearsOf e p (with_heard p i b)
heard_by p i b e stands votes workers genesis K running s =
    let parts = s.parts running in
    let v = votes genesis parts.puts parts.book_stands in
    record {
      me_is = refl;
      running = running;
      voter = s.voter;
      puts = v.0;
      inbox_stands = stands (rules_for p genesis) K parts.inbox_stands;
      book_stands = v.1;
      mid = start (rules_for p genesis) (rules_local (table_of p.table) genesis) p.me e K (cast_by p parts.puts) (cast_by p v.0) (done_of p) (option_map opened_of p.work) parts.stands v.2;
      state_is = s.state_is;
      force_is = s.force_is;
      own_are = parts.own_are;
      traced = subst (λ xs. AreTraced p.table.kind workers xs []) (sym (runs_start (rules_for p genesis) (rules_local (table_of p.table) genesis) p.me e K)) tt;
    }

pub heard_newblock : (p : KeptPeer) (i : inbox.KeptNewBlocks) (from : Node) (m : NewBlock) → ((rules : Rules) (K : Log) → newblocks.InboxStandsFor p.inbox rules K → newblocks.InboxStandsFor i rules (newblocks.letter_of from m ∷ K))
    → HearsOf (letter_from from (message.NewBlock m)) p (with_heard p i p.book)
heard_newblock p i from m stands = heard_by p i p.book (letter_from from (message.NewBlock m)) stands
    (λ genesis puts s. (puts, s, λ n t. ap (λ (xs : List (ℕ × Outcome)). xs ++ cast_by p puts n t) (sym (newblock_votes (rules_for p genesis) p.me n t from m))))

pub heard_commit : (p : KeptPeer) (b : book.KeptVotes) (from : Node) (c : Commit) → is_me p.me from ≡ false → newblocks.CommitsLeaveIt → ((voters : List ℕ) (puts : List Cast) → BookStandsFor p.book voters puts → BookStandsFor b voters (with_casts from c.n c.votes puts))
    → HearsOf (letter_from from (message.Commit c)) p (with_heard p p.inbox b)
heard_commit p b from c other law stands = heard_by p p.inbox b (letter_from from (message.Commit c)) (λ rules K s. law p.inbox rules K from c s)
    (λ genesis puts s. (with_casts from c.n c.votes puts, stands (voters_of p) puts s, λ n t. commit_votes (rules_for p genesis) p.me from c puts other n t))

pub heard_own : (p : KeptPeer) (from : Node) (c : Commit) → is_me p.me from ≡ true → newblocks.CommitsLeaveIt → HearsOf (letter_from from (message.Commit c)) p p
heard_own p from c own law = heard_by p p.inbox p.book (letter_from from (message.Commit c)) (λ rules K s. law p.inbox rules K from c s)
    (λ genesis puts s. (puts, s, λ n t. ap (λ (xs : List (ℕ × Outcome)). xs ++ cast_by p puts n t) (sym (own_votes (rules_for p genesis) p.me n t from c own))))

-- NOTES

pub noted_newblock : (p : KeptPeer) (from : Node) (m : NewBlock) (answer : NewBlockPut) → ((rules : Rules) (K : Log) → newblocks.InboxStandsFor p.inbox rules K → answer ≡ newblocks.answer_to_newblock rules K (newblocks.orderer_of (length rules.table.orderers) from) m)
    → NotesOf from (message.NewBlock m) p (put_note answer)
noted_newblock p from m answer h genesis K running s = ap put_note (h (rules_for p genesis) K (s.parts running).inbox_stands) ∙ newblock_noted (rules_for p genesis) p.me K from m

pub noted_commit : (p : KeptPeer) (from : Node) (c : Commit) (new : Bool) → is_me p.me from ≡ false → ((voters : List ℕ) (puts : List Cast) → BookStandsFor p.book voters puts → new ≡ any_new voters from c.n c.votes puts)
    → NotesOf from (message.Commit c) p (votes_note (length p.table.peers) from new)
noted_commit p from c new other h genesis K running s =
    let parts = s.parts running in
    commit_noted (rules_for p genesis) p.me K from c parts.puts new (voters_are (length p.table.peers)) other parts.stands.senders (h (voters_of p) parts.puts parts.book_stands)

pub noted_own : (p : KeptPeer) (from : Node) (c : Commit) → is_me p.me from ≡ true → NotesOf from (message.Commit c) p (votes_note (length p.table.peers) from false)
noted_own p from c own genesis K running s = own_noted (rules_for p genesis) p.me K from c own
