-- The block in work, as its fields go together.
use Rattle.std.specs.Prelude.{ℕ, ◌≡◌, ◌+◌, map, List, [], length, replicate, get_or, Option, Some, None}
use Rattle.txn_types.specs.declared.txn.Outcome.{Outcome}
use Rattle.txn_types.specs.declared.message.Commit.{Commit}
use Rattle.oxii_defs.specs.State.{State}
use Rattle.node_defs.specs.Rules.{Rules}
use Rattle.vote_book.specs.Ballots.{KeptVotes}
use Rattle.vote_book.specs.Puts.{Cast, BookStandsFor, cast_on}
use Rattle.peer_laws.specs.Turns.{found_upto, votes_found, VotesPut, Cut}
use Rattle.peer_parts.specs.Judging.{AreAgreedBy}
use Rattle.oxii_defs.specs.Table.{Table}
use Rattle.oxii_defs.specs.Lawful.{IsLawfulBlock}
use Rattle.txn_core.specs.Graphs.{IsGraphOf}
use Rattle.commit_batches.specs.Held.{IsFor}
use Rattle.hash_ledger.specs.declared.entry.Entry.{Entry}
use Rattle.hash_ledger.specs.Ledgers.{tip_of}
use Rattle.board_defs.specs.Closure.{IsKnownClosed}
use Rattle.board_defs.specs.Trace.{IsLawfulTrace}
use Rattle.board_work.specs.declared.plan.Span.{Span}
use Rattle.board_work.specs.Spans.{span_of}
use Rattle.steal_pool.specs.Fitting.{AllFitAt}
use Rattle.peer_parts.specs.Ready.{ran_between}
use Rattle.peer_work.specs.declared.opened.Opened.{Opened}

-- a lawful block with its graph, and an entry for each of its positions; what is known fits, and what it depends on is known
pub record IsWhole (table : Table) (o : Opened) : Type 0 where
  pub lawful : IsLawfulBlock table o.block
  pub graph : IsGraphOf o.block.txns o.graph
  pub kind : o.graph.kind ≡ table.kind
  pub own : length o.own ≡ length o.block.txns
  pub known : length o.known ≡ length o.block.txns
  pub fits : AllFitAt o.block.txns o.known
  pub closed : IsKnownClosed table.kind o.block.txns o.known
  pub held : IsFor o.held o.block.number

-- the next block after a ledger
pub record IsWellOpened (table : Table) (ledger : List Entry) (o : Opened) : Type 0 where
  pub whole : IsWhole table o
  pub number : o.block.number ≡ length ledger + 1
  pub linked : o.block.prev ≡ tip_of ledger

-- nothing is known or held
pub record IsFresh (o : Opened) : Type 0 where
  pub long : length o.own ≡ length o.block.txns
  pub known : o.known ≡ replicate (length o.block.txns) None
  pub held : o.held.votes ≡ []

-- all that runs and votes give is known
abbrev pub IsFoundAs : Rules → ℕ → ℕ → List ℕ → List Cast → State → Opened → List (Option Outcome) → Type 0
IsFoundAs r me n voters puts base o known = known ≡ found_upto r me o.block.txns base (votes_found r o.block n (λ k u. cast_on voters k u puts)) (length o.block.txns)

-- what a peer found of its block, with its votes put, held and cut
pub record WorkDone (r : Rules) (me n : ℕ) (voters : List ℕ) (puts : List Cast) (base : State) (old new : Opened) (book : KeptVotes) (sent_old sent_new : List Commit) (agreed : List (Option Outcome)) : Type 0 where
  pub more : List Cast
  pub stands : BookStandsFor book voters more
  pub known : new.known ≡ found_upto r me old.block.txns base (votes_found r old.block n (λ k u. cast_on voters k u puts)) (length old.block.txns)
  pub votes : VotesPut r me old.block n old.known new.known (λ k u. cast_on voters k u puts) (λ k u. cast_on voters k u more)
  pub cut : Cut r me n old.block old.known new.known old.held.votes new.held.votes sent_old sent_new
  pub agreed_are : AreAgreedBy r n old.block.txns voters more agreed

-- the spans are a lawful trace of this peer's positions that have just become known
abbrev pub IsTraced : Table → ℕ → Opened → Opened → List Span → Type 0
IsTraced table workers old new spans = IsLawfulTrace table.kind old.block.txns workers (ran_between old.own old.known new.known (length old.block.txns)) (map span_of spans)

-- what was known is found
abbrev pub IsFound : Rules → ℕ → ℕ → List ℕ → List Cast → State → Opened → Type 0
IsFound r me n voters puts base o = (t : ℕ) (x : Outcome) → get_or o.known t None ≡ Some x → get_or (found_upto r me o.block.txns base (votes_found r o.block n (λ k u. cast_on voters k u puts)) (length o.block.txns)) t None ≡ Some x
