-- What each turn of the loops of `hear` keeps.
use Rattle.std.proofs.Common.{◌≡◌, ℕ, List, take}
use Rattle.vote_book.specs.Puts.{Cast, BookStandsFor}
use Rattle.peer_parts.specs.Voting.{with_casts, any_new}
use Rattle.peer_parts.proofs.votes.hear.Given as goal

abbrev pub invariant-loop-vote : goal.invariant-loop-vote
invariant-loop-vote l = record {
  stands : (voters : List ℕ) (puts : List Cast) → BookStandsFor l.fn.book voters puts → BookStandsFor l.book voters (with_casts l.from l.commit.n (take l.vote-index l.vote-items) puts);
  new : (voters : List ℕ) (puts : List Cast) → BookStandsFor l.fn.book voters puts → l.new ≡ any_new voters l.from l.commit.n (take l.vote-index l.vote-items) puts;
}
