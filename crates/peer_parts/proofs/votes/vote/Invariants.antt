-- What each turn of the loops of `vote` keeps.
use Rattle.std.proofs.Common.{ℕ, List}
use Rattle.vote_book.specs.Puts.{Cast, BookStandsFor}
use Rattle.peer_parts.specs.Voting.{own_upto}
use Rattle.peer_parts.proofs.votes.vote.Given as goal

abbrev pub invariant-loop-t : goal.invariant-loop-t
invariant-loop-t l = (voters : List ℕ) (puts : List Cast) → BookStandsFor l.fn.book voters puts → BookStandsFor l.book voters (own_upto l.me l.n l.own l.before l.after l.t puts)
