-- What the check of `vote_one` leaves to show.
use Rattle.std.proofs.Common.{◌++◌, sym, ◌∙◌, subst}
use Rattle.vote_book.specs.Puts.{BookStandsFor}
use Rattle.peer_parts.proofs.VotingLemmas.{ran_cast}
use Rattle.peer_parts.proofs.votes.vote_one.Goals as goal

pub returns-in_ok-put : goal.returns-in_ok-put
returns-in_ok-put c = λ voters puts s.
    subst (λ ps. BookStandsFor c.put.new.self voters (ps ++ puts)) (ran_cast c.args.me c.args.n c.args.t c.args.own c.args.before.now c.args.after.now c.in-Some.outcome c.if-not-own.false (sym c.is_some.ensures ∙ c.if-is_some.false) c.in-Some.is) (c.in_ok-put.ensures.stands voters puts s)
