-- What the check of `hear` leaves to show.
use Rattle.std.proofs.Common.{◌≡◌, ◌<◌, ◌+◌, ◌∷◌, ◌++◌, [], length, take, sym, ◌∙◌, ap, subst, arith}
use Rattle.std.specs.Prelude.{◌||◌}
use Rattle.std.proofs.lemmas.List.{take_more, take_all}
use Rattle.vote_book.specs.Puts.{BookStandsFor, answer_to_vote, voter_of, cast_on}
use Rattle.peer_parts.specs.Voting.{with_casts, any_new, is_counted}
use Rattle.peer_parts.proofs.VotingLemmas.{casts_push, new_push}
use Rattle.peer_parts.proofs.votes.hear.Goals as goal

pub loop-vote-preserved : goal.loop-vote-preserved
loop-vote-preserved c =
    let vs = c.as_slice-vote-items.result.now in
    let i = c.loop-vote.vote-index in
    let v = c.vote-item.result in
    let n = c.args.commit.now.n in
    let l : i < length vs = omega arith in
    let more : take (i + 1) vs ≡ take i vs ++ v ∷ [] = take_more vs i v l ∙ ap (λ y. take i vs ++ y ∷ []) (sym c.vote-item.is) in
    record {
      stands = λ voters puts s.
          subst (BookStandsFor c.put.new.self voters) (sym (ap (λ us. with_casts c.args.from n us puts) more ∙ casts_push c.args.from n (take i vs) v puts))
          (c.in_ok-put.ensures.stands voters (with_casts c.args.from n (take i vs) puts) (c.loop-vote.invariant.stands voters puts s));
      new = λ voters puts s.
          ap (λ b. b || c.loop-vote.new) (c.is_counted-new.ensures ∙ ap is_counted (c.in_ok-put.ensures.answer voters (with_casts c.args.from n (take i vs) puts) (c.loop-vote.invariant.stands voters puts s)))
          ∙ (ap (λ b. is_counted (answer_to_vote (voter_of voters c.args.from) (cast_on voters n v.t (with_casts c.args.from n (take i vs) puts))) || b) (c.loop-vote.invariant.new voters puts s) ∙ sym (ap (λ us. any_new voters c.args.from n us puts) more ∙ new_push voters c.args.from n (take i vs) v puts));
    }

pub returns-clause-stands : goal.returns-clause-stands
returns-clause-stands c = λ voters puts s.
    let vs = c.as_slice-vote-items.result.now in
    subst (BookStandsFor c.loop-vote.book voters) (ap (λ us. with_casts c.args.from c.args.commit.now.n us puts) (take_all c.loop-vote.vote-index vs (omega arith) ∙ c.as_slice-vote-items.ensures)) (c.loop-vote.invariant.stands voters puts s)
