-- What the check of `vote` leaves to show.
use Rattle.std.proofs.Common.{◌≡◌, ◌<◌, List, Bool, Option, None, false, length, get_or, ◌∙◌, ap, subst, arith}
use Rattle.std.proofs.lemmas.List.{get_or_default}
use Rattle.txn_types.specs.declared.txn.Outcome.{Outcome}
use Rattle.vote_book.specs.Puts.{BookStandsFor}
use Rattle.peer_parts.specs.Voting.{own_upto}
use Rattle.peer_parts.proofs.VotingLemmas.{own_more}
use Rattle.peer_parts.proofs.votes.vote.Goals as goal

pub loop-t-preserved : goal.loop-t-preserved
loop-t-preserved c = λ voters puts s.
    let t = c.loop-t.t in
    let n = c.args.n in
    let own = c.args.own.now in
    let before = c.args.before.now in
    let after = c.args.after.now in
    let l : t < length own = omega (arith, c.len-t-end.ensures) in
    let y : c.index-as_slice-t.result ≡ get_or before t None = c.index-as_slice-t.is ∙ (ap (λ (xs : List (Option Outcome)). get_or xs t c.index-as_slice-t.result) c.as_slice-in-loop-t.ensures ∙ get_or_default before t c.index-as_slice-t.result None (omega (arith, l, c.requires.before))) in
    let z : c.index-as_slice-t-in-loop-t.result ≡ get_or after t None = c.index-as_slice-t-in-loop-t.is ∙ (ap (λ (xs : List (Option Outcome)). get_or xs t c.index-as_slice-t-in-loop-t.result) c.as_slice-in-loop-t-2.ensures ∙ get_or_default after t c.index-as_slice-t-in-loop-t.result None (omega (arith, l, c.requires.after))) in
    subst (BookStandsFor c.vote_one.new.book voters) (own_more c.args.me n own before after t puts (get_or c.as_slice.result.now t false) c.index-as_slice-t.result c.index-as_slice-t-in-loop-t.result (ap (λ (xs : List Bool). get_or xs t false) c.as_slice.ensures) y z)
    (c.in_ok-vote_one.ensures voters (own_upto c.args.me n own before after t puts) (c.loop-t.invariant voters puts s))

pub returns : goal.returns
returns c = λ voters puts s.
    let e : c.loop-t.t ≡ length c.args.own.now = omega (arith, c.len-t-end.ensures) in
    subst (λ k. BookStandsFor c.loop-t.book voters (own_upto c.args.me c.args.n c.args.own.now c.args.before.now c.args.after.now k puts)) e (c.loop-t.invariant voters puts s)
