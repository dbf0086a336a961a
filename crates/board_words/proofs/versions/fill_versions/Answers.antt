-- What the check of `fill_versions` leaves to show.
use Rattle.std.proofs.Common.{◌∙◌, subst, arith}
use Rattle.board_words.proofs.Filling.{txn_is, known_is_at}
use Rattle.board_words.proofs.EarlyVersions.{SetsOne, known_put, known_others}
use Rattle.board_words.proofs.versions.fill_versions.Goals as goal

pub loop-t-preserved : goal.loop-t-preserved
loop-t-preserved c =
    let i = c.loop-t.invariant in
    let t = c.loop-t.t in
    let txns = c.args.txns.now in
    let known = c.args.known.now in
    let before = c.loop-t.words.items in
    let after = c.put_known.new.words.items in
    let x = txn_is txns t c.index-txns-t.result c.loop-t-test.true c.index-txns-t.is in
    let k = known_is_at known t c.index-known-t.result (omega (arith, c.loop-t-test.true, c.requires.long.0)) c.index-known-t.is in
    let one : SetsOne before after t c.index-txns-t.result c.index-known-t.result = record { put = c.put_known.ensures.put; others = c.put_known.ensures.others } in
    let there = subst (SetsOne before after t _) k (subst (λ y. SetsOne before after t y c.index-known-t.result) x one) in (
      c.put_known.ensures.same ∙ i.0,
      known_put before after txns known t c.requires.writes there i.1,
      known_others before after txns known t c.requires.writes there c.args.words.now.items i.2,
    )

pub returns-clause-others : goal.returns-clause-others
returns-clause-others c = λ i other. c.loop-t.invariant.2 i (λ x j l some lj. other x j some lj)
