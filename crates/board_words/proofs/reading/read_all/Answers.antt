-- What the check of `read_all` leaves to show.
use Rattle.std.proofs.Common.{◌≡◌, ◌∙◌, ap, sym, subst, length, arith, get_or, true, false}
use Rattle.txn_types.specs.declared.txn.Txn.{Txn}
use Rattle.board_steps.specs.Abouts.{told}
use Rattle.board_words.proofs.Filling.{txn_there}
use Rattle.board_words.proofs.reading.read_all.Goals as goal

pub read_one-requires-clause-long : goal.read_one-requires-clause-long
read_one-requires-clause-long c = λ cells e.
    let plan = told c.args.about.now in
    let t = c.loop-t.t in
    let own = subst (λ fs. get_or fs t false ≡ true) c.requires.txns.1 c.if-own-t.true in
    let same = ap length c.requires.txns.0 in
    let long = c.requires.txns.2 in
    let x = txn_there c.args.txns.now plan t c.index-txns-t.result c.requires.txns.0 (omega (arith, c.loop-t-test.true)) c.index-txns-t.is in
    c.requires.long t cells own e ∙ ap length (sym (c.as_slice-writes.ensures.items ∙ (ap (λ (y : Txn). y.writes) (sym c.index-txns-t.is) ∙ ap (λ (y : Txn). y.writes) x)))
