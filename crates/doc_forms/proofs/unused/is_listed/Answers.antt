-- What the check of `is_listed` leaves to show.
use Rattle.std.proofs.Common.{arith, sym, ◌∙◌}
use Rattle.doc_forms.proofs.Lists.{listed_goes_on, listed_stops, listed_ended}
use Rattle.doc_forms.proofs.unused.is_listed.Goals as goal

pub loop-other-preserved : goal.loop-other-preserved
loop-other-preserved c = listed_goes_on c.args.keys.now c.args.key.now c.loop-other.other-index _ _ c.loop-other-test.true (sym c.eq.ensures ∙ c.if-eq.false) c.loop-other.invariant

pub returns-then-eq : goal.returns-then-eq
returns-then-eq c = listed_stops c.args.keys.now c.args.key.now c.loop-other.other-index _ _ c.loop-other-test.true (sym c.eq.ensures ∙ c.if-eq.true) c.loop-other.invariant

pub returns : goal.returns
returns c = listed_ended c.args.keys.now c.args.key.now c.loop-other.other-index _ (omega arith) c.loop-other.invariant
