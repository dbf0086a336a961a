-- What the check of `read_exactly` leaves to show.
use Rattle.std.proofs.Common.{◌≡◌, ◌≤◌, ◌||◌, Bool, true, false, length, refl, sym, ◌∙◌, arith}
use Rattle.contract_grammar.specs.Lexer.{tokens}
use Rattle.contract_grammar.specs.Limits.{passes}
use Rattle.contract_grammar.specs.Reading.{ends_chain, reading}
use Rattle.contract_reader.specs.Views.{at_of}
use Rattle.contract_reader.specs.Counted.{tally_of}
use Rattle.contract_reader.proofs.Small.{none_small, small_more}
use Rattle.contract_reader.proofs.Turns.{refused, limited, turn, at_the_end}
use Rattle.contract_reader.proofs.reader.read_exactly.Goals as goal
use Rattle.contract_reader.proofs.reader.read_exactly.Goals.{then-over-via-then-over, then-over-via-else-over+then-ends_chain}

either_true : (a b : Bool) → b ≡ true → (a || b) ≡ true
either_true true b h = refl
either_true false b h = h

first_true : (a b : Bool) → a ≡ true → (a || b) ≡ true
first_true a b h = rw h refl

both_false : (a b : Bool) → a ≡ false → b ≡ false → (a || b) ≡ false
both_false a b h g = rw (h, g) refl

pub loop-placed-init : goal.loop-placed-init
unfolding reading
loop-placed-init c = record { small = rw c.new-counts.ensures none_small; left = rw (c.new-counts.ensures, c.new.ensures.items, c.new-2.ensures) refl }

pub returns-in-Err-Syntax : goal.returns-in-Err-Syntax
returns-in-Err-Syntax c =
    let same = c.as_slice-placed-items.ensures ∙ c.in-Ok.ensures in
    refused (tokens c.args.text.now) c.loop-placed.placed-index c.placed-item.result (rw same at c.loop-placed-test.true) (rw same at c.placed-item.is)
    (at_of c.loop-placed.mode c.loop-placed.nest) (tally_of c.loop-placed.counts) (length c.args.text.now) (reading c.args.text.now) c.loop-placed.invariant.left (rw c.in-Err-Syntax.field-0-is at c.in-Err-Syntax.ensures)

pub returns-then-over : goal.returns-then-over
returns-then-over c =
    let same = c.as_slice-placed-items.ensures ∙ c.in-Ok.ensures in
    let a = at_of c.in-Ok-advance.next c.advance.new.nest in
    let over : (passes (tally_of c.loop-placed.counts) c.placed-item.result || ends_chain a.mode) ≡ true = elim c.then-over.branch [
      | then-over-via-then-over w ↦ first_true _ _ (sym c.passes-over.ensures ∙ w.if-over.true)
      | then-over-via-else-over+then-ends_chain w ↦ either_true _ _ (sym w.ends_chain.ensures ∙ w.if-ends_chain.true)
    ] in
    limited (tokens c.args.text.now) c.loop-placed.placed-index c.placed-item.result (rw same at c.loop-placed-test.true) (rw same at c.placed-item.is)
    (at_of c.loop-placed.mode c.loop-placed.nest) (tally_of c.loop-placed.counts) (length c.args.text.now) (reading c.args.text.now) c.loop-placed.invariant.left a c.in-Ok-advance.ensures over

pub loop-placed-preserved : goal.loop-placed-preserved
loop-placed-preserved c =
    let same = c.as_slice-placed-items.ensures ∙ c.in-Ok.ensures in
    let a = at_of c.in-Ok-advance.next c.advance.new.nest in
    let good = sym c.passes-over.ensures ∙ c.if-over.false in
    let within = both_false (passes (tally_of c.loop-placed.counts) c.placed-item.result) (ends_chain a.mode) good (sym c.ends_chain.ensures ∙ c.if-ends_chain.false) in
    rw c.in-Ok-count.ensures (record {
      small = small_more (tally_of c.loop-placed.counts) c.placed-item.result c.loop-placed.placed-index c.loop-placed.invariant.small good;
      left = turn (tokens c.args.text.now) c.loop-placed.placed-index c.placed-item.result (rw same at c.loop-placed-test.true) (rw same at c.placed-item.is)
          (at_of c.loop-placed.mode c.loop-placed.nest) (tally_of c.loop-placed.counts) (length c.args.text.now) (reading c.args.text.now) c.loop-placed.invariant.left a c.in-Ok-advance.ensures within;
    })

pub returns : goal.returns
returns c =
    let same = c.as_slice-placed-items.ensures ∙ c.in-Ok.ensures in
    let le : length c.as_slice-placed-items.result.now ≤ c.loop-placed.placed-index = omega arith in
    let is = at_the_end (tokens c.args.text.now) c.loop-placed.placed-index (at_of c.loop-placed.mode c.loop-placed.nest) (tally_of c.loop-placed.counts) (length c.args.text.now) (reading c.args.text.now) (rw same at le) c.loop-placed.invariant.left in
    rw is c.end.ensures
