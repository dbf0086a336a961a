-- What the check of `first_records` leaves to show.
use Rattle.std.proofs.Common.{ℕ, ◌+◌, ◌<◌, ◌≤◌, [], ◌∷◌, ◌++◌, length, sym, ap, ◌∙◌, subst, zero-add, arith}
use Rattle.std.specs.List.{All, range_with_len}
use Rattle.std.proofs.lemmas.List.Elements.{All-from_recursion}
use Rattle.txn_types.specs.Rising.{IsRising}
use Rattle.cutting_rows.proofs.RangeLemmas.{range_push, rising_range, range_below}
use Rattle.cutting_rows.proofs.tests.stream.first_records.Goals as goal

pub loop-number-preserved : goal.loop-number-preserved
loop-number-preserved c =
    let i = c.loop-number.number in
    c.in_ok-push.ensures.ok
    ∙ ap (λ l. l ++ i ∷ []) c.loop-number.invariant
    ∙ sym (range_push 0 i ∙ ap (λ (k : ℕ). range_with_len 0 i ++ k ∷ []) (zero-add i))

pub returns : goal.returns
returns c =
    let i = c.loop-number.number in
    let count = length c.args.table.now.records in
    let inside : 0 + i ≤ count = omega arith in
    record {
      rising = subst IsRising (sym c.loop-number.invariant) (rising_range 0 i);
      known = subst (All (λ r. r < count)) (sym c.loop-number.invariant) (All-from_recursion (λ r. r < count) (range_with_len 0 i) (range_below 0 i count inside));
    }
