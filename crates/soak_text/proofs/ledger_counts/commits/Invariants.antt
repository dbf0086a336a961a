-- What each turn of the loops of `commits` keeps.
use Rattle.std.proofs.Common.{◌≡◌, ◌≤◌, ◌*◌, take}
use Rattle.std.specs.List.{sum_by, count_by}
use Rattle.soak_text.specs.Summary.{is_commit}
use Rattle.soak_text.proofs.ledger_counts.commits.Given as goal

abbrev pub invariant-loop-i : goal.invariant-loop-i
invariant-loop-i l = (l.count ≡ sum_by (λ e. count_by is_commit e.outcomes) (take l.i l.ledger)) × (l.count ≤ l.i * 18446744073709551616)
