-- The sum of a state is that of its values.
use Rattle.std.proofs.Common.{◌≡◌, ℕ, zero, suc, ◌+◌, List, length, get_or, drop, sym, ap, ◌∙◌, arith}
use Rattle.std.specs.List.{sum, sum_by}
use Rattle.std.proofs.lemmas.List.Sums.{sum_by-cons, sum_by-drop_more}
use Rattle.std.proofs.lemmas.List.{drop_all}
use Rattle.oxii_defs.specs.State.{value_in}
use Rattle.node_defs.specs.World.{count_from}
use Rattle.txn_core.specs.States.{state_of}
use Rattle.txn_core.proofs.StateLemmas.{value_of_state}

sum_from : (values : List ℕ) (i n : ℕ) → i + n ≡ length values → sum_by (value_in (state_of values)) (count_from i n) ≡ sum (drop i values)
sum_from values i zero all = ap sum (sym (drop_all i values (omega arith)))
sum_from values i (suc n) all =
    let more = sum_from values (suc i) n (omega arith) in
    let one : suc i ≡ i + 1 = omega arith in
    sum_by-cons (value_in (state_of values)) i (count_from (suc i) n)
    ∙ ap (λ v. v + sum_by (value_in (state_of values)) (count_from (suc i) n)) (value_of_state values i)
    ∙ ap (λ r. get_or values i 0 + r) (more ∙ ap (λ k. sum (drop k values)) one)
    ∙ sym (sum_by-drop_more (λ x. x) values i 0 (omega arith))

pub state_sum : (values : List ℕ) (n : ℕ) → n ≡ length values → sum_by (value_in (state_of values)) (count_from 0 n) ≡ sum values
state_sum values n all = sum_from values 0 n (omega arith)
