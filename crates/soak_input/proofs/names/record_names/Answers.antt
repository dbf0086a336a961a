-- What the check of `record_names` leaves to show.
use Rattle.std.proofs.Common.{ℕ, List, [], ◌∷◌, ◌++◌, map, sym, ap, ◌∙◌, arith}
use Rattle.std.specs.List.{range_with_len}
use Rattle.std.proofs.lemmas.List.FromFn.{map-range_with_len_more}
use Rattle.soak_input.specs.Generator.{record_name}
use Rattle.soak_input.proofs.names.record_names.Goals as goal

pub loop-number-preserved : goal.loop-number-preserved
loop-number-preserved c =
    let n = c.loop-number.number in
    c.in_ok-push.ensures.ok
    ∙ ap (λ (names : List (List ℕ)). names ++ c.record_name.result ∷ []) c.loop-number.invariant
    ∙ ap (λ (name : List ℕ). map record_name (range_with_len 0 n) ++ name ∷ []) c.record_name.ensures
    ∙ sym (map-range_with_len_more record_name 0 n n (omega arith))
