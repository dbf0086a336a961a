-- What the check of `numbered_names` leaves to show.
use Rattle.std.proofs.Common.{ℕ, ◌+◌, List, [], ◌∷◌, ◌++◌, map, sym, ap, ◌∙◌, arith}
use Rattle.std.specs.List.{range_with_len}
use Rattle.std.proofs.lemmas.List.FromFn.{map-range_with_len_more}
use Rattle.soak_input.specs.Generator.{numbered}
use Rattle.soak_input.proofs.names.numbered_names.Goals as goal

pub loop-i-preserved : goal.loop-i-preserved
loop-i-preserved c =
    let i = c.loop-i.i in
    let name = numbered (c.args.letter ∷ []) in
    c.in_ok-push.ensures.ok
    ∙ ap (λ (names : List (List ℕ)). names ++ c.numbered.result ∷ []) c.loop-i.invariant
    ∙ ap (λ (one : List ℕ). map name (range_with_len 1 i) ++ one ∷ []) c.numbered.ensures
    ∙ sym (map-range_with_len_more name 1 i (i + 1) (omega arith))
