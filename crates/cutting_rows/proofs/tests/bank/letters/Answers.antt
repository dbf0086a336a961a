-- What the check of `letters` leaves to show.
use Rattle.std.proofs.Common.{ℕ, List, [], ◌∷◌, ◌++◌, map, ◌+◌, sym, ap, ◌∙◌}
use Rattle.std.specs.List.{range_with_len}
use Rattle.std.proofs.lemmas.List.{map-append}
use Rattle.cutting_rows.proofs.RangeLemmas.{range_push}
use Rattle.cutting_rows.proofs.tests.bank.letters.Goals as goal

pub loop-i-preserved : goal.loop-i-preserved
loop-i-preserved c =
    let i = c.loop-i.i in
    let single : ℕ → List ℕ = λ k. k ∷ [] in
    c.in_ok-push.ensures.ok
    ∙ ap (λ l. l ++ c.name.result ∷ []) c.loop-i.invariant
    ∙ ap (λ (x : List ℕ). map single (range_with_len 97 i) ++ x ∷ []) c.name.ensures
    ∙ sym (ap (map single) (range_push 97 i) ∙ map-append single (range_with_len 97 i) ((97 + i) ∷ []))
