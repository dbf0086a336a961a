-- What the check of `number` leaves to show.
use Rattle.std.proofs.Common.{◌≡◌, ◌∙◌, sym, arith}
use Rattle.std.proofs.lemmas.Fmt.{decimal_injective}
use Rattle.par_words.proofs.number.number.Goals as goal

pub returns-else-low-number : goal.returns-else-low-number
returns-else-low-number c n range same =
    let is : n ≡ c.in_ok-number.number = decimal_injective n c.in_ok-number.number (omega (arith, range.1, c.ranges.high.fits)) (omega arith) (sym same ∙ c.in_ok-number.ensures) in
    omega (arith, is, range.0, range.1, c.else-low-number.either)
