-- What the check of `plain_number` leaves to show.
use Rattle.std.proofs.Common.{rules}
use Rattle.par_words.proofs.Numbers.{parsed}
use Rattle.par_words.proofs.number.plain_number.Goals as goal

pub returns : goal.returns
returns c = parsed c.args.text.now c.parse.result c.ok.result (search rules) c.parse.ensures.value.0 c.ok.ensures.value
