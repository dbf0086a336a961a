-- What the check of `put_known` leaves to show.
use Rattle.std.proofs.Common.{ap}
use Rattle.std.specs.Prelude.{is_some}
use Rattle.board_words.proofs.versions.put_known.Goals as goal

pub returns-in-Some-clause-others : goal.returns-in-Some-clause-others
returns-in-Some-clause-others c = λ i other. c.put_versions.ensures.others i (λ j l. other j (ap is_some c.in-Some.is) l)
