-- What the check of `verdicts_are_meant` leaves to show.
use Rattle.contract_text.proofs.Judged.{verdict_meant}
use Rattle.contract_text.proofs.laws.verdicts_are_meant.Goals as goal

pub returns : goal.returns
returns c = record { law = verdict_meant }
