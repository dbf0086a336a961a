-- What the check of `soak_matches` leaves to show.
use Rattle.std.proofs.Common.{◌≡◌}
use Rattle.clap.specs.Words.{app_of, found_of}
use Rattle.par_words.specs.CommandOptions.{soak_app}
use Rattle.par_words.proofs.FoundValues.{soak_answer}
use Rattle.par_words.proofs.soak.soak_matches.Goals as goal

pub returns : goal.returns
returns c =
    let is : app_of c.in_ok-command.command ≡ soak_app = c.in_ok-command.ensures in
    soak_answer found_of _ _ is _ c.find.ensures
