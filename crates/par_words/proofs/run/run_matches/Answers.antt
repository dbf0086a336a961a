-- What the check of `run_matches` leaves to show.
use Rattle.std.proofs.Common.{◌≡◌}
use Rattle.clap.specs.Words.{app_of, found_of}
use Rattle.par_words.specs.CommandOptions.{run_app}
use Rattle.par_words.proofs.FoundValues.{run_answer}
use Rattle.par_words.proofs.run.run_matches.Goals as goal

pub returns : goal.returns
returns c =
    let is : app_of c.in_ok-command.command ≡ run_app = c.in_ok-command.ensures in
    run_answer found_of _ _ is _ c.find.ensures
