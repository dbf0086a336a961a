-- What the check of `versions_are_kept` leaves to show.
use Rattle.script_laws.proofs.VersionsKept.{versions_kept}
use Rattle.script_laws.proofs.versions_are_kept.Goals as goal

pub returns : goal.returns
returns c = versions_kept
