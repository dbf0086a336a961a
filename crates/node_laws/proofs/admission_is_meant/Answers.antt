-- What the check of `admission_is_meant` leaves to show.
use Rattle.node_laws.proofs.Admissions.{admission_is_meant as admission_is_meant_law}
use Rattle.node_laws.proofs.admission_is_meant.Goals as goal

pub returns : goal.returns
returns c = admission_is_meant_law
