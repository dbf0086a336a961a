-- What the check of `is_taken` leaves to show.
use Rattle.std.proofs.Common.{◌∙◌}
use Rattle.doc_tables.proofs.Mapped.{any_named}
use Rattle.doc_tables.proofs.apps.is_taken.Goals as goal

pub returns : goal.returns
returns c = c.some_is_named.ensures ∙ any_named c.args.before.now c.args.text.now
