-- What the check of `stream_table` leaves to show.
use Rattle.std.proofs.Common.{map}
use Rattle.txn_core.specs.MeantTable.{app_of}
use Rattle.cutting_rows.proofs.StreamTable.{lawful_parts}
use Rattle.cutting_rows.proofs.tests.bank.stream_table.Goals as goal

pub returns : goal.returns
returns c =
    lawful_parts c.in_ok-letters.field-0 c.in_ok-only.field-0 c.in_ok-peers.field-0 (map app_of c.in_ok-apps.field-0)
    c.in_ok-letters.ensures c.in_ok-only.ensures c.in_ok-peers.ensures c.in_ok-apps.ensures
