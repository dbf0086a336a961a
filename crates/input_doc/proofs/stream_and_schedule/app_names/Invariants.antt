-- What each turn of the loops of `app_names` keeps.
use Rattle.std.proofs.Common.{◌≡◌, map, take}
use Rattle.txn_core.specs.MeantTable.{app_of}
use Rattle.input_doc.proofs.stream_and_schedule.app_names.Given as goal

abbrev pub invariant-loop-app : goal.invariant-loop-app
invariant-loop-app l = l.names ≡ map (λ app. app.name) (map app_of (take l.app-index l.apps))
