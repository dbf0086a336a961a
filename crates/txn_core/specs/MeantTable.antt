-- What the table stands for.
use Rattle.std.specs.Prelude.{map}
use Rattle.oxii_defs.specs.Table as meant
use Rattle.txn_core.specs.declared.table.Table.{Table}
use Rattle.txn_core.specs.declared.table.App.{App}
use Rattle.txn_core.specs.Meant.{op_of}

abbrev pub app_of : App → meant.App
app_of app = record { name = app.name; agents = app.agents; tau = app.tau; clients = app.clients; ops = map op_of app.ops }

abbrev pub table_of : Table → meant.Table
table_of table = record { kind = table.kind; records = table.records; orderers = table.orderers; quorum = table.quorum; peers = table.peers; apps = map app_of table.apps }
