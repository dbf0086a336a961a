-- What the program holds of a document, and of its parts.
use Rattle.std.specs.Prelude.{map}
use Rattle.txn_core.specs.MeantTable.{app_of, table_of}
use Rattle.input_doc.specs.Inputs as meant
use Rattle.input_doc.specs.Reading as reading
use Rattle.input_doc.specs.declared.input.Input.{Input}
use Rattle.input_doc.specs.declared.tables.Tables.{Tables}

abbrev pub tables_of : Tables → reading.Tables
tables_of tables = record {
  table = record { kind = tables.kind; records = tables.records.names; orderers = tables.nodes.orderers; quorum = tables.nodes.quorum; peers = tables.nodes.peers; apps = map app_of tables.apps };
  genesis = tables.records.values;
}

abbrev pub input_of : Input → meant.Input
input_of input = record { table = table_of input.table; genesis = input.genesis; items = input.items; limits = input.limits; faulty = input.faulty; schedule = input.schedule }
