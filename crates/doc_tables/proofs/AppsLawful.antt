-- Applications that a document says are lawful for each table with its peers.
use Rattle.std.proofs.Common.{ℕ, List, length, arith}
use Rattle.std.specs.List.{All}
use Rattle.serde_json.specs.Data.{Data, Members}
use Rattle.txn_types.specs.Names.{IsName}
use Rattle.oxii_defs.specs.Table.{App, Table}
use Rattle.oxii_defs.specs.Lawful.{IsUpTo, IsLawfulApp}
use Rattle.contract_text.proofs.Accepted.{accepted_lawful}
use Rattle.doc_forms.specs.Meaning.{SaysName}
use Rattle.doc_forms.proofs.SortedOnce.{all_of}
use Rattle.doc_forms.proofs.SetsMeant.{length_of_said, said_of}
use Rattle.doc_forms.proofs.AgentsMeant.{agents_lawful}
use Rattle.doc_tables.specs.AppsMeaning.{SaysApp, SaysApps}

-- each application that the document says
app_lawful : (table : Table) (d : Data) (app : App) → SaysApp table.peers d app → IsLawfulApp table app
app_lawful table d app s =
    let ops = accepted_lawful s.contract.text app.ops s.contract.is_contract in
    record {
      named = s.name.1;
      agents = agents_lawful table s.members app.agents app.tau s.agents;
      clients = omega (arith, length_of_said SaysName s.clients.list.items app.clients s.clients.list.each, s.clients.list.most);
      clients_named = all_of IsName app.clients (λ x h. (said_of SaysName s.clients.list.items app.clients x s.clients.list.each h).1.1);
      client_names = s.clients.differ;
      ops = ops.count;
      ops_named = ops.named;
      op_names = ops.names;
      well_formed = ops.fine;
    }

-- the applications that a document says of these peers are those of a lawful table
pub apps_lawful : (table : Table) (ms : Members) (apps : List App) → SaysApps table.peers ms apps → IsUpTo 16 (length apps) × All (IsLawfulApp table) apps
apps_lawful table ms apps s =
    let count = length_of_said (SaysApp table.peers) s.list.items apps s.list.each in (
      (omega (arith, count, s.list.least), omega (arith, count, s.list.most)),
      all_of (IsLawfulApp table) apps (λ app h. let said = said_of (SaysApp table.peers) s.list.items apps app s.list.each h in app_lawful table said.0 app said.1),
    )
