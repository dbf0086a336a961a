-- What a document's tables and stream are lawful for.
use Rattle.std.proofs.Common.{◌≡◌, ◌≤◌, List, [], length, Result, Ok, refl, subst, arith}
use Rattle.std.specs.Prelude.{codes}
use Rattle.std.proofs.lemmas.List.{length-map}
use Rattle.std.specs.List.{All}
use Rattle.serde_json.specs.Data.{Members}
use Rattle.serde_json.specs.Find.{get_member}
use Rattle.txn_types.specs.Values.{IsValue}
use Rattle.txn_types.specs.declared.txn.Kind.{Kind}
use Rattle.txn_types.specs.declared.stream.Item.{Item}
use Rattle.oxii_defs.specs.Table.{Table}
use Rattle.oxii_defs.specs.Lawful.{IsLawfulTable}
use Rattle.node_defs.specs.LawfulItems.{IsLawfulItem}
use Rattle.contract_text.specs.Verdict.{verdict}
use Rattle.doc_forms.specs.declared.fault.Which.TheVariants as word
use Rattle.doc_forms.specs.Faults.{Fault}
use Rattle.doc_forms.specs.Forms.{list_at, number_at}
use Rattle.doc_forms.specs.Tables.{new_name}
use Rattle.doc_forms.specs.Meaning.{HasNumber, HasNames}
use Rattle.doc_forms.proofs.Meant.{bind_ok, number_at_means, number_at_reads}
use Rattle.doc_forms.proofs.NamesMeant.{names_at_mean, names_at_read}
use Rattle.doc_tables.specs.Records.{records}
use Rattle.doc_tables.specs.RecordsMeaning.{Valued, SaysRecords}
use Rattle.doc_tables.specs.Apps.{apps}
use Rattle.doc_tables.specs.AppsMeaning.{app_names, SaysApps}
use Rattle.doc_forms.proofs.LookUps.{AreNumbered, NodesDiffer}
use Rattle.doc_tables.proofs.RecordsSorted.{order_differs}
use Rattle.doc_tables.proofs.RecordsMeant.{records_mean, records_read, records_kept}
use Rattle.doc_tables.proofs.AppsMeant.{apps_mean, apps_read}
use Rattle.doc_tables.proofs.AppsLawful.{apps_lawful}
use Rattle.doc_stream.proofs.StreamMeant.{AreTables, stream_means}
use Rattle.doc_stream.proofs.StreamLawful.{stream_lawful}
use Rattle.input_doc.specs.declared.tables.DocNodes.{DocNodes}
use Rattle.input_doc.specs.Reading.{Tables, nodes, tables, items_for}
use Rattle.input_doc.proofs.Sizes.{names_fit, peers_numbered, nodes_differ}

-- the parts of the table, each with what it says
pub record Parts (kind : Kind) (ms : Members) (t : Tables) : Type 0 where
  pub kept : t.table.kind ≡ kind
  pub read : records ms ≡ Ok (record { names = t.table.records; values = t.genesis })
  pub orderers : HasNames [] 1 16 (get_member (codes "orderers") ms) t.table.orderers
  pub quorum : HasNumber 1 (length t.table.orderers) (get_member (codes "quorum") ms) t.table.quorum
  pub peers : HasNames t.table.orderers 1 16 (get_member (codes "peers") ms) t.table.peers
  pub apps : SaysApps t.table.peers ms t.table.apps

abbrev nodes_are : DocNodes → Result DocNodes Fault
nodes_are x = Ok x

same_nodes : (x y : DocNodes) → nodes_are x ≡ nodes_are y → x ≡ y
same_nodes x y h = cc

abbrev tables_are : Tables → Result Tables Fault
tables_are x = Ok x

same_tables : (x y : Tables) → tables_are x ≡ tables_are y → x ≡ y
same_tables x y h = cc

record Said (ms : Members) (n : DocNodes) : Type 0 where
  orderers : HasNames [] 1 16 (get_member (codes "orderers") ms) n.orderers
  quorum : HasNumber 1 (length n.orderers) (get_member (codes "quorum") ms) n.quorum
  peers : HasNames n.orderers 1 16 (get_member (codes "peers") ms) n.peers

nodes_mean : (ms : Members) (n : DocNodes) → nodes ms ≡ Ok n → Said ms n
unfolding nodes
nodes_mean ms n e =
    let orderers = bind_ok (list_at (codes "orderers") 1 16 word.Orderers (new_name []) [] ms) _ n e in
    let quorum = bind_ok (number_at (codes "quorum") 1 (length orderers.0) word.Quorum ms) _ n orderers.2 in
    let peers = bind_ok (list_at (codes "peers") 1 16 word.Peers (new_name orderers.0) [] ms) _ n quorum.2 in
    let first = names_at_mean [] (codes "orderers") 1 16 word.Orderers ms orderers.0 tt orderers.1 in
    subst (Said ms) (same_nodes (record { orderers = orderers.0; quorum = quorum.0; peers = peers.0 }) n peers.2) (record {
      orderers = first;
      quorum = number_at_means (codes "quorum") 1 (length orderers.0) word.Quorum ms quorum.0 quorum.1;
      peers = names_at_mean orderers.0 (codes "peers") 1 16 word.Peers ms peers.0 first.differ peers.1;
    })

pub tables_mean : (kind : Kind) (ms : Members) (t : Tables) → tables verdict kind ms ≡ Ok t → Parts kind ms t
unfolding tables
tables_mean kind ms t e =
    let valued = bind_ok (records ms) _ t e in
    let named = bind_ok (nodes ms) _ t valued.2 in
    let all = bind_ok (apps verdict named.0.peers ms) _ t named.2 in
    let said = nodes_mean ms named.0 named.1 in
    subst (Parts kind ms) (same_tables (record {
      table = record { kind = kind; records = valued.0.names; orderers = named.0.orderers; quorum = named.0.quorum; peers = named.0.peers; apps = all.0 };
      genesis = valued.0.values;
    }) t all.2) (record {
      kept = refl;
      read = valued.1;
      orderers = said.orderers;
      quorum = said.quorum;
      peers = said.peers;
      apps = apps_mean named.0.peers (peers_numbered named.0.orderers _ named.0.peers said.peers) ms all.0 all.1;
    })

parts_lawful : (kind : Kind) (ms : Members) (t : Tables) → Parts kind ms t → IsLawfulTable t.table
parts_lawful kind ms t p =
    let valued : Valued = record { names = t.table.records; values = t.genesis } in
    let kept = records_kept ms valued p.read in
    let said = records_mean ms valued p.read in
    let orderers = names_fit [] _ t.table.orderers p.orderers in
    let peers = names_fit t.table.orderers _ t.table.peers p.peers in
    let all = apps_lawful t.table ms t.table.apps p.apps in
    record {
      records = kept.0;
      records_named = kept.1;
      record_names = said.order;
      orderers = orderers.0;
      orderers_named = orderers.1;
      quorum = (omega (arith, p.quorum.1), p.quorum.2);
      peers = peers.0;
      peers_named = peers.1;
      node_names = p.peers.differ;
      apps = all.0;
      app_names = p.apps.differ;
      lawful_apps = all.1;
    }

nodes_read : (ms : Members) (n : DocNodes) → HasNames [] 1 16 (get_member (codes "orderers") ms) n.orderers → HasNumber 1 (length n.orderers) (get_member (codes "quorum") ms) n.quorum → HasNames n.orderers 1 16 (get_member (codes "peers") ms) n.peers → nodes ms ≡ Ok n
unfolding nodes
nodes_read ms n orderers quorum peers =
    rw (names_at_read [] (codes "orderers") 1 16 word.Orderers ms n.orderers orderers, number_at_reads (codes "quorum") 1 (length n.orderers) word.Quorum ms n.quorum quorum, names_at_read n.orderers (codes "peers") 1 16 word.Peers ms n.peers peers) refl

pub tables_read : (ms : Members) (t : Tables) → SaysRecords ms (record { names = t.table.records; values = t.genesis })
    → HasNames [] 1 16 (get_member (codes "orderers") ms) t.table.orderers → HasNumber 1 (length t.table.orderers) (get_member (codes "quorum") ms) t.table.quorum
    → HasNames t.table.orderers 1 16 (get_member (codes "peers") ms) t.table.peers → SaysApps t.table.peers ms t.table.apps → tables verdict t.table.kind ms ≡ Ok t
unfolding tables
tables_read ms t said orderers quorum peers all =
    rw (
      records_read ms (record { names = t.table.records; values = t.genesis }) said,
      nodes_read ms (record { orderers = t.table.orderers; quorum = t.table.quorum; peers = t.table.peers }) orderers quorum peers,
      apps_read t.table.peers (peers_numbered t.table.orderers _ t.table.peers peers) ms t.table.apps all,
    ) refl

-- the table that a document's keys give is lawful
pub table_is_lawful : (kind : Kind) (ms : Members) (t : Tables) → tables verdict kind ms ≡ Ok t → IsLawfulTable t.table
table_is_lawful kind ms t e = parts_lawful kind ms t (tables_mean kind ms t e)

-- each record has a value
pub genesis_fits : (kind : Kind) (ms : Members) (t : Tables) → tables verdict kind ms ≡ Ok t → (length t.genesis ≡ length t.table.records) × All IsValue t.genesis
genesis_fits kind ms t e =
    let kept = records_kept ms (record { names = t.table.records; values = t.genesis }) (tables_mean kind ms t e).read in
    (kept.3, kept.2)

-- the names of a document's tables are numbered
pub record Numbered (table : Table) : Type 0 where
  pub of_stream : AreTables table.records (app_names table.apps) table.peers
  pub of_nodes : NodesDiffer table.orderers table.peers

parts_numbered : (kind : Kind) (ms : Members) (t : Tables) → Parts kind ms t → Numbered t.table
parts_numbered kind ms t p =
    let valued : Valued = record { names = t.table.records; values = t.genesis } in
    let kept = records_kept ms valued p.read in
    let said = records_mean ms valued p.read in
    let all = apps_lawful t.table ms t.table.apps p.apps in
    let named = length-map t.table.apps (λ app. app.name) in
    record {
      of_stream = record {
        of_records = record { differ = order_differs t.table.records said.order; few = omega (arith, kept.0) };
        of_apps = record { differ = p.apps.differ; few = omega (arith, named, all.0.1) };
        of_peers = peers_numbered t.table.orderers _ t.table.peers p.peers;
      };
      of_nodes = nodes_differ _ _ t.table.orderers t.table.peers p.orderers p.peers;
    }

pub table_is_numbered : (kind : Kind) (ms : Members) (t : Tables) → tables verdict kind ms ≡ Ok t → Numbered t.table
table_is_numbered kind ms t e = parts_numbered kind ms t (tables_mean kind ms t e)

-- the items of the stream are lawful for the table
pub items_are_lawful : (kind : Kind) (ms : Members) (t : Tables) (items : List Item) → tables verdict kind ms ≡ Ok t → items_for t.table ms ≡ Ok items → All (IsLawfulItem t.table) items × (length items ≤ 8192)
unfolding items_for
items_are_lawful kind ms t items said e =
    let numbered = table_is_numbered kind ms t said in
    stream_lawful t.table ms items (stream_means t.table.records (app_names t.table.apps) t.table.peers numbered.of_stream ms items e)
