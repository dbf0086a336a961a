-- A document gives Ok exactly where it says what it gives.
use Rattle.std.proofs.Common.{◌≡◌, ℕ, List, Option, Some, None, Result, Ok, refl, sym, subst, arith}
use Rattle.std.specs.Prelude.{codes}
use Rattle.serde_json.specs.Data.{Data, Members, object}
use Rattle.txn_types.specs.declared.txn.Kind.{Kind}
use Rattle.txn_types.specs.declared.stream.CutLimits.{CutLimits}
use Rattle.txn_types.specs.declared.stream.Item.{Item}
use Rattle.oxii_defs.specs.Table.{Table}
use Rattle.node_defs.specs.LawfulItems.{AreLawfulLimits}
use Rattle.contract_text.specs.Verdict.{verdict}
use Rattle.doc_forms.specs.Faults.{Fault}
use Rattle.doc_forms.specs.Forms as form
use Rattle.doc_forms.specs.Meaning.{HasOnly}
use Rattle.doc_forms.proofs.Meant.{bind_ok, members_are, only_means, only_reads}
use Rattle.node_defs.specs.Admission.{pieces_of}
use Rattle.node_defs.specs.Programs.{setting_of}
use Rattle.doc_tables.specs.AppsMeaning.{app_names}
use Rattle.doc_tables.specs.Faulty.{faulty}
use Rattle.doc_tables.specs.FaultyMeaning.{SaysFaulty}
use Rattle.doc_tables.proofs.FaultyMeant.{faulty_means, faulty_reads}
use Rattle.doc_tables.proofs.RecordsMeant.{records_mean}
use Rattle.doc_stream.specs.StreamMeaning.{SaysStream}
use Rattle.doc_stream.proofs.StreamMeant.{stream_means, stream_reads}
use Rattle.doc_schedule.specs.Schedule.{schedule}
use Rattle.doc_schedule.specs.ScheduleMeaning.{SaysSchedule}
use Rattle.doc_schedule.proofs.ScheduleMeant.{schedule_means, schedule_reads}
use Rattle.doc_schedule.proofs.ScheduleLaw.{schedule_lawful}
use Rattle.input_doc.specs.Inputs.{Input}
use Rattle.input_doc.specs.LawfulInputs.{IsLawfulInput}
use Rattle.input_doc.specs.Head.{version_at, graph_kind_at, cut_at}
use Rattle.input_doc.specs.HeadMeaning.{SaysCut}
use Rattle.input_doc.specs.declared.head.Head.{Head}
use Rattle.input_doc.specs.declared.stream_and_schedule.FaultySchedule.{FaultySchedule}
use Rattle.input_doc.specs.Reading.{Tables, first_keys, tables, items_for, faulty_schedule, only_root_keys, roles_of, document, read_tree, reading}
use Rattle.input_doc.specs.Root.{root_keys, tree_of}
use Rattle.input_doc.specs.Means.{SaysDocument, Means}
use Rattle.input_doc.proofs.HeadMeant.{version_means, version_reads, kind_means, kind_reads, cut_means, cut_reads}
use Rattle.input_doc.proofs.TablesLawful.{Numbered, tables_mean, tables_read, table_is_lawful, table_is_numbered, genesis_fits, items_are_lawful}
use Rattle.input_doc.proofs.PiecesFew.{few_txns, few_configs}
use Rattle.input_doc.proofs.FaultyLawful.{faulty_are_nodes, faulty_are_few}

abbrev head_is : Head → Result Head Fault
head_is x = Ok x

same_head : (x y : Head) → head_is x ≡ head_is y → x ≡ y
same_head x y h = cc

abbrev tables_are : Tables → Result Tables Fault
tables_are x = Ok x

abbrev faulty_schedule_is : FaultySchedule → Result FaultySchedule Fault
faulty_schedule_is x = Ok x

same_faulty_schedule : (x y : FaultySchedule) → faulty_schedule_is x ≡ faulty_schedule_is y → x ≡ y
same_faulty_schedule x y h = cc

abbrev input_is : Input → Result Input Fault
input_is x = Ok x

same_input : (x y : Input) → input_is x ≡ input_is y → x ≡ y
same_input x y h = cc

-- the first keys

abbrev HeadSaid : Members → Head → Type 0
HeadSaid ms h = (version_at (codes "version") ms ≡ Ok tt) × (graph_kind_at (codes "kind") ms ≡ Ok h.kind) × (cut_at (codes "cut") ms ≡ Ok h.limits)

head_means : (ms : Members) (h : Head) → first_keys ms ≡ Ok h → HeadSaid ms h
unfolding first_keys
head_means ms h e =
    let version = bind_ok (version_at (codes "version") ms) _ h e in
    let kind = bind_ok (graph_kind_at (codes "kind") ms) _ h version.2 in
    let limits = bind_ok (cut_at (codes "cut") ms) _ h kind.2 in
    subst (HeadSaid ms) (same_head (record { kind = kind.0; limits = limits.0 }) h limits.2) (version.1, kind.1, limits.1)

head_reads : (ms : Members) (h : Head) → HeadSaid ms h → first_keys ms ≡ Ok h
unfolding first_keys
head_reads ms h said = rw (said.0, said.1, said.2) refl

-- the last keys

record FaultyScheduleSaid (table : Table) (items : List Item) (ms : Members) (a : FaultySchedule) : Type 0 where
  faulty : SaysFaulty table.orderers table.peers ms a.faulty
  schedule : SaysSchedule table.orderers table.peers a.faulty (pieces_of table items) ms a.schedule
  only : HasOnly root_keys ms

faulty_schedule_means : (table : Table) → Numbered table → (items : List Item) (ms : Members) (a : FaultySchedule) → faulty_schedule table items ms ≡ Ok a → FaultyScheduleSaid table items ms a
unfolding faulty_schedule only_root_keys
faulty_schedule_means table numbered items ms a e =
    let nodes = bind_ok (faulty table.orderers table.peers ms) _ a e in
    let events = bind_ok (schedule table.orderers table.peers nodes.0 (roles_of table items) ms) _ a nodes.2 in
    let rest = bind_ok (only_root_keys ms) _ a events.2 in
    subst (FaultyScheduleSaid table items ms) (same_faulty_schedule (record { faulty = nodes.0; schedule = events.0 }) a rest.2) (record {
      faulty = faulty_means table.orderers table.peers numbered.of_nodes ms nodes.0 nodes.1;
      schedule = schedule_means table.orderers table.peers numbered.of_nodes nodes.0 (pieces_of table items) ms events.0 events.1;
      only = only_means root_keys ms rest.0 rest.1;
    })

faulty_schedule_reads : (table : Table) → Numbered table → (items : List Item) (ms : Members) (a : FaultySchedule) → FaultyScheduleSaid table items ms a → faulty_schedule table items ms ≡ Ok a
unfolding faulty_schedule only_root_keys
faulty_schedule_reads table numbered items ms a said =
    rw (faulty_reads table.orderers table.peers numbered.of_nodes ms a.faulty said.faulty, schedule_reads table.orderers table.peers numbered.of_nodes a.faulty (pieces_of table items) ms a.schedule said.schedule, only_reads root_keys ms said.only) refl

-- the stream

items_mean : (table : Table) → Numbered table → (ms : Members) (items : List Item) → items_for table ms ≡ Ok items → SaysStream table.records (app_names table.apps) table.peers ms items
unfolding items_for
items_mean table numbered ms items e = stream_means table.records (app_names table.apps) table.peers numbered.of_stream ms items e

items_read : (table : Table) → Numbered table → (ms : Members) (items : List Item) → SaysStream table.records (app_names table.apps) table.peers ms items → items_for table ms ≡ Ok items
unfolding items_for
items_read table numbered ms items said = stream_reads table.records (app_names table.apps) table.peers numbered.of_stream ms items said

-- the whole

-- how a document was read
record Steps (d : Data) (input : Input) : Type 0 where
  ms : Members
  is : d ≡ object ms
  first : first_keys ms ≡ Ok (record { kind = input.table.kind; limits = input.limits })
  middle : tables verdict input.table.kind ms ≡ Ok (record { table = input.table; genesis = input.genesis })
  items : items_for input.table ms ≡ Ok input.items
  last : faulty_schedule input.table input.items ms ≡ Ok (record { faulty = input.faulty; schedule = input.schedule })

with_kind : (ms : Members) (h : Head) (k : Kind) → k ≡ h.kind → first_keys ms ≡ Ok h → first_keys ms ≡ Ok (record { kind = k; limits = h.limits })
with_kind ms h k kept e = subst (λ (j : Kind). first_keys ms ≡ head_is (record { kind = j; limits = h.limits })) (sym kept) e

at_kind : (k : Kind) (ms : Members) (t : Tables) → t.table.kind ≡ k → tables verdict k ms ≡ Ok t → tables verdict t.table.kind ms ≡ Ok t
at_kind k ms t kept e = subst (λ (j : Kind). tables verdict j ms ≡ tables_are t) (sym kept) e

steps_of : (d : Data) (input : Input) → document verdict d ≡ Ok input → Steps d input
unfolding document
steps_of d input e =
    let ms = bind_ok (form.object (Some d)) _ input e in
    let h = bind_ok (first_keys ms.0) _ input ms.2 in
    let t = bind_ok (tables verdict h.0.kind ms.0) _ input h.2 in
    let xs = bind_ok (items_for t.0.table ms.0) _ input t.2 in
    let a = bind_ok (faulty_schedule t.0.table xs.0 ms.0) _ input xs.2 in
    let kept = (tables_mean h.0.kind ms.0 t.0 t.1).kept in
    subst (Steps d) (same_input (record { table = t.0.table; genesis = t.0.genesis; items = xs.0; limits = h.0.limits; faulty = a.0.faulty; schedule = a.0.schedule }) input a.2) (record {
      ms = ms.0;
      is = one_tree d ms.0 (members_are (Some d) ms.0 ms.1);
      first = with_kind ms.0 h.0 t.0.table.kind kept h.1;
      middle = at_kind h.0.kind ms.0 t.0 kept t.1;
      items = xs.1;
      last = a.1;
    })
  where
    one_tree : (tree : Data) (all : Members) → Some tree ≡ Some (object all) → tree ≡ object all
    one_tree tree all same = cc

document_means : (d : Data) (input : Input) → document verdict d ≡ Ok input → SaysDocument d input
document_means d input e =
    let steps = steps_of d input e in
    let first = head_means steps.ms (record { kind = input.table.kind; limits = input.limits }) steps.first in
    let numbered = table_is_numbered input.table.kind steps.ms (record { table = input.table; genesis = input.genesis }) steps.middle in
    let parts = tables_mean input.table.kind steps.ms (record { table = input.table; genesis = input.genesis }) steps.middle in
    let last = faulty_schedule_means input.table numbered input.items steps.ms (record { faulty = input.faulty; schedule = input.schedule }) steps.last in
    record {
      members = steps.ms;
      is = steps.is;
      version = version_means steps.ms tt first.0;
      kind = kind_means steps.ms input.table.kind first.1;
      cut = cut_means steps.ms input.limits first.2;
      records = records_mean steps.ms (record { names = input.table.records; values = input.genesis }) parts.read;
      orderers = parts.orderers;
      quorum = parts.quorum;
      peers = parts.peers;
      apps = parts.apps;
      stream = items_mean input.table numbered steps.ms input.items steps.items;
      faulty = last.faulty;
      schedule = last.schedule;
      only = last.only;
    }

document_reads : (d : Data) (input : Input) → SaysDocument d input → document verdict d ≡ Ok input
unfolding document
document_reads d input said =
    let t : Tables = record { table = input.table; genesis = input.genesis } in
    let middle = tables_read said.members t said.records said.orderers said.quorum said.peers said.apps in
    let numbered = table_is_numbered input.table.kind said.members t middle in
    rw (
      said.is,
      head_reads said.members (record { kind = input.table.kind; limits = input.limits }) (version_reads said.members said.version, kind_reads said.members input.table.kind said.kind, cut_reads said.members input.limits said.cut),
      middle,
      items_read input.table numbered said.members input.items said.stream,
      faulty_schedule_reads input.table numbered input.items said.members (record { faulty = input.faulty; schedule = input.schedule }) (record { faulty = said.faulty; schedule = said.schedule; only = said.only }),
    ) refl

from_tree : (bytes : List ℕ) (o : Option Data) (input : Input) → tree_of bytes ≡ o → read_tree verdict o ≡ Ok input → Means bytes input
from_tree bytes None input is e = absurd cc
from_tree bytes (Some d) input is e = record { tree = d; read = is; says = document_means d input e }

-- what is read of bytes is what they mean

pub reading_means : (bytes : List ℕ) (input : Input) → reading verdict bytes ≡ Ok input → Means bytes input
unfolding reading
reading_means bytes input e = from_tree bytes (tree_of bytes) input refl e

pub reading_reads : (bytes : List ℕ) (input : Input) → Means bytes input → reading verdict bytes ≡ Ok input
unfolding reading
reading_reads bytes input h = rw h.read (document_reads h.tree input h.says)

-- and it is lawful

cut_is_lawful : (v : Option Data) (limits : CutLimits) → SaysCut v limits → AreLawfulLimits limits
cut_is_lawful v limits h = record { txns = (omega (arith, h.txns.1), h.txns.2); bytes_from = h.bytes.1; bytes_to = h.bytes.2 }

document_is_lawful : (d : Data) (input : Input) → document verdict d ≡ Ok input → IsLawfulInput input
document_is_lawful d input e =
    let steps = steps_of d input e in
    let t : Tables = record { table = input.table; genesis = input.genesis } in
    let fits = genesis_fits input.table.kind steps.ms t steps.middle in
    let xs = items_are_lawful input.table.kind steps.ms t input.items steps.middle steps.items in
    let said = document_means d input e in
    record {
      table = table_is_lawful input.table.kind steps.ms t steps.middle;
      genesis = fits.0;
      values = fits.1;
      count = xs.1;
      items = xs.0;
      limits = cut_is_lawful _ input.limits said.cut;
      txns = few_txns input.table input.items said.stream.requests;
      configs = few_configs input.table input.items said.stream.configs;
      faulty = faulty_are_nodes input.table said.members input.faulty said.faulty;
      faulty_count = faulty_are_few input.table said.members input.faulty said.faulty;
      faulty_order = said.faulty.rising;
      schedule = λ genesis bodies. schedule_lawful (setting_of input.table genesis input.items bodies input.faulty) said.members input.schedule said.schedule;
    }

lawful_tree : (o : Option Data) (input : Input) → read_tree verdict o ≡ Ok input → IsLawfulInput input
lawful_tree None input e = absurd cc
lawful_tree (Some d) input e = document_is_lawful d input e

pub reading_is_lawful : (bytes : List ℕ) (input : Input) → reading verdict bytes ≡ Ok input → IsLawfulInput input
unfolding reading
reading_is_lawful bytes input e = lawful_tree (tree_of bytes) input e
