-- The lines of a summary, one behind the other, from what the first peer shows.
use Rattle.std.proofs.Common.{◌≡◌, ℕ, List, [], ◌++◌, length, sym, ap, subst, ◌∙◌}
use Rattle.std.specs.Prelude.{codes}
use Rattle.std.specs.List.{sum, sum_by}
use Rattle.txn_types.specs.declared.block.Block.{Block}
use Rattle.oxii_defs.specs.State.{State, value_in}
use Rattle.oxii_defs.specs.Lines as lines
use Rattle.node_defs.specs.Accepted.{tip}
use Rattle.node_defs.specs.Ledger.{heard, ledger, ledger_state}
use Rattle.node_defs.specs.Log.{Log}
use Rattle.node_defs.specs.Rules.{Rules}
use Rattle.node_defs.specs.Programs.{rules_of}
use Rattle.node_defs.specs.World.{Setting, World, count_from, log_of}
use Rattle.txn_core.specs.declared.table.Table.{Table}
use Rattle.txn_core.specs.MeantTable.{table_of}
use Rattle.txn_core.specs.States.{state_of}
use Rattle.hash_ledger.specs.declared.entry.Entry.{Entry}
use Rattle.hash_ledger.specs.Ledgers.{completed_of}
use Rattle.peer_turns.specs.Peers.{KeptPeer}
use Rattle.peer_turns.specs.Relation.{rules_for}
use Rattle.soak_text.specs.Summary as meant
use Rattle.soak_text.specs.Summary.{soak_line, chain_lines, ledger_lines, count_line, tip_line, summary}
use Rattle.soak_text.proofs.Totals.{state_sum}

-- each part behind those before it
parts_are : (a b c d e f t0 t1 t2 t3 t4 t5 t6 : List ℕ) →
    t0 ≡ [] → t1 ≡ t0 ++ a → t2 ≡ t1 ++ b → t3 ≡ t2 ++ c → t4 ≡ t3 ++ d → t5 ≡ t4 ++ e → t6 ≡ t5 ++ f → t6 ≡ a ++ b ++ c ++ d ++ e ++ f
parts_are a b c d e f t0 t1 t2 t3 t4 t5 t6 p0 p1 p2 p3 p4 p5 p6 =
    p6 ∙ ap (λ t. t ++ f) (p5 ∙ ap (λ t. t ++ e) (p4 ∙ ap (λ t. t ++ d) (p3 ∙ ap (λ t. t ++ c) (p2 ∙ ap (λ t. t ++ b) (p1 ∙ ap (λ t. t ++ a) p0)))))

-- the completed blocks of the first peer, by rules
abbrev first_by : Rules → Log → List lines.Entry
first_by r L = ledger r 0 (heard r 0 L)

-- what is printed, by rules
abbrev printed_by : Rules → List Block → (seed txns : ℕ) → World → List ℕ
printed_by r chain seed txns w =
    soak_line seed txns ++ chain_lines r.table.kind chain ++ ledger_lines (first_by r (log_of w 0))
    ++ count_line (codes "sum") (meant.total r.table (ledger_state r (first_by r (log_of w 0))))
    ++ count_line (codes "messages") (length w.pool) ++ tip_line (tip r (first_by r (log_of w 0)))

-- what a peer shows of its log
pub record Shows (table : Table) (genesis : State) (L : Log) (p : KeptPeer) (first second : List Entry) (values : List ℕ) : Type 0 where
  pub table_is : p.table ≡ table
  pub me_is : p.me ≡ 0
  pub first_is : completed_of first ≡ ledger (rules_for p genesis) p.me (heard (rules_for p genesis) p.me L)
  pub second_is : completed_of second ≡ ledger (rules_for p genesis) p.me (heard (rules_for p genesis) p.me L)
  pub state_is : state_of values ≡ ledger_state (rules_for p genesis) (ledger (rules_for p genesis) p.me (heard (rules_for p genesis) p.me L))
  pub values_are : length values ≡ length p.table.records

-- what is said of the peer's own rules and number is said of these rules and number 0
seated : (table : Table) (genesis : State) (p : KeptPeer) (P : Rules → ℕ → Type 0) → p.table ≡ table → p.me ≡ 0 → P (rules_for p genesis) p.me → P (rules_of (table_of table) genesis) 0
seated table genesis p P table_is me_is h =
    subst (P (rules_of (table_of table) genesis)) me_is (subst (λ (t : Table). P (rules_of (table_of t) genesis) p.me) table_is h)

pub summary_is : (s : Setting) (w : World) (seed txns : ℕ) (table : Table) (genesis : State) (p : KeptPeer) (blocks : List Block) (first second : List Entry) (values : List ℕ) (total messages : ℕ) (t0 t1 t2 t3 t4 t5 t6 : List ℕ) →
    s.rules ≡ rules_of (table_of table) genesis → s.chain ≡ blocks → Shows table genesis (log_of w 0) p first second values → total ≡ sum values → messages ≡ length w.pool →
    t0 ≡ [] → t1 ≡ t0 ++ soak_line seed txns → t2 ≡ t1 ++ chain_lines table.kind blocks → t3 ≡ t2 ++ ledger_lines (completed_of first) →
    t4 ≡ t3 ++ count_line (codes "sum") total → t5 ≡ t4 ++ count_line (codes "messages") messages → t6 ≡ t5 ++ tip_line (tip (rules_of (table_of table) genesis) (completed_of second)) →
    t6 ≡ summary s seed txns w
summary_is s w seed txns table genesis p blocks first second values total messages t0 t1 t2 t3 t4 t5 t6 rules chain shows summed sent p0 p1 p2 p3 p4 p5 p6 =
    let r = rules_of (table_of table) genesis in
    let L = log_of w 0 in
    let seat = λ (P : Rules → ℕ → Type 0) (h : P (rules_for p genesis) p.me). seated table genesis p P shows.table_is shows.me_is h in
    let one : completed_of first ≡ first_by r L = seat (λ q me. completed_of first ≡ ledger q me (heard q me L)) shows.first_is in
    let two : completed_of second ≡ first_by r L = seat (λ q me. completed_of second ≡ ledger q me (heard q me L)) shows.second_is in
    let state : state_of values ≡ ledger_state r (first_by r L) = seat (λ q me. state_of values ≡ ledger_state q (ledger q me (heard q me L))) shows.state_is in
    let size : length table.records ≡ length values = sym (shows.values_are ∙ ap (λ (t : Table). length t.records) shows.table_is) in
    let sums : total ≡ meant.total (table_of table) (ledger_state r (first_by r L)) =
    summed ∙ sym (state_sum values (length table.records) size) ∙ ap (λ st. sum_by (value_in st) (count_from 0 (length table.records))) state in
    parts_are (soak_line seed txns) (chain_lines table.kind blocks) (ledger_lines (completed_of first)) (count_line (codes "sum") total) (count_line (codes "messages") messages)
    (tip_line (tip r (completed_of second))) t0 t1 t2 t3 t4 t5 t6 p0 p1 p2 p3 p4 p5 p6
    ∙ ap (λ done. soak_line seed txns ++ chain_lines table.kind blocks ++ ledger_lines done ++ count_line (codes "sum") total ++ count_line (codes "messages") messages ++ tip_line (tip r (completed_of second))) one
    ∙ ap (λ done. soak_line seed txns ++ chain_lines table.kind blocks ++ ledger_lines (first_by r L) ++ count_line (codes "sum") total ++ count_line (codes "messages") messages ++ tip_line (tip r done)) two
    ∙ ap (λ n. soak_line seed txns ++ chain_lines table.kind blocks ++ ledger_lines (first_by r L) ++ count_line (codes "sum") n ++ count_line (codes "messages") messages ++ tip_line (tip r (first_by r L))) sums
    ∙ ap (λ n. soak_line seed txns ++ chain_lines table.kind blocks ++ ledger_lines (first_by r L) ++ count_line (codes "sum") (meant.total (table_of table) (ledger_state r (first_by r L))) ++ count_line (codes "messages") n ++ tip_line (tip r (first_by r L))) sent
    ∙ ap (λ bs. printed_by r bs seed txns w) (sym chain)
    ∙ ap (λ q. printed_by q s.chain seed txns w) (sym rules)
