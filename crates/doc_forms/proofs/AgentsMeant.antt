-- Agents and how many of them agree are read exactly where the document says them, and are lawful.
use Rattle.std.proofs.Common.{◌≡◌, ◌≤◌, ◌<◌, ℕ, List, [], length, map, map-id, codes, Option, Result, Ok, refl, subst, arith}
use Rattle.std.specs.List.{All}
use Rattle.std.proofs.lemmas.Option.{slice_get_within}
use Rattle.std.proofs.lemmas.List.Elements.{All-weaker}
use Rattle.serde_json.specs.Data.{Data, Members}
use Rattle.serde_json.specs.Find.{get_member}
use Rattle.txn_types.specs.Rising.{IsRising}
use Rattle.oxii_defs.specs.Table.{Table}
use Rattle.oxii_defs.specs.Lawful.{AreAgents}
use Rattle.doc_forms.specs.declared.agents.AgentsAndTau.{AgentsAndTau}
use Rattle.doc_forms.specs.declared.fault.Which.TheVariants as word
use Rattle.doc_forms.specs.Faults.{Fault}
use Rattle.doc_forms.specs.Forms.{number_at}
use Rattle.doc_forms.specs.Tables.{place_below}
use Rattle.doc_forms.specs.Meaning.{IsNameAt, HasSet, HasAgents}
use Rattle.doc_forms.specs.Agents.{agents_at, agents_and_tau}
use Rattle.doc_forms.proofs.Meant.{bind_ok, number_at_means, number_at_reads}
use Rattle.doc_forms.proofs.LookUps.{AreNumbered, place_finds, finds_itself}
use Rattle.doc_forms.proofs.SetsMeant.{set_at_means, set_at_reads, set_count, set_found}

-- ---- sizes

-- they fit into a set of peers
pub agents_fit : (peers : List (List ℕ)) (ms : Members) (agents : List ℕ) → agents_at peers ms ≡ Ok agents → (length agents ≤ 16) × IsRising (map (λ p. p) agents)
unfolding agents_at
agents_fit peers ms agents e =
    let s = set_at_means (λ p. p) (place_below 256 peers) _ (finds_itself (place_below 256 peers)) (codes "agents") 1 16 word.Agents ms agents e in
    ((set_count (λ p. p) _ 1 16 (get_member (codes "agents") ms) agents s).1, s.rising)

-- how many have to agree is a small number
pub tau_fits : (count : ℕ) (ms : Members) (n : ℕ) → count ≤ 16 → number_at (codes "tau") 1 count word.Tau ms ≡ Ok n → n ≤ 16
tau_fits count ms n few e = let h = number_at_means (codes "tau") 1 count word.Tau ms n e in omega (arith, h.2, few)

-- ---- both

abbrev read_as : AgentsAndTau → Result AgentsAndTau Fault
read_as x = Ok x

same_read : (x y : AgentsAndTau) → read_as x ≡ read_as y → x ≡ y
same_read x y h = cc

pub agents_mean : (peers : List (List ℕ)) → AreNumbered 256 peers → (ms : Members) (who : AgentsAndTau) → agents_and_tau peers ms ≡ Ok who → HasAgents peers ms who.agents who.tau
unfolding agents_and_tau agents_at
agents_mean peers numbered ms who e =
    let agents = bind_ok (agents_at peers ms) _ who e in
    let tau = bind_ok (number_at (codes "tau") 1 (length agents.0) word.Tau ms) _ who agents.2 in
    subst (λ (w : AgentsAndTau). HasAgents peers ms w.agents w.tau) (same_read (record { agents = agents.0; tau = tau.0 }) who tau.2) (record {
      agents_are = set_at_means (λ p. p) (place_below 256 peers) (IsNameAt peers) (place_finds 256 peers numbered) (codes "agents") 1 16 word.Agents ms agents.0 agents.1;
      tau_is = number_at_means (codes "tau") 1 (length agents.0) word.Tau ms tau.0 tau.1;
    })

pub agents_read : (peers : List (List ℕ)) → AreNumbered 256 peers → (ms : Members) (agents : List ℕ) (tau : ℕ) → HasAgents peers ms agents tau → agents_and_tau peers ms ≡ Ok (record { agents = agents; tau = tau })
unfolding agents_and_tau agents_at
agents_read peers numbered ms agents tau h =
    rw (
      set_at_reads (λ p. p) (place_below 256 peers) (IsNameAt peers) (place_finds 256 peers numbered) (codes "agents") 1 16 word.Agents ms agents h.agents_are,
      number_at_reads (codes "tau") 1 (length agents) word.Tau ms tau h.tau_is,
    )
    refl

-- ---- they are lawful

-- the entries of a set of names exist
pub set_exists : (names : List (List ℕ)) (low high : ℕ) (v : Option Data) (entries : List ℕ) → HasSet (λ e. e) (IsNameAt names) low high v entries → All (λ e. e < length names) entries
set_exists names low high v entries s =
    All-weaker (λ e. (text : List ℕ) × IsNameAt names text e) (λ e. e < length names) (λ e found. slice_get_within names e found.0 found.1) entries (set_found (λ e. e) (IsNameAt names) low high v entries s)

pub set_rises : (names : List (List ℕ)) (low high : ℕ) (v : Option Data) (entries : List ℕ) → HasSet (λ e. e) (IsNameAt names) low high v entries → IsRising entries
set_rises names low high v entries s = subst IsRising (map-id entries) s.rising

pub agents_lawful : (table : Table) (ms : Members) (agents : List ℕ) (tau : ℕ) → HasAgents table.peers ms agents tau → AreAgents table agents tau
agents_lawful table ms agents tau h =
    let v = get_member (codes "agents") ms in
    let count = set_count (λ p. p) (IsNameAt table.peers) 1 16 v agents h.agents_are in
    record {
      count = (omega (arith, count.0), count.1);
      peers = set_exists table.peers 1 16 v agents h.agents_are;
      rising = set_rises table.peers 1 16 v agents h.agents_are;
      votes = (omega (arith, h.tau_is.1), h.tau_is.2);
    }
