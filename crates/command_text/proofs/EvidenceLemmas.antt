-- The evidence that the peers of a world keep is that of their logs.
use Rattle.std.specs.Prelude.{ℕ, suc, zero, ◌≡◌, ◌<◌, ◌≤◌, ◌+◌, ◌++◌, Bool, true, false, if◌then◌else◌, List, [], ◌∷◌, length, get_or, Option, Some, None, refl}
use Rattle.std.proofs.Common.{sym, ap, subst, ◌∙◌, append_assoc, arith}
use Rattle.std.proofs.lemmas.Bool.{true≢false, false≢true}
use Rattle.txn_types.specs.declared.message.Commit.{Commit}
use Rattle.txn_types.specs.declared.message.Node.TheVariants.{Peer}
use Rattle.oxii_defs.specs.State.{State}
use Rattle.oxii_defs.specs.Table as meant
use Rattle.txn_core.specs.declared.table.Table.{Table}
use Rattle.txn_core.specs.MeantTable.{table_of}
use Rattle.node_defs.specs.Log.{Letter, Log}
use Rattle.node_defs.specs.Ledger.{heard}
use Rattle.node_defs.specs.Rules.{Rules}
use Rattle.node_defs.specs.Programs.{rules_of}
use Rattle.node_defs.specs.World.{Setting, World, count_from, is_faulty, log_of, peers_of}
use Rattle.evidence_marks.specs.Evidence.{IsEvidence}
use Rattle.peer_turns.specs.Peers.{KeptPeer}
use Rattle.world_laws.specs.Shown.{IsAlive, IsPeerFor, IsShown}
use Rattle.report_text.specs.EvidenceText.{evidence_lines}
use Rattle.command_text.specs.Evident.{AreEvidenceLines, IsShownOf, seen_lines}
use Rattle.command_text.specs.Marked.{agents_in, marked_lines, orderers_in, shown_lines, slot_lines}

-- the lines from one peer on
pub marked_more : (table : meant.Table) (slots : List (Option KeptPeer)) (i n : ℕ) (slot : Option KeptPeer) (text new rest : List ℕ) →
    slot ≡ get_or slots i None → new ≡ text ++ slot_lines table i slot →
    rest ≡ text ++ marked_lines table slots (count_from i (suc n)) → rest ≡ new ++ marked_lines table slots (count_from (suc i) n)
marked_more table slots i n slot text new rest is more all =
    all
    ∙ sym (append_assoc text (slot_lines table i (get_or slots i None)) (marked_lines table slots (count_from (suc i) n)))
    ∙ ap (λ o. (text ++ slot_lines table i o) ++ marked_lines table slots (count_from (suc i) n)) (sym is)
    ∙ ap (λ t. t ++ marked_lines table slots (count_from (suc i) n)) (sym more)

-- what a peer keeps is the evidence of what it heard
evidence_of : (table : Table) (genesis : State) (s : Setting) (p : ℕ) (L : Log) (k : KeptPeer) → s.rules ≡ rules_of (table_of table) genesis → IsAlive table genesis s p L k →
    IsEvidence s.rules p (heard s.rules p L) k.inbox.marks k.book.marks
evidence_of table genesis s p L k rules alive =
    let R : ℕ → Rules → Type 0 = λ me r. IsEvidence r me (heard r me L) k.inbox.marks k.book.marks in
    let own : R k.me (rules_of (table_of k.table) genesis) = alive.stands.evidence in
    let here : R p (rules_of (table_of k.table) genesis) = subst (λ me. R me (rules_of (table_of k.table) genesis)) alive.me_is own in
    subst (R p) (ap (λ (t : Table). rules_of (table_of t) genesis) alive.table_is ∙ sym rules) here

module _ (table : Table) (pool : List Letter) (idle : ℕ) (slots : List (Option KeptPeer)) (genesis : State) (s : Setting) (w : World) (shown : IsShown table pool idle slots genesis s w) where
  table_is : s.rules.table ≡ table_of table
  table_is = ap (λ (r : Rules). r.table) shown.rules_are

  are : (p : ℕ) → p < peers_of s → is_faulty s (Peer p) ≡ false →
      IsEvidence s.rules p (heard s.rules p (log_of w p)) (orderers_in (get_or slots p None)) (agents_in (get_or slots p None))
  are p lt honest = one (get_or slots p None) (shown.each p (omega (arith, lt, ap (λ (t : meant.Table). length t.peers) table_is)))
    where
      one : (o : Option KeptPeer) → IsPeerFor table genesis s p (log_of w p) o → IsEvidence s.rules p (heard s.rules p (log_of w p)) (orderers_in o) (agents_in o)
      one None faulty = absurd (false≢true (sym honest ∙ faulty))
      one (Some k) alive = evidence_of table genesis s p (log_of w p) k shown.rules_are alive

  slot_is : (p : ℕ) (o : Option KeptPeer) → IsPeerFor table genesis s p (log_of w p) o →
      slot_lines (table_of table) p o ≡ (if is_faulty s (Peer p) then [] else evidence_lines s.rules.table p (orderers_in o) (agents_in o))
  slot_is p None faulty = sym (ap (λ b. if b then [] else evidence_lines s.rules.table p [] []) faulty)
  slot_is p (Some k) alive =
      ap (λ t. evidence_lines t p k.inbox.marks k.book.marks) (sym table_is)
      ∙ sym (ap (λ b. if b then [] else evidence_lines s.rules.table p k.inbox.marks k.book.marks) alive.working)

  marked_is : (i n : ℕ) → i + n ≤ length table.peers →
      marked_lines (table_of table) slots (count_from i n) ≡ seen_lines s (λ p. orderers_in (get_or slots p None)) (λ p. agents_in (get_or slots p None)) (count_from i n)
  marked_is i zero h = refl
  marked_is i (suc n) h =
      ap (λ t. t ++ marked_lines (table_of table) slots (count_from (suc i) n)) (slot_is i (get_or slots i None) (shown.each i (omega (arith, h))))
      ∙ ap (λ t. (if is_faulty s (Peer i) then [] else evidence_lines s.rules.table i (orderers_in (get_or slots i None)) (agents_in (get_or slots i None))) ++ t) (marked_is (suc i) n (omega (arith, h)))

  pub evidence_lines_are : AreEvidenceLines s w (marked_lines (table_of table) slots (count_from 0 (length table.peers)))
  evidence_lines_are = record {
    orderers = λ p. orderers_in (get_or slots p None);
    agents = λ p. agents_in (get_or slots p None);
    are = are;
    printed = marked_is 0 (length table.peers) (omega arith) ∙ ap (λ (t : meant.Table). seen_lines s (λ p. orderers_in (get_or slots p None)) (λ p. agents_in (get_or slots p None)) (count_from 0 (length t.peers))) (sym table_is);
  }

  pub shown_is : (evidence : Bool) → IsShownOf evidence s w (shown_lines evidence table slots)
  shown_is true = evidence_lines_are
  shown_is false = refl
