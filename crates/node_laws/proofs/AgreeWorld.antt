-- Agreement in the world: whatever the events, a tame input leaves every peer that isn't faulty with the first blocks of the chain, their serial outcomes, and no halt
use Rattle.oxii_defs.specs.Chain.{no_hash, chain_from}
use Rattle.std.specs.Prelude.{ℕ, ◌+◌, ◌<◌, ◌≡◌, Bool, true, false, cond, List, [], ◌∷◌, length, get_or, Some, None, suc, zero, ◌==◌}
use Rattle.std.specs.List.{AllByRecursion}
use Rattle.std.proofs.lemmas.List.Elements.{recursion_from_All}
use Rattle.std.proofs.Common.{sym, ◌∙◌, ap, subst, arith}
use Rattle.std.proofs.lemmas.Option.{none-some}
use Rattle.known_defs.specs.Known.{no_outcome}
use Rattle.node_defs.specs.Accepted.{accepted, tip}
use Rattle.node_defs.specs.Ledger.{completed, heard, ledger_state, accepted_at}
use Rattle.node_defs.specs.Log.{Log}
use Rattle.node_defs.specs.Position.{Standing}
use Rattle.node_defs.specs.Rules.{in_force}
use Rattle.node_defs.specs.Sent.{no_standing}
use Rattle.node_defs.specs.Serial.{serial_ledger, serial_outcomes_at}
use Rattle.node_defs.specs.Blocks.{block_at}
use Rattle.node_defs.specs.World.{IsWorld, Setting, World, is_faulty, log_of, start}
use Rattle.node_defs.specs.Programs.{setting_of}
use Rattle.node_defs.specs.LawfulEvents.{IsSaidByFaulty}
use Rattle.node_laws.proofs.Agree.{AllRight, Sound, accepted_right, ledger_right}
use Rattle.node_laws.proofs.AgreeSent.{all_at, believed_at, hears_all, never_split, works_right}
use Rattle.node_laws.proofs.Few.{IsTameAll, tame_all}
use Rattle.node_laws.proofs.Letters.{IsSaidBy, IsSoundWorld, Premises, may_say, said_by_the_faulty, sends_sound, start_sound, world_keeps}
use Rattle.node_laws.proofs.Same.{rules_local}
use Rattle.node_laws.specs.Agreement.{Agreement, IsSound, IsWithChain}
use Rattle.node_laws.specs.Growth.{standings_at}
use Rattle.oxii_defs.specs.State.{State}
use Rattle.oxii_defs.specs.Table.{Table}
use Rattle.txn_types.specs.declared.block.Block.{Block}
use Rattle.txn_types.specs.declared.block.Body.{Body}
use Rattle.txn_types.specs.declared.event.Event.{Event}
use Rattle.txn_types.specs.declared.message.Node.{Node}
use Rattle.txn_types.specs.declared.stream.Item.{Item}
use Rattle.txn_types.specs.declared.txn.Outcome.{Outcome}

-- ONE PEER

agreed_at : (os : List Outcome) (xs : List Standing) (t : ℕ) (o : Outcome) → AllRight os xs → (get_or xs t no_standing).agreed ≡ Some o → o ≡ get_or os t no_outcome
agreed_at [] [] t o a h = absurd (none-some o h)
agreed_at [] (x ∷ xs) t o a h = absurd a
agreed_at (p ∷ os) [] t o a h = absurd a
agreed_at (p ∷ os) (x ∷ xs) zero o a h = a.0.agreed o h
agreed_at (p ∷ os) (x ∷ xs) (suc t) o a h = agreed_at os xs t o a.1 h

accepted_chain : (s : Setting) (liar : Node → Bool) → Premises s liar → (p m : ℕ) (L : Log) → Sound s.rules s.chain liar L → (b : Block) → accepted_at s.rules p m L ≡ Some b → (m < length s.chain) × (b ≡ block_at s.chain m)
accepted_chain s liar h p m L good b e = one (length (completed s.rules p m L) == m) e
  where
    one : (c : Bool) → cond c (accepted s.rules (suc m) (tip s.rules (completed s.rules p m L)) L) None ≡ Some b → (m < length s.chain) × (b ≡ block_at s.chain m)
    one false k = absurd (none-some b k)
    one true k = accepted_right (in_force s.rules (serial_ledger s.rules s.chain m)) s.chain liar m (h.tame m).orderers h.numbered (tip s.rules (completed s.rules p m L)) L good b k

with_chain : (s : Setting) (liar : Node → Bool) → Premises s liar → (p : ℕ) (L : Log) → Sound s.rules s.chain liar L → IsWithChain s p L
with_chain s liar h p L good =
    let r = ledger_right s.rules h.local s.chain liar h.tame h.numbered p (length L) L good in
    record {
      runs = never_split s.rules h.local s.chain liar h.tame h.numbered p L good;
      accepted = λ m b e. accepted_chain s liar h p m L good b e;
      agreed = λ m b t o e k. agreed_at (serial_outcomes_at s.rules s.chain m) (standings_at s.rules p m b L) t o (works_right s.rules h.local s.chain liar h.tame h.numbered p m L good b e).1 k;
      known = λ m b t o e k. believed_at (serial_outcomes_at s.rules s.chain m) (standings_at s.rules p m b L) t o (works_right s.rules h.local s.chain liar h.tame h.numbered p m L good b e).1 k;
      few = r.1;
      blocks = r.0;
      state = ap (ledger_state s.rules) r.0;
    }

-- ONE WORLD

-- where few nodes say what they like, the world of any events is sound
pub world_sound : (s : Setting) (liar : Node → Bool) → Premises s liar → (es : List Event) (w : World) → AllByRecursion (IsSaidBy liar) es → IsWorld s es w → IsSoundWorld s liar w
world_sound s liar h es w said lead = world_keeps s (IsSound s.rules s.chain liar) (sends_sound s liar h) es (start s) w (may_say s liar es said) lead (start_sound s liar)

-- and each peer is with the chain in a sound world
pub peer_with_chain : (s : Setting) (liar : Node → Bool) → Premises s liar → (w : World) → IsSoundWorld s liar w → (p : ℕ) → IsWithChain s p (heard s.rules p (log_of w p))
peer_with_chain s liar h w sound p =
    let good = all_at (Sound s.rules s.chain liar) w.logs p [] tt sound.logs in
    subst (IsWithChain s p) (sym (hears_all s.rules h.local s.chain liar h.tame h.numbered p (log_of w p) good)) (with_chain s liar h p (log_of w p) good)

-- THE CHAIN

pub numbered_from : (table : Table) (bodies : List Body) (n : ℕ) (prev : List ℕ) (m : ℕ) → m < length (chain_from table n prev bodies) → (block_at (chain_from table n prev bodies) m).number ≡ n + m
numbered_from table [] n prev m h = absurd (omega arith)
numbered_from table (body ∷ rest) n prev zero h = omega arith
numbered_from table (body ∷ rest) n prev (suc m) h = numbered_from table rest (suc n) _ m (omega arith) ∙ omega arith

-- what holds throughout for the setting of a document, where these nodes are few
pub premises : (table : Table) (genesis : State) (items : List Item) (bodies : List Body) (faulty : List Node) (liar : Node → Bool) → let s = setting_of table genesis items bodies faulty in IsTameAll s.rules s.chain liar → Premises s liar
premises table genesis items bodies faulty liar tame = record {
  local = rules_local table genesis;
  tame = tame;
  numbered = λ m h. numbered_from table bodies 1 no_hash m h ∙ omega arith;
}

pub agreement : Agreement
agreement table genesis items bodies faulty events w tame said world =
    let s = setting_of table genesis items bodies faulty in
    let h = premises table genesis items bodies faulty (is_faulty s) (tame_all s tame) in
    let sound = world_sound s (is_faulty s) h events w (said_by_the_faulty s events (recursion_from_All (IsSaidByFaulty s) events said)) world in
    record { votes = sound.pool; peers = peer_with_chain s (is_faulty s) h w sound }
