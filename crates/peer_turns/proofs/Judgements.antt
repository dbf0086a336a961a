-- What the completion of a block leaves.
use Rattle.std.specs.Prelude.{ℕ, ◌≡◌, ◌++◌, ◌∷◌, [], true, false, List, length, Option, Some, None, IfSome, is_some, refl}
use Rattle.std.specs.List.{All, list_all}
use Rattle.std.specs.Option.{option_map}
use Rattle.std.proofs.Common.{sym, ◌∙◌, ap, subst}
use Rattle.std.proofs.lemmas.Bool.{true≢false}
use Rattle.std.proofs.lemmas.Option.{none-some}
use Rattle.std.proofs.lemmas.List.{length-set}
use Rattle.std.proofs.lemmas.List.Elements.{All-push}
use Rattle.txn_types.specs.declared.txn.Outcome.{Outcome}
use Rattle.txn_types.specs.declared.message.Split.{Split}
use Rattle.txn_types.specs.declared.block.Config.{Config}
use Rattle.oxii_defs.specs.BlockBytes.{block_hash}
use Rattle.txn_core.specs.MeantTable.{table_of}
use Rattle.txn_core.specs.States.{state_of}
use Rattle.node_defs.specs.Ledger.{Halt, after_outcomes, first_halt, is_agreed}
use Rattle.hash_ledger.specs.declared.entry.Entry.{Entry}
use Rattle.hash_ledger.specs.Ledgers.{AreHashed, IsLawfulEntry}
use Rattle.steal_pool.specs.Fitting.{AllFitAt}
use Rattle.peer_parts.specs.declared.force.Seats.{Seats}
use Rattle.peer_parts.specs.Judging.{stand_all}
use Rattle.hash_ledger.specs.Halts.{IsLawfulSplit, halt_of}
use Rattle.peer_work.specs.declared.opened.Opened.{Opened}
use Rattle.peer_work.specs.Openings.{IsWellOpened}
use Rattle.peer_work.specs.Completing.{forced_by, outcomes_in}
use Rattle.peer_turns.specs.Peers.{KeptPeer, IsWellKept, Judged, with_work}
use Rattle.peer_turns.proofs.Splits.{split_lawful}
use Rattle.peer_work.proofs.Finishing.{agreed_fit}

abbrev pub entered : KeptPeer → Opened → List (Option Outcome) → Entry
entered p o agreed = record { block = o.block; outcomes = outcomes_in agreed; hash = block_hash (table_of p.table) o.block }

abbrev pub with_block : KeptPeer → Option Opened → List Entry → List ℕ → List Seats → KeptPeer
with_block p work ledger state force = record { table = p.table; me = p.me; inbox = p.inbox; book = p.book; ledger = ledger; state = state; force = force; work = work; halted = p.halted }

-- a peer with these parts behind a turn
abbrev with_parts : KeptPeer → List Entry → List ℕ → List Seats → Option Opened → Option Split → KeptPeer
with_parts p ledger state force work halted = record { table = p.table; me = p.me; inbox = p.inbox; book = p.book; ledger = ledger; state = state; force = force; work = work; halted = halted }

-- is kept as well as it was, where these parts are lawful
kept_with : (p : KeptPeer) (ledger : List Entry) (state : List ℕ) (force : List Seats) (work : Option Opened) (halted : Option Split) → IsWellKept p
    → All (IsLawfulEntry (table_of p.table)) ledger → AreHashed (table_of p.table) ledger → length state ≡ length p.table.records → length force ≡ length p.table.apps
    → IfSome work (IsWellOpened (table_of p.table) ledger) → IfSome halted (IsLawfulSplit (table_of p.table)) → IsWellKept (with_parts p ledger state force work halted)
kept_with p ledger state force work halted w entries hashed values seats opened split = record {
  lawful = w.lawful;
  kind = w.kind;
  blocks = w.blocks;
  entries = entries;
  hashed = hashed;
  values = values;
  seats = seats;
  opened = opened;
  split = split;
}

length_forced : (force : List Seats) (c : Option Config) → length (forced_by force c) ≡ length force
length_forced force None = refl
length_forced force (Some c) = length-set force c.app (record { agents = c.agents; tau = c.tau })

pub done_well : (p : KeptPeer) (o : Opened) (agreed : List (Option Outcome)) (ledger : List Entry) (state : List ℕ) (force : List Seats) → p.work ≡ None → IsWellKept p → IsWellOpened (table_of p.table) p.ledger o → length agreed ≡ length o.block.txns → AllFitAt o.block.txns agreed
    → ledger ≡ p.ledger ++ entered p o agreed ∷ [] → length state ≡ length p.state → force ≡ forced_by p.force o.block.config → IsWellKept (with_block p p.work ledger state force)
done_well p o agreed ledger state force none w well long fit l s f =
    kept_with p ledger state force p.work p.halted w
    (subst (All (IsLawfulEntry (table_of p.table))) (sym l) (All-push (IsLawfulEntry (table_of p.table)) p.ledger (entered p o agreed) w.entries (well.whole.lawful, agreed_fit o.block.txns agreed long fit)))
    (subst (AreHashed (table_of p.table)) (sym l) (All-push (λ e. e.hash ≡ block_hash (table_of p.table) e.block) p.ledger (entered p o agreed) w.hashed refl))
    (s ∙ w.values) (ap length f ∙ (length_forced p.force o.block.config ∙ w.seats))
    (subst (λ (x : Option Opened). IfSome x (IsWellOpened (table_of p.table) ledger)) (sym none) tt) w.split

pub halts_well : (p : KeptPeer) (o : Opened) (agreed : List (Option Outcome)) (split : Option Split) → IsWellKept p → IsWellOpened (table_of p.table) p.ledger o → AllFitAt o.block.txns agreed
    → option_map halt_of split ≡ first_halt o.block.number 0 o.block.txns (stand_all o.own o.known agreed) → IsWellKept (with_work p p.work split)
halts_well p o agreed split w well fit e =
    kept_with p p.ledger p.state p.force p.work split w w.entries w.hashed w.values w.seats w.opened
    (split_lawful (table_of p.table) o.block.number o.block.txns o.block.config o.own o.known agreed split well.whole.lawful well.whole.fits fit e)

pub done_judged : (p : KeptPeer) (o : Opened) (agreed : List (Option Outcome)) (ledger : List Entry) (state : List ℕ) (force : List Seats) (split : Option Split) → p.work ≡ None → option_map halt_of split ≡ first_halt o.block.number 0 o.block.txns (stand_all o.own o.known agreed) → is_some split ≡ false
    → list_all is_agreed (stand_all o.own o.known agreed) ≡ true → ledger ≡ p.ledger ++ entered p o agreed ∷ [] → state_of state ≡ after_outcomes (state_of p.state) o.block.txns (outcomes_in agreed) → force ≡ forced_by p.force o.block.config
    → Judged o agreed true p (with_block p p.work ledger state force)
done_judged p o agreed ledger state force split empty e n d l s f = record {
  splits = λ h k. absurd (none h (e ∙ k) split n);
  waits = λ k h. absurd (true≢false (sym d ∙ h));
  completes = λ k h. (refl, made p.work None ledger (p.ledger ++ entered p o agreed ∷ []) force (forced_by p.force o.block.config) empty l f, s);
}
  where
    none : (h : Halt) → option_map halt_of split ≡ Some h → (x : Option Split) → is_some split ≡ false → ⊥
    none h q x m = two split q m
      where
        two : (y : Option Split) → option_map halt_of y ≡ Some h → is_some y ≡ false → ⊥
        two None a b = none-some h a
        two (Some z) a b = true≢false b

    made : (w1 w2 : Option Opened) (l1 l2 : List Entry) (f1 f2 : List Seats) → w1 ≡ w2 → l1 ≡ l2 → f1 ≡ f2 → with_block p w1 l1 state f1 ≡ with_block p w2 l2 state f2
    made w1 w2 l1 l2 f1 f2 c a b = cc
