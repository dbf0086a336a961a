-- What a peer keeps.
use Rattle.std.specs.Prelude.{ℕ, ◌≡◌, ◌++◌, ◌∷◌, [], Bool, true, false, List, length, Option, Some, None, IfSome}
use Rattle.std.specs.List.{All, list_all}
use Rattle.std.specs.Option.{option_map}
use Rattle.txn_types.specs.declared.message.Split.{Split}
use Rattle.txn_types.specs.declared.message.Message.{Message}
use Rattle.txn_types.specs.declared.message.Message.TheVariants as message
use Rattle.txn_types.specs.declared.txn.Outcome.{Outcome}
use Rattle.oxii_defs.specs.Table as meant
use Rattle.txn_core.specs.declared.table.Table.{Table}
use Rattle.txn_core.specs.MeantTable.{table_of}
use Rattle.oxii_defs.specs.Lawful.{IsLawfulTable, IsLawfulBlock}
use Rattle.oxii_defs.specs.BlockBytes.{block_hash}
use Rattle.txn_core.specs.States.{state_of}
use Rattle.node_defs.specs.Ledger.{Halt, after_outcomes, first_halt, is_agreed}
use Rattle.newblock_quorum.specs.Entries as inbox
use Rattle.vote_book.specs.Ballots as book
use Rattle.hash_ledger.specs.declared.entry.Entry.{Entry}
use Rattle.hash_ledger.specs.Ledgers.{AreHashed, IsLawfulEntry}
use Rattle.peer_parts.specs.declared.force.Seats.{Seats}
use Rattle.peer_parts.specs.Judging.{stand_all}
use Rattle.hash_ledger.specs.Halts.{IsLawfulSplit, halt_of}
use Rattle.peer_work.specs.declared.opened.Opened.{Opened}
use Rattle.peer_work.specs.Openings.{IsWellOpened}
use Rattle.peer_work.specs.Completing.{forced_by, outcomes_in}
use Rattle.peer_turns.specs.declared.desk.Desk.{Desk}

-- what a peer keeps: its table and number, the counted NEWBLOCKs and votes, the completed blocks, the state and what is in force after them, the block in work, and its halt
pub record KeptPeer : Type 0 where
  pub table : Table
  pub me : ℕ
  pub inbox : inbox.KeptNewBlocks
  pub book : book.KeptVotes
  pub ledger : List Entry
  pub state : List ℕ
  pub force : List Seats
  pub work : Option Opened
  pub halted : Option Split

-- a peer with this table and desk
abbrev pub peer_of : Table → Desk → KeptPeer
peer_of table d = record { table = table; me = d.me; inbox = d.inbox; book = d.book; ledger = d.ledger; state = d.state; force = d.force; work = d.work; halted = d.halted }

-- what holds of a peer without its log
pub record IsWellKept (p : KeptPeer) : Type 0 where
  pub lawful : IsLawfulTable (table_of p.table)
  pub kind : p.inbox.kind ≡ p.table.kind
  pub blocks : All (IsLawfulBlock (table_of p.table)) (inbox.blocks_of p.inbox.entries)
  pub entries : All (IsLawfulEntry (table_of p.table)) p.ledger
  pub hashed : AreHashed (table_of p.table) p.ledger
  pub values : length p.state ≡ length p.table.records
  pub seats : length p.force ≡ length p.table.apps
  pub opened : IfSome p.work (IsWellOpened (table_of p.table) p.ledger)
  pub split : IfSome p.halted (IsLawfulSplit (table_of p.table))

-- a peer with this in work, halted so
abbrev pub with_work : KeptPeer → Option Opened → Option Split → KeptPeer
with_work p work halted = record { table = p.table; me = p.me; inbox = p.inbox; book = p.book; ledger = p.ledger; state = p.state; force = p.force; work = work; halted = halted }

-- what becomes of a block on which all is done for a message
pub record Judged (o : Opened) (agreed : List (Option Outcome)) (more : Bool) (old new : KeptPeer) : Type 0 where
  pub splits : (h : Halt) → first_halt o.block.number 0 o.block.txns (stand_all o.own o.known agreed) ≡ Some h → (more ≡ false) × (option_map halt_of new.halted ≡ Some h) × (new ≡ with_work old None new.halted)
  pub waits : first_halt o.block.number 0 o.block.txns (stand_all o.own o.known agreed) ≡ None → list_all is_agreed (stand_all o.own o.known agreed) ≡ false → (more ≡ false) × (new ≡ with_work old (Some o) old.halted)
  pub completes : first_halt o.block.number 0 o.block.txns (stand_all o.own o.known agreed) ≡ None → list_all is_agreed (stand_all o.own o.known agreed) ≡ true → (more ≡ true)
      × (new ≡ record {
        table = old.table;
        me = old.me;
        inbox = old.inbox;
        book = old.book;
        ledger = old.ledger ++ record { block = o.block; outcomes = outcomes_in agreed; hash = block_hash (table_of old.table) o.block } ∷ [];
        state = new.state;
        force = forced_by old.force o.block.config;
        work = None;
        halted = old.halted;
      }) × (state_of new.state ≡ after_outcomes (state_of old.state) o.block.txns (outcomes_in agreed))

-- a NEWBLOCK's block is lawful
abbrev pub IsLawfulMessage : meant.Table → Message → Type 0
IsLawfulMessage table (message.NewBlock m) = IsLawfulBlock table m.block
IsLawfulMessage table (message.Commit c) = Unit {0}
