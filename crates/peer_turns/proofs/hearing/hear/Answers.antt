-- What the check of `hear` leaves to show.
use Rattle.std.proofs.Common.{sym, ◌∙◌, ap, length, false, subst}
use Rattle.txn_types.specs.declared.message.Message.{Message}
use Rattle.txn_types.specs.declared.message.Message.TheVariants as message
use Rattle.txn_types.specs.declared.message.NewBlock.{NewBlock}
use Rattle.oxii_defs.specs.Lawful.{IsLawfulBlock}
use Rattle.txn_core.specs.MeantTable.{table_of}
use Rattle.newblock_quorum.proofs.Lawful.{blocks_keep}
use Rattle.peer_laws.specs.declared.note.Note.{Note}
use Rattle.peer_turns.specs.Answering.{put_note, votes_note}
use Rattle.peer_turns.specs.Peers.{IsLawfulMessage, KeptPeer, peer_of}
use Rattle.peer_turns.specs.Relation.{HearsOf, NotesOf, letter_from}
use Rattle.peer_turns.proofs.HearLemmas.{with_heard, heard_newblock, heard_commit, heard_own, noted_newblock, noted_commit, noted_own}
use Rattle.peer_turns.proofs.hearing.hear.Goals as goal

pub returns-in_ok-answer-in-NewBlock-clause-kept : goal.returns-in_ok-answer-in-NewBlock-clause-kept
returns-in_ok-answer-in-NewBlock-clause-kept c =
    let w = c.requires.kept in
    let table = table_of c.args.table.now in
    let keeps = c.in_ok-answer-in-NewBlock.ensures.keeps in
    let copied = c.in_ok-copied-in-NewBlock in
    let brought = subst (λ (m : Message). IsLawfulMessage table m) c.in-NewBlock.is c.requires.lawful in
    let lawful = subst (λ (m : NewBlock). IsLawfulBlock table m.block) (sym copied.ensures) brought in
    record {
      lawful = w.lawful;
      kind = keeps.kind ∙ w.kind;
      blocks = blocks_keep (IsLawfulBlock table) c.args.desk.now.inbox copied.copied.block c.put.new.self keeps w.blocks lawful;
      entries = w.entries;
      hashed = w.hashed;
      values = w.values;
      seats = w.seats;
      opened = w.opened;
      split = w.split;
    }

pub returns-in_ok-answer-in-NewBlock-clause-heard : goal.returns-in_ok-answer-in-NewBlock-clause-heard
returns-in_ok-answer-in-NewBlock-clause-heard c =
    let p : KeptPeer = peer_of c.args.table.now c.args.desk.now in
    subst (λ (m : Message). HearsOf (letter_from c.args.from m) p (with_heard p c.put.new.self p.book)) (sym c.in-NewBlock.is)
    (subst (λ (m : NewBlock). HearsOf (letter_from c.args.from (message.NewBlock m)) p (with_heard p c.put.new.self p.book)) c.in_ok-copied-in-NewBlock.ensures
    (heard_newblock p c.put.new.self c.args.from c.in_ok-copied-in-NewBlock.copied c.in_ok-answer-in-NewBlock.ensures.stands))

pub returns-in_ok-answer-in-NewBlock-clause-noted : goal.returns-in_ok-answer-in-NewBlock-clause-noted
returns-in_ok-answer-in-NewBlock-clause-noted c =
    let p : KeptPeer = peer_of c.args.table.now c.args.desk.now in
    subst (λ (m : Message). NotesOf c.args.from m p c.put_note.result) (sym c.in-NewBlock.is)
    (subst (λ (n : Note). NotesOf c.args.from (message.NewBlock c.in-NewBlock.newblock) p n) (sym c.put_note.ensures)
    (subst (λ (m : NewBlock). NotesOf c.args.from (message.NewBlock m) p (put_note c.in_ok-answer-in-NewBlock.answer)) c.in_ok-copied-in-NewBlock.ensures
    (noted_newblock p c.args.from c.in_ok-copied-in-NewBlock.copied c.in_ok-answer-in-NewBlock.answer c.in_ok-answer-in-NewBlock.ensures.answer)))

pub returns-then-is_me-clause-heard : goal.returns-then-is_me-clause-heard
returns-then-is_me-clause-heard c =
    let p : KeptPeer = peer_of c.args.table.now c.args.desk.now in
    subst (λ (m : Message). HearsOf (letter_from c.args.from m) p p) (sym c.in-Commit.is)
    (heard_own p c.args.from c.in-Commit.commit (sym c.is_me.ensures ∙ c.if-is_me.true) c.commits_leave_an_inbox.ensures.law)

pub returns-then-is_me-clause-noted : goal.returns-then-is_me-clause-noted
returns-then-is_me-clause-noted c =
    let p : KeptPeer = peer_of c.args.table.now c.args.desk.now in
    subst (λ (m : Message). NotesOf c.args.from m p c.votes_note.result) (sym c.in-Commit.is)
    (subst (λ (n : Note). NotesOf c.args.from (message.Commit c.in-Commit.commit) p n) (sym (c.votes_note.ensures ∙ ap (λ n. votes_note n c.args.from false) (ap length c.as_slice-peers.ensures)))
    (noted_own p c.args.from c.in-Commit.commit (sym c.is_me.ensures ∙ c.if-is_me.true)))

pub returns-in_ok-new-in-Commit-clause-heard : goal.returns-in_ok-new-in-Commit-clause-heard
returns-in_ok-new-in-Commit-clause-heard c =
    let p : KeptPeer = peer_of c.args.table.now c.args.desk.now in
    subst (λ (m : Message). HearsOf (letter_from c.args.from m) p (with_heard p p.inbox c.hear.new.book)) (sym c.in-Commit.is)
    (heard_commit p c.hear.new.book c.args.from c.in-Commit.commit (sym c.is_me.ensures ∙ c.if-is_me.false) c.commits_leave_an_inbox.ensures.law c.in_ok-new-in-Commit.ensures.stands)

pub returns-in_ok-new-in-Commit-clause-noted : goal.returns-in_ok-new-in-Commit-clause-noted
returns-in_ok-new-in-Commit-clause-noted c =
    let p : KeptPeer = peer_of c.args.table.now c.args.desk.now in
    subst (λ (m : Message). NotesOf c.args.from m p c.votes_note-in-Commit.result) (sym c.in-Commit.is)
    (subst (λ (n : Note). NotesOf c.args.from (message.Commit c.in-Commit.commit) p n) (sym (c.votes_note-in-Commit.ensures ∙ ap (λ n. votes_note n c.args.from c.in_ok-new-in-Commit.new) (ap length c.as_slice-peers.ensures)))
    (noted_commit p c.args.from c.in-Commit.commit c.in_ok-new-in-Commit.new (sym c.is_me.ensures ∙ c.if-is_me.false) c.in_ok-new-in-Commit.ensures.new))
