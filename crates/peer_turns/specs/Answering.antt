-- The note of a message, by what is put.
use Rattle.std.specs.Prelude.{ℕ, Bool, if◌then◌else◌, nat_lt}
use Rattle.txn_types.specs.declared.message.Node.{Node}
use Rattle.txn_types.specs.declared.message.Node.TheVariants.{Peer, Orderer}
use Rattle.newblock_quorum.specs.declared.entry.NewBlockPut.{NewBlockPut}
use Rattle.newblock_quorum.specs.declared.entry.NewBlockPut.TheVariants as put
use Rattle.peer_laws.specs.declared.note.Note.{Note}
use Rattle.peer_laws.specs.declared.note.Note.TheVariants.{Counted, Repeat, Stranger, WrongGraph}

-- the note of a NEWBLOCK with this answer of the inbox
abbrev pub put_note : NewBlockPut → Note
put_note put.Stranger = Stranger
put_note put.WrongGraph = WrongGraph
put_note put.Repeat = Repeat
put_note put.Counted = Counted

-- the note of a COMMIT to one of so many peers, by whether a vote of it is new
abbrev pub votes_note : ℕ → Node → Bool → Note
votes_note peers (Orderer o) new = Stranger
votes_note peers (Peer p) new = if nat_lt p peers then (if new then Counted else Repeat) else Stranger
