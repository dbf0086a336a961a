-- The printed text of a world.
use Rattle.std.specs.Prelude.{ℕ, ◌++◌, ◌+◌, ◌≡◌, if◌then◌else◌, List, [], ◌∷◌, length, reverse, Option, Some, None, codes, decimal}
use Rattle.std.specs.List.{flat_map}
use Rattle.txn_types.specs.declared.txn.Outcome.{Outcome}
use Rattle.txn_types.specs.declared.message.Node.TheVariants.{Peer}
use Rattle.txn_types.specs.declared.stream.Reject.{Reject}
use Rattle.txn_types.specs.declared.stream.Reject.TheVariants.{UnknownApp, ClientNotAllowed, UnknownOp, ArgCount, ArgKind, SetTooLarge}
use Rattle.txn_types.specs.declared.stream.Rejected.{Rejected}
use Rattle.txn_types.specs.declared.stream.CutLimits.{CutLimits}
use Rattle.txn_types.specs.declared.stream.Item.{Item}
use Rattle.txn_types.specs.declared.message.Node.{Node}
use Rattle.txn_types.specs.declared.event.Event.{Event}
use Rattle.oxii_defs.specs.State.{State}
use Rattle.oxii_defs.specs.Table.{Table}
use Rattle.oxii_defs.specs.Lines.{outcome_text, peer_lines, blocks_line, tail_lines}
use Rattle.node_defs.specs.Log.{Log}
use Rattle.node_defs.specs.Ledger.{Halt, halt, heard, ledger, ledger_state}
use Rattle.node_defs.specs.Cutting.{rejected_from}
use Rattle.node_defs.specs.World.{Setting, IsWorld, World, is_faulty, peers_of, count_from, log_of}
use Rattle.node_defs.specs.AgreedSettings.{IsAgreedSetting}

-- the word of a reject
abbrev pub reject_word : Reject → List ℕ
reject_word UnknownApp = codes "unknown_app"
reject_word ClientNotAllowed = codes "client_not_allowed"
reject_word UnknownOp = codes "unknown_op"
reject_word ArgCount = codes "arg_count"
reject_word ArgKind = codes "arg_kind"
reject_word SetTooLarge = codes "set_too_large"

-- items are numbered from 1
abbrev pub rejected_line : Rejected → List ℕ
rejected_line r = codes "rejected " ++ decimal (r.item + 1) ++ codes " " ++ reject_word r.why ++ codes "\n"

-- an outcome of a transaction with this write set
abbrev pub written_text : Table → List ℕ → Outcome → List ℕ
written_text table writes o = outcome_text table (record { app = 0; op = 0; args = []; reads = []; writes = writes }) o

-- block and transaction, and the outcomes of the run and of the votes
abbrev pub halted_line : Table → Option Halt → List ℕ
halted_line table None = []
halted_line table (Some h) =
    codes "halted " ++ decimal h.n ++ codes " " ++ decimal (h.t + 1)
    ++ codes " ran " ++ written_text table h.writes h.ran ++ codes " voted " ++ written_text table h.writes h.voted ++ codes "\n"

-- the lines of a peer, from what its log gives
abbrev pub part_of : Setting → ℕ → Log → List ℕ
part_of s p L =
    let done = ledger s.rules p (heard s.rules p L) in
    peer_lines s.rules.table p (reverse done) (ledger_state s.rules done) ++ halted_line s.rules.table (halt s.rules p L)

-- the parts of these peers that aren't faulty
abbrev pub parts_of : Setting → World → List ℕ → List ℕ
parts_of s w [] = []
parts_of s w (p ∷ rest) = (if is_faulty s (Peer p) then [] else part_of s p (log_of w p)) ++ parts_of s w rest

-- the whole text: the rejected requests, the count of blocks, each peer that isn't faulty, and the tail
abbrev pub text : Setting → List Rejected → World → List ℕ
text s rejected w =
    flat_map rejected_line rejected ++ blocks_line (length s.chain)
    ++ parts_of s w (count_from 0 (peers_of s)) ++ tail_lines (length w.pool) w.idle

-- the text of an input: that of the world of its events, in its setting
abbrev pub IsTextOf : Table → State → List Item → CutLimits → List Node → List Event → List ℕ → Type 0
IsTextOf table genesis items limits faulty events lines =
    (s : Setting) × IsAgreedSetting table genesis items limits faulty s
    × ((w : World) × IsWorld s events w × (lines ≡ text s (rejected_from table 0 items) w))
