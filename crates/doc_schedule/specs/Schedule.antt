-- The schedule: its events, with their counts and sums.
use Rattle.std.specs.Prelude.{ℕ, ◌+◌, List, [], ◌∷◌, ◌++◌, codes, length, Option, Some, None, option_and_then, Result, Ok, Err, nat_le, if◌then◌else◌}
use Rattle.std.specs.Str.{bytes_eq}
use Rattle.serde_json.specs.Data.{Data, Members}
use Rattle.serde_json.specs.Find.{as_str}
use Rattle.txn_types.specs.Values.{max_number, max_false}
use Rattle.txn_types.specs.declared.event.Event.{Event}
use Rattle.txn_types.specs.declared.event.Event.TheVariants as event
use Rattle.txn_types.specs.declared.message.Node.{Node}
use Rattle.doc_forms.specs.declared.fault.Which.TheVariants as word
use Rattle.doc_forms.specs.Faults.{Fault, Limit}
use Rattle.doc_forms.specs.Check.{◌>>=◌}
use Rattle.doc_forms.specs.Forms.{at, wanted, list_at, number_at, object, only}
use Rattle.doc_forms.specs.Tables.{place_below, reference}
use Rattle.doc_schedule.specs.declared.tables.ItemRole.{ItemRole}
use Rattle.doc_schedule.specs.declared.events.What.{What}
use Rattle.doc_schedule.specs.declared.events.What.TheVariants as what
use Rattle.doc_schedule.specs.declared.events.Played.{Played}
use Rattle.doc_schedule.specs.Tables.{faulty_at}
use Rattle.doc_schedule.specs.Votes.{votes_at}
use Rattle.doc_schedule.specs.Blocks.{txns_at, links_at}

unfoldable pub what_of : List ℕ → Option What
what_of text = if bytes_eq text (codes "deliver") then Some what.Deliver else (
    if bytes_eq text (codes "all") then Some what.All else (
    if bytes_eq text (codes "block") then Some what.Block else (
    if bytes_eq text (codes "commit") then Some what.Commit else None)))

unfoldable pub to_do : Option Data → Result What Fault
to_do v = do
  text ← wanted (option_and_then as_str v)
  wanted (what_of text)

-- no events yet
abbrev pub no_events_yet : Played
no_events_yet = record { events = []; alls = 0; falses = 0; false_txns = 0; false_votes = 0 }

-- one event more, with what it counts
abbrev pub with_event : Played → Event → Played
with_event made (event.Deliver msg to) = record { events = made.events ++ event.Deliver msg to ∷ []; alls = made.alls; falses = made.falses; false_txns = made.false_txns; false_votes = made.false_votes }
with_event made event.All = record { events = made.events ++ event.All ∷ []; alls = made.alls + 1; falses = made.falses; false_txns = made.false_txns; false_votes = made.false_votes }
with_event made (event.SayBlock from number prev items preds) = record { events = made.events ++ event.SayBlock from number prev items preds ∷ []; alls = made.alls; falses = made.falses + 1; false_txns = made.false_txns + length items; false_votes = made.false_votes }
with_event made (event.SayCommit from commit) = record { events = made.events ++ event.SayCommit from commit ∷ []; alls = made.alls; falses = made.falses + 1; false_txns = made.false_txns; false_votes = made.false_votes + length commit.votes }

-- the number of a message
unfoldable pub msg_at : Members → Result ℕ Fault
msg_at ms = number_at (codes "msg") 1 4294967295 word.Msg ms

unfoldable pub deliver : List (List ℕ) → Played → Members → Result Played Fault
deliver peers made ms = do
  msg ← msg_at ms
  to ← at (codes "to") ms (reference (place_below 256 peers))
  end ← only (codes "do" ∷ codes "msg" ∷ codes "to" ∷ []) ms
  Ok (with_event made (event.Deliver msg to))

-- the ninth is a fault before its other keys
unfoldable pub all : Played → Members → Result Played Fault
all made ms = if nat_le 8 made.alls then Err (Limit word.All 8) else (do
  end ← only (codes "do" ∷ []) ms
  Ok (with_event made event.All))

-- the keys of a `block` event
unfoldable pub say_block : List (List ℕ) → List (List ℕ) → List Node → List ItemRole → Played → Members → Result Played Fault
say_block orderers peers faulty roles made ms = do
  from ← faulty_at orderers peers faulty ms
  number ← number_at (codes "number") 1 max_number word.Number ms
  items ← txns_at roles made.false_txns ms
  links ← links_at roles items ms
  Ok (with_event made (event.SayBlock from number links.0 items links.1))

-- the keys of a `commit` event
unfoldable pub say_commit : List (List ℕ) → List (List ℕ) → List Node → Played → Members → Result Played Fault
say_commit orderers peers faulty made ms = do
  from ← faulty_at orderers peers faulty ms
  n ← number_at (codes "block") 1 max_number word.Block ms
  votes ← votes_at made.false_votes ms
  end ← only (codes "do" ∷ codes "from" ∷ codes "block" ∷ codes "votes" ∷ []) ms
  Ok (with_event made (event.SayCommit from (record { n = n; votes = votes })))

-- one false message too many is a fault before its other keys
unfoldable pub false_block : List (List ℕ) → List (List ℕ) → List Node → List ItemRole → Played → Members → Result Played Fault
false_block orderers peers faulty roles made ms = if nat_le max_false made.falses then Err (Limit word.False max_false) else say_block orderers peers faulty roles made ms

unfoldable pub false_commit : List (List ℕ) → List (List ℕ) → List Node → Played → Members → Result Played Fault
false_commit orderers peers faulty made ms = if nat_le max_false made.falses then Err (Limit word.False max_false) else say_commit orderers peers faulty made ms

abbrev pub by_what : List (List ℕ) → List (List ℕ) → List Node → List ItemRole → Played → Members → What → Result Played Fault
by_what orderers peers faulty roles made ms what.Deliver = deliver peers made ms
by_what orderers peers faulty roles made ms what.All = all made ms
by_what orderers peers faulty roles made ms what.Block = false_block orderers peers faulty roles made ms
by_what orderers peers faulty roles made ms what.Commit = false_commit orderers peers faulty made ms

unfoldable pub next_event : List (List ℕ) → List (List ℕ) → List Node → List ItemRole → Played → Data → Result Played Fault
next_event orderers peers faulty roles made d = do
  ms ← object (Some d)
  what ← at (codes "do") ms to_do
  by_what orderers peers faulty roles made ms what

-- the events at the key `schedule`
unfoldable pub schedule : List (List ℕ) → List (List ℕ) → List Node → List ItemRole → Members → Result (List Event) Fault
schedule orderers peers faulty roles ms = do
  made ← list_at (codes "schedule") 0 65536 word.Schedule (next_event orderers peers faulty roles) no_events_yet ms
  Ok made.events
