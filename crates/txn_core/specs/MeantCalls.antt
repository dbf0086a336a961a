-- What the parts of a call, and its answers, stand for.
use Rattle.std.specs.Prelude.{◌≡◌, ℕ, List, Option, Some, None, Result, Ok, Err, slice_index}
use Rattle.txn_types.specs.declared.txn.Arg.{Arg}
use Rattle.txn_types.specs.declared.txn.Reason.{Reason}
use Rattle.oxii_defs.specs.Calls.{Call, Frame}
use Rattle.oxii_defs.specs.Running.{Answer}
use Rattle.txn_core.specs.Frames.{place}

-- what may be read of the inputs
abbrev pub seen_input : List ℕ → Option ℕ → Option ℕ
seen_input inputs None = None
seen_input inputs (Some at) = Some (slice_index inputs at)

-- the call with these arguments, read set and inputs
abbrev pub given : List Arg → List ℕ → List ℕ → Call
given args reads inputs = record { args = args; reads = λ r. seen_input inputs (place reads r) }

-- the meaning is this new frame, or this reason
abbrev pub GivesFrame : {A : Type 0} → Result A Reason → Answer Frame → Frame → Type 0
GivesFrame (Ok _) meaning new = meaning ≡ Ok new
GivesFrame (Err r) meaning new = meaning ≡ Err r
