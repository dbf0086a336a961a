-- The votes of false messages.
use Rattle.std.specs.Prelude.{ℕ, ◌+◌, List, [], ◌∷◌, ◌++◌, codes, Option, Some, None, option_and_then, Result, Ok, Err, nat_lt, if◌then◌else◌, ⊤}
use Rattle.std.specs.Str.{bytes_eq}
use Rattle.serde_json.specs.Data.{Data, Items, Members}
use Rattle.serde_json.specs.Find.{as_str, as_null, as_number, as_u64, get_member}
use Rattle.serde_json.specs.Events.{items_len}
use Rattle.txn_types.specs.declared.txn.Reason.{Reason}
use Rattle.txn_types.specs.declared.txn.Reason.TheVariants.{Require, Overflow, Underflow, ZeroDivisor, Undeclared}
use Rattle.txn_types.specs.declared.txn.Outcome.{Outcome}
use Rattle.txn_types.specs.declared.txn.Outcome.TheVariants.{Commit, Abort}
use Rattle.txn_types.specs.declared.message.Vote.{Vote}
use Rattle.doc_forms.specs.declared.fault.Step.TheVariants.{Key}
use Rattle.doc_forms.specs.declared.fault.Which.TheVariants as word
use Rattle.doc_forms.specs.Faults.{Fault, Limit}
use Rattle.doc_forms.specs.Check.{◌>>=◌, within}
use Rattle.doc_forms.specs.Forms.{at, wanted, each, list_in, object, only}
use Rattle.doc_schedule.specs.Places.{place_in}

unfoldable pub reason_of : List ℕ → Option Reason
reason_of text = if bytes_eq text (codes "require") then Some Require else (
    if bytes_eq text (codes "overflow") then Some Overflow else (
    if bytes_eq text (codes "underflow") then Some Underflow else (
    if bytes_eq text (codes "zero_divisor") then Some ZeroDivisor else (
    if bytes_eq text (codes "undeclared") then Some Undeclared else None))))

-- a reason by its word
unfoldable pub reason : Option Data → Result Reason Fault
reason v = do
  text ← wanted (option_and_then as_str v)
  wanted (reason_of text)

-- null, which stands for "not written", or a whole number
abbrev pub written_by : Data → Option ⊤ → Result (Option ℕ) Fault
written_by d (Some t) = Ok None
written_by d None = do
  n ← wanted (option_and_then as_u64 (as_number d))
  Ok (Some n)

unfoldable pub next_out : List (Option ℕ) → Data → Result (List (Option ℕ)) Fault
next_out before d = do
  out ← written_by d (as_null d)
  Ok (before ++ out ∷ [])

-- an entry for each record of the write set
unfoldable pub outs : Option Data → Result (List (Option ℕ)) Fault
outs v = do
  ds ← list_in 0 16 word.Out v
  each next_out 0 [] ds

unfoldable pub committed : Members → Data → Result Outcome Fault
committed ms d = do
  outs ← within (Key (codes "out")) (outs (Some d))
  end ← only (codes "txn" ∷ codes "out" ∷ []) ms
  Ok (Commit outs)

unfoldable pub aborted : Members → Result Outcome Fault
aborted ms = do
  why ← at (codes "abort") ms reason
  end ← only (codes "txn" ∷ codes "abort" ∷ []) ms
  Ok (Abort why)

-- where `out` is there, `abort` is a key that isn't listed
abbrev pub outcome_by : Members → Option Data → Result Outcome Fault
outcome_by ms (Some d) = committed ms d
outcome_by ms None = aborted ms

unfoldable pub vote : Data → Result Vote Fault
vote d = do
  ms ← object (Some d)
  t ← at (codes "txn") ms (place_in 256 word.Txn)
  outcome ← outcome_by ms (get_member (codes "out") ms)
  Ok (record { t = t; outcome = outcome })

unfoldable pub next_vote : List Vote → Data → Result (List Vote) Fault
next_vote before d = do
  v ← vote d
  Ok (before ++ v ∷ [])

-- as many votes as the limit of all lists together leaves room for: the sum is tested before the votes
unfoldable pub votes_within : ℕ → Items → Result (List Vote) Fault
votes_within total ds = if nat_lt 16384 (total + items_len ds) then Err (Limit word.FalseVotes 16384) else each next_vote 0 [] ds

unfoldable pub votes_of : ℕ → Option Data → Result (List Vote) Fault
votes_of total v = do
  ds ← list_in 0 256 word.Votes v
  votes_within total ds

-- the votes of a `commit` event, after so many votes of the events before it
unfoldable pub votes_at : ℕ → Members → Result (List Vote) Fault
votes_at total ms = at (codes "votes") ms (votes_of total)
