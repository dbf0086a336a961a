-- A request, with its first fault.
use Rattle.std.specs.Prelude.{ℕ, List, [], ◌∷◌, ◌++◌, codes, Option, Some, None, Result, Ok}
use Rattle.serde_json.specs.Data.{Data, Members}
use Rattle.serde_json.specs.Find.{as_str}
use Rattle.txn_types.specs.Values.{max_value}
use Rattle.txn_types.specs.declared.txn.Arg.{Arg}
use Rattle.txn_types.specs.declared.txn.Arg.TheVariants.{Rec, Num}
use Rattle.txn_types.specs.declared.stream.Request.{Request}
use Rattle.doc_forms.specs.declared.fault.Which.TheVariants as word
use Rattle.doc_forms.specs.Faults.{Fault}
use Rattle.doc_forms.specs.Check.{◌>>=◌}
use Rattle.doc_forms.specs.Forms.{name_at, number_in, list_at, only}
use Rattle.doc_forms.specs.Tables.{place_below, reference, new_reference}

-- a string is a reference to a record, anything else a number
abbrev pub argument_by : List (List ℕ) → Data → Option (List ℕ) → Result Arg Fault
argument_by records d (Some text) = do
  r ← reference (place_below 65536 records) (Some d)
  Ok (Rec r)
argument_by records d None = do
  n ← number_in 0 max_value word.Value (Some d)
  Ok (Num n)

unfoldable pub argument : List (List ℕ) → Data → Result Arg Fault
argument records d = argument_by records d (as_str d)

unfoldable pub next_argument : List (List ℕ) → List Arg → Data → Result (List Arg) Fault
next_argument records before d = do
  arg ← argument records d
  Ok (before ++ arg ∷ [])

-- the arguments at their key
unfoldable pub args_at : List (List ℕ) → Members → Result (List Arg) Fault
args_at records ms = list_at (codes "args") 0 64 word.Args (next_argument records) [] ms

-- a set of records at a key
unfoldable pub set_at : List ℕ → List (List ℕ) → Members → Result (List ℕ) Fault
set_at k records ms = list_at k 0 64 word.Set (new_reference (λ r. r) (place_below 65536 records)) [] ms

-- the keys of a request, in this order
unfoldable pub stream_request : List (List ℕ) → Members → Result Request Fault
stream_request records ms = do
  client ← name_at (codes "client") ms
  app ← name_at (codes "app") ms
  op ← name_at (codes "op") ms
  args ← args_at records ms
  reads ← set_at (codes "reads") records ms
  writes ← set_at (codes "writes") records ms
  end ← only (codes "client" ∷ codes "app" ∷ codes "op" ∷ codes "args" ∷ codes "reads" ∷ codes "writes" ∷ []) ms
  Ok (record { client = client; app = app; op = op; args = args; reads = reads; writes = writes })
