-- A request is read exactly where an object says it.
use Rattle.std.proofs.Common.{◌≡◌, ℕ, List, [], Option, Some, None, Result, Ok, refl, sym, ap, subst, ◌∙◌}
use Rattle.std.specs.Prelude.{codes}
use Rattle.serde_json.specs.Data.{Data, string, Members}
use Rattle.serde_json.specs.Find.{get_member, as_str}
use Rattle.txn_types.specs.Values.{max_value}
use Rattle.txn_types.specs.declared.txn.Arg.{Arg}
use Rattle.txn_types.specs.declared.txn.Arg.TheVariants.{Rec, Num}
use Rattle.txn_types.specs.declared.stream.Request.{Request}
use Rattle.doc_forms.specs.declared.fault.Which.TheVariants as word
use Rattle.doc_forms.specs.Faults.{Fault}
use Rattle.doc_forms.specs.Forms as form
use Rattle.doc_forms.specs.Forms.{name_at, number_in, list_at}
use Rattle.doc_forms.specs.Tables.{place_below, reference}
use Rattle.doc_forms.specs.Meaning.{IsNameAt, HasList, HasSet}
use Rattle.doc_forms.proofs.LookUps.{AreNumbered, place_finds}
use Rattle.doc_forms.proofs.Meant.{bind_ok, number_means, number_reads, only_means, only_reads, name_at_means, name_at_reads, reference_means, reference_reads}
use Rattle.doc_forms.proofs.EachMeant.{IsStep, at_end, any, all_at_end, all_any, list_at_means, list_at_reads}
use Rattle.doc_stream.specs.Requests.{argument, argument_by, next_argument, args_at, set_at, stream_request}
use Rattle.doc_stream.specs.StreamMeaning.{SaysArg, SaysRequest}
use Rattle.doc_forms.proofs.SetsMeant.{set_at_means, set_at_reads}

-- an argument

abbrev arg_is : Arg → Result Arg Fault
arg_is a = Ok a

same_arg : (a b : Arg) → arg_is a ≡ arg_is b → a ≡ b
same_arg a b h = cc

abbrev args_are : List Arg → Result (List Arg) Fault
args_are args = Ok args

same_args : (a b : List Arg) → args_are a ≡ args_are b → a ≡ b
same_args a b h = cc

abbrev some_data : Data → Option Data
some_data d = Some d

same_data : (c d : Data) → some_data c ≡ some_data d → c ≡ d
same_data c d h = cc

argument_by_means : (records : List (List ℕ)) → AreNumbered 65536 records → (d : Data) (text : Option (List ℕ)) (a : Arg) → argument_by records d text ≡ Ok a → SaysArg records d a
argument_by_means records numbered d (Some text) a e =
    let r = bind_ok (reference (place_below 65536 records) (Some d)) _ a e in
    subst (SaysArg records d) (same_arg (Rec r.0) a r.2) (reference_means (place_below 65536 records) (IsNameAt records) (place_finds 65536 records numbered) (Some d) r.0 r.1)
argument_by_means records numbered d None a e =
    let n = bind_ok (number_in 0 max_value word.Value (Some d)) _ a e in
    subst (SaysArg records d) (same_arg (Num n.0) a n.2) (number_means 0 max_value word.Value (Some d) n.0 n.1)

argument_reads : (records : List (List ℕ)) → AreNumbered 65536 records → (d : Data) (a : Arg) → SaysArg records d a → argument records d ≡ Ok a
unfolding argument
argument_reads records numbered d (Rec r) h =
    let text : as_str d ≡ Some h.0 = ap as_str (same_data d (string h.0) h.1.0) in
    rw text (rw (reference_reads (place_below 65536 records) (IsNameAt records) (place_finds 65536 records numbered) (Some d) r h) refl)
argument_reads records numbered d (Num n) h =
    let text : as_str d ≡ None = ap as_str (same_data d _ h.0) in
    rw text (rw (number_reads 0 max_value word.Value (Some d) n h) refl)

next_argument_means : (records : List (List ℕ)) → AreNumbered 65536 records → (before after : List Arg) (d : Data) → next_argument records before d ≡ Ok after → (a : Arg) × SaysArg records d a × any before a × (at_end before a ≡ after)
unfolding next_argument argument
next_argument_means records numbered before after d e =
    let a = bind_ok (argument records d) _ after e in
    (a.0, argument_by_means records numbered d (as_str d) a.0 a.1, tt, same_args _ _ a.2)

next_argument_reads : (records : List (List ℕ)) → AreNumbered 65536 records → (before : List Arg) (d : Data) (a : Arg) → SaysArg records d a → any before a → next_argument records before d ≡ Ok (at_end before a)
unfolding next_argument
next_argument_reads records numbered before d a h u = rw (argument_reads records numbered d a h) refl

is_step : (records : List (List ℕ)) → AreNumbered 65536 records → IsStep (next_argument records) (SaysArg records) at_end any
is_step records numbered = record { means = next_argument_means records numbered; reads = next_argument_reads records numbered }

args_mean : (records : List (List ℕ)) → AreNumbered 65536 records → (ms : Members) (args : List Arg) → args_at records ms ≡ Ok args → HasList (SaysArg records) 0 64 (get_member (codes "args") ms) args
unfolding args_at
args_mean records numbered ms args e =
    let gave = list_at_means (next_argument records) (SaysArg records) at_end any (is_step records numbered) (codes "args") 0 64 word.Args [] ms args e in
    subst (HasList (SaysArg records) 0 64 (get_member (codes "args") ms)) (sym (all_at_end [] gave.xs) ∙ gave.is) gave.list

args_read : (records : List (List ℕ)) → AreNumbered 65536 records → (ms : Members) (args : List Arg) → HasList (SaysArg records) 0 64 (get_member (codes "args") ms) args → args_at records ms ≡ Ok args
unfolding args_at
args_read records numbered ms args h =
    list_at_reads (next_argument records) (SaysArg records) at_end any (is_step records numbered) (codes "args") 0 64 word.Args [] ms args h (all_any at_end [] args) ∙ ap args_are (all_at_end [] args)

-- a set

set_means : (k : List ℕ) (records : List (List ℕ)) → AreNumbered 65536 records → (ms : Members) (set : List ℕ) → set_at k records ms ≡ Ok set → HasSet (λ r. r) (IsNameAt records) 0 64 (get_member k ms) set
unfolding set_at
set_means k records numbered ms set e = set_at_means (λ r. r) (place_below 65536 records) (IsNameAt records) (place_finds 65536 records numbered) k 0 64 word.Set ms set e

set_reads : (k : List ℕ) (records : List (List ℕ)) → AreNumbered 65536 records → (ms : Members) (set : List ℕ) → HasSet (λ r. r) (IsNameAt records) 0 64 (get_member k ms) set → set_at k records ms ≡ Ok set
unfolding set_at
set_reads k records numbered ms set h = set_at_reads (λ r. r) (place_below 65536 records) (IsNameAt records) (place_finds 65536 records numbered) k 0 64 word.Set ms set h

-- a request

abbrev request_is : Request → Result Request Fault
request_is r = Ok r

same_request : (a b : Request) → request_is a ≡ request_is b → a ≡ b
same_request a b h = cc

pub request_means : (records : List (List ℕ)) → AreNumbered 65536 records → (ms : Members) (r : Request) → stream_request records ms ≡ Ok r → SaysRequest records ms r
unfolding stream_request
request_means records numbered ms r e =
    let client = bind_ok (name_at (codes "client") ms) _ r e in
    let app = bind_ok (name_at (codes "app") ms) _ r client.2 in
    let op = bind_ok (name_at (codes "op") ms) _ r app.2 in
    let args = bind_ok (args_at records ms) _ r op.2 in
    let reads = bind_ok (set_at (codes "reads") records ms) _ r args.2 in
    let writes = bind_ok (set_at (codes "writes") records ms) _ r reads.2 in
    let end = bind_ok (form.only _ ms) _ r writes.2 in
    subst (SaysRequest records ms) (same_request (record { client = client.0; app = app.0; op = op.0; args = args.0; reads = reads.0; writes = writes.0 }) r end.2) (record {
      client = name_at_means _ ms client.0 client.1;
      app = name_at_means _ ms app.0 app.1;
      op = name_at_means _ ms op.0 op.1;
      args = args_mean records numbered ms args.0 args.1;
      reads = set_means _ records numbered ms reads.0 reads.1;
      writes = set_means _ records numbered ms writes.0 writes.1;
      only = only_means _ ms end.0 end.1;
    })

pub request_reads : (records : List (List ℕ)) → AreNumbered 65536 records → (ms : Members) (r : Request) → SaysRequest records ms r → stream_request records ms ≡ Ok r
unfolding stream_request
request_reads records numbered ms r h =
    rw (
      name_at_reads (codes "client") ms r.client h.client,
      name_at_reads (codes "app") ms r.app h.app,
      name_at_reads (codes "op") ms r.op h.op,
      args_read records numbered ms r.args h.args,
      set_reads (codes "reads") records numbered ms r.reads h.reads,
      set_reads (codes "writes") records numbered ms r.writes h.writes,
      only_reads _ ms h.only,
    ) refl
