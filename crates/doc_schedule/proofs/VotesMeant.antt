-- A vote is read exactly where an object says it.
use Rattle.std.proofs.Common.{◌≡◌, ℕ, ◌+◌, ◌≤◌, ltb, length, Bool, true, false, cond, List, Option, Some, None, option_and_then, Ok, refl, sym, subst, arith}
use Rattle.std.proofs.lemmas.Slice.Eq.{bytes_eq-Decides}
use Rattle.std.specs.Prelude.{codes}
use Rattle.std.specs.Str.{bytes_eq}
use Rattle.serde_json.specs.Data.{unsigned, negative, float, Data, null, boolean, number, string, array, object, Members}
use Rattle.serde_json.specs.Find.{get_member, as_str}
use Rattle.serde_json.specs.Events.{items_len}
use Rattle.txn_types.specs.declared.txn.Reason.{Reason}
use Rattle.txn_types.specs.declared.txn.Reason.TheVariants.{Require, Overflow, Underflow, ZeroDivisor, Undeclared}
use Rattle.txn_types.specs.declared.txn.Outcome.{Outcome}
use Rattle.txn_types.specs.declared.txn.Outcome.TheVariants.{Commit, Abort}
use Rattle.txn_types.specs.declared.message.Vote.{Vote}
use Rattle.oxii_defs.specs.Lines.{reason_word}
use Rattle.doc_forms.specs.declared.fault.Step.TheVariants.{Key}
use Rattle.doc_forms.specs.declared.fault.Which.TheVariants as word
use Rattle.doc_forms.specs.Forms as form
use Rattle.doc_forms.specs.Forms.{at, wanted, list_in}
use Rattle.doc_forms.specs.Meaning.{HasText, HasList}
use Rattle.doc_forms.proofs.Meant.{bind_ok, within_ok, wanted_ok, text_is, same_ok, failed, only_means, only_reads}
use Rattle.doc_forms.proofs.EachMeant.{IsStep, at_end, any, list_in_means, list_in_reads}
use Rattle.doc_forms.proofs.SetsMeant.{length_of_said}
use Rattle.doc_schedule.specs.Places.{place_in}
use Rattle.doc_schedule.specs.Votes.{reason_of, reason, next_out, outs, committed, aborted, outcome_by, vote, next_vote, votes_within, votes_of, votes_at}
use Rattle.doc_schedule.specs.ScheduleMeaning.{SaysWritten, SaysOutcome, commit, abort, VoteKeys, SaysVote}
use Rattle.doc_schedule.proofs.EndsMeant.{gives, not_above, test_above, each_end_means, each_end_reads, list_end_means, list_end_reads, place_means, place_reads}

-- entries

out_means : (before after : List (Option ℕ)) (d : Data) → next_out before d ≡ Ok after → (o : Option ℕ) × SaysWritten d o × any before o × (at_end before o ≡ after)
unfolding next_out
out_means before after null e = (None, refl, tt, same_ok _ after (gives (at_end before None)) refl e)
out_means before after (boolean b) e = absurd cc
out_means before after (number (unsigned n)) e = (Some n, refl, tt, same_ok _ after (gives (at_end before (Some n))) refl e)
out_means before after (number (negative z)) e = absurd cc
out_means before after (number (float x)) e = absurd cc
out_means before after (string s) e = absurd cc
out_means before after (array ds) e = absurd cc
out_means before after (object ms) e = absurd cc

out_reads : (before : List (Option ℕ)) (d : Data) (o : Option ℕ) → SaysWritten d o → any before o → next_out before d ≡ Ok (at_end before o)
unfolding next_out
out_reads before d None h u = rw h refl
out_reads before d (Some n) h u = rw h refl

pub out_step : IsStep next_out SaysWritten at_end any
out_step = record { means = out_means; reads = out_reads }

outs_mean : (v : Option Data) (xs : List (Option ℕ)) → outs v ≡ Ok xs → HasList SaysWritten 0 16 v xs
unfolding outs form.items
outs_mean v xs e = list_end_means next_out SaysWritten out_step 0 16 word.Out v xs e

outs_read : (v : Option Data) (xs : List (Option ℕ)) → HasList SaysWritten 0 16 v xs → outs v ≡ Ok xs
unfolding outs form.items
outs_read v xs h = list_end_reads next_out SaysWritten out_step 0 16 word.Out v xs h

-- words

abbrev some_of : {A : Type 0} → A → Option A
some_of x = Some x

same_some : {A : Type 0} (x y : A) → some_of x ≡ some_of y → x ≡ y
same_some x y e = cc

-- the first choice whose test passes, or one of the others
pub chosen : {A : Type 0} (P : A → Type 0) (b : Bool) (x : A) (rest : Option A) (y : A) → (b ≡ true → P x) → (rest ≡ Some y → P y) → cond b (Some x) rest ≡ Some y → P y
chosen P true x rest y here later e = subst P (same_some x y e) (here refl)
chosen P false x rest y here later e = later e

read_word : (text : List ℕ) (why : Reason) → reason_of text ≡ Some why → text ≡ reason_word why
unfolding reason_of
read_word text why e =
    chosen (λ r. text ≡ reason_word r) (bytes_eq text (codes "require")) Require _ why (bytes_eq-Decides text (codes "require")).0 (
    chosen (λ r. text ≡ reason_word r) (bytes_eq text (codes "overflow")) Overflow _ why (bytes_eq-Decides text (codes "overflow")).0 (
    chosen (λ r. text ≡ reason_word r) (bytes_eq text (codes "underflow")) Underflow _ why (bytes_eq-Decides text (codes "underflow")).0 (
    chosen (λ r. text ≡ reason_word r) (bytes_eq text (codes "zero_divisor")) ZeroDivisor _ why (bytes_eq-Decides text (codes "zero_divisor")).0 (
    chosen (λ r. text ≡ reason_word r) (bytes_eq text (codes "undeclared")) Undeclared None why (bytes_eq-Decides text (codes "undeclared")).0 (λ none. absurd cc))))) e

reason_means : (v : Option Data) (why : Reason) → reason v ≡ Ok why → HasText v (reason_word why)
unfolding reason
reason_means v why e =
    let text = bind_ok (wanted (option_and_then as_str v)) _ why e in
    subst (HasText v) (read_word text.0 why (wanted_ok (reason_of text.0) why text.2)) (text_is v text.0 (wanted_ok _ _ text.1))

reason_reads : (v : Option Data) (why : Reason) → HasText v (reason_word why) → reason v ≡ Ok why
unfolding reason reason_of
reason_reads v Require h = rw h refl
reason_reads v Overflow h = rw h refl
reason_reads v Underflow h = rw h refl
reason_reads v ZeroDivisor h = rw h refl
reason_reads v Undeclared h = rw h refl

-- outcomes

committed_means : (ms : Members) (d : Data) (o : Outcome) → get_member (codes "out") ms ≡ Some d → committed ms d ≡ Ok o → SaysOutcome ms o
unfolding committed
committed_means ms d o is e =
    let xs = bind_ok _ _ o e in
    let end = bind_ok (form.only _ ms) _ o xs.2 in
    let list = outs_mean (Some d) xs.0 (within_ok (Key (codes "out")) (outs (Some d)) xs.0 xs.1) in
    subst (SaysOutcome ms) (same_ok (Commit xs.0) o (gives (Commit xs.0)) refl end.2)
    (commit (subst (λ (v : Option Data). HasList SaysWritten 0 16 v xs.0) (sym is) list) (only_means _ ms end.0 end.1))

aborted_means : (ms : Members) (o : Outcome) → get_member (codes "out") ms ≡ None → aborted ms ≡ Ok o → SaysOutcome ms o
unfolding aborted
aborted_means ms o is e =
    let why = bind_ok (at (codes "abort") ms reason) _ o e in
    let end = bind_ok (form.only _ ms) _ o why.2 in
    let text = reason_means _ why.0 (within_ok (Key (codes "abort")) (reason (get_member (codes "abort") ms)) why.0 why.1) in
    subst (SaysOutcome ms) (same_ok (Abort why.0) o (gives (Abort why.0)) refl end.2) (abort is text (only_means _ ms end.0 end.1))

outcome_by_means : (ms : Members) (v : Option Data) (o : Outcome) → get_member (codes "out") ms ≡ v → outcome_by ms v ≡ Ok o → SaysOutcome ms o
outcome_by_means ms (Some d) o is e = committed_means ms d o is e
outcome_by_means ms None o is e = aborted_means ms o is e

outcome_reads : (ms : Members) (o : Outcome) → SaysOutcome ms o → outcome_by ms (get_member (codes "out") ms) ≡ Ok o
unfolding committed aborted
outcome_reads ms o (commit {outs = xs} list only) =
    by_member (get_member (codes "out") ms) list
  where
    by_member : (v : Option Data) → HasList SaysWritten 0 16 v xs → outcome_by ms v ≡ Ok (Commit xs)
    by_member (Some d) list = rw (outs_read (Some d) xs list, only_reads _ ms only) refl
    by_member None list = absurd (let e = list.is in cc)
outcome_reads ms o (abort {why = why} none text only) =
    rw none (rw (reason_reads (get_member (codes "abort") ms) why text, only_reads _ ms only) refl)

-- votes

abbrev vote_of : ℕ → Outcome → Vote
vote_of t o = record { t = t; outcome = o }

vote_means : (d : Data) (v : Vote) → vote d ≡ Ok v → SaysVote d v
unfolding vote
vote_means null v e = absurd cc
vote_means (boolean b) v e = absurd cc
vote_means (number n) v e = absurd cc
vote_means (string s) v e = absurd cc
vote_means (array ds) v e = absurd cc
vote_means (object ms) v e =
    let t = bind_ok (at (codes "txn") ms (place_in 256 word.Txn)) _ v e in
    let o = bind_ok (outcome_by ms (get_member (codes "out") ms)) _ v t.2 in
    subst (VoteKeys ms) (same_ok (vote_of t.0 o.0) v (gives (vote_of t.0 o.0)) refl o.2) (record {
      txn = place_means 256 word.Txn _ t.0 (within_ok (Key (codes "txn")) (place_in 256 word.Txn (get_member (codes "txn") ms)) t.0 t.1);
      outcome = outcome_by_means ms _ o.0 refl o.1;
    })

vote_reads : (d : Data) (v : Vote) → SaysVote d v → vote d ≡ Ok v
unfolding vote
vote_reads null v h = absurd h
vote_reads (boolean b) v h = absurd h
vote_reads (number n) v h = absurd h
vote_reads (string s) v h = absurd h
vote_reads (array ds) v h = absurd h
vote_reads (object ms) v h = rw (place_reads 256 word.Txn (get_member (codes "txn") ms) v.t h.txn, outcome_reads ms v.outcome h.outcome) refl

next_vote_means : (before after : List Vote) (d : Data) → next_vote before d ≡ Ok after → (v : Vote) × SaysVote d v × any before v × (at_end before v ≡ after)
unfolding next_vote
next_vote_means before after d e =
    let v = bind_ok (vote d) _ after e in
    (v.0, vote_means d v.0 v.1, tt, same_ok _ after (gives (at_end before v.0)) refl v.2)

next_vote_reads : (before : List Vote) (d : Data) (v : Vote) → SaysVote d v → any before v → next_vote before d ≡ Ok (at_end before v)
unfolding next_vote
next_vote_reads before d v h u = rw (vote_reads d v h) refl

pub vote_step : IsStep next_vote SaysVote at_end any
vote_step = record { means = next_vote_means; reads = next_vote_reads }

-- the votes of a `commit` event

votes_mean : (total : ℕ) (v : Option Data) (votes : List Vote) → votes_of total v ≡ Ok votes → HasList SaysVote 0 256 v votes × (total + length votes ≤ 16384)
unfolding votes_of votes_within
votes_mean total v votes e =
    let ds = bind_ok (list_in 0 256 word.Votes v) _ votes e in
    let l = list_in_means 0 256 word.Votes v ds.0 ds.1 in
    let t = failed (ltb 16384 (total + items_len ds.0)) _ votes _ ds.2 in
    let say = each_end_means next_vote SaysVote vote_step ds.0 votes t.1 in
    let count = length_of_said SaysVote ds.0 votes say in
    let few = not_above 16384 (total + items_len ds.0) t.0 in
    (record { items = ds.0; is = l.0; least = l.1; most = l.2; each = say }, omega (arith, few, count))

votes_read : (total : ℕ) (v : Option Data) (votes : List Vote) → HasList SaysVote 0 256 v votes → total + length votes ≤ 16384 → votes_of total v ≡ Ok votes
unfolding votes_of votes_within
votes_read total v votes h few =
    let count = length_of_said SaysVote h.items votes h.each in
    let test = test_above 16384 (total + items_len h.items) (omega (arith, few, count)) in
    rw (list_in_reads 0 256 word.Votes v h.items h.is h.least h.most, test) (each_end_reads next_vote SaysVote vote_step h.items votes h.each)

pub votes_at_mean : (total : ℕ) (ms : Members) (votes : List Vote) → votes_at total ms ≡ Ok votes → HasList SaysVote 0 256 (get_member (codes "votes") ms) votes × (total + length votes ≤ 16384)
unfolding votes_at
votes_at_mean total ms votes e = votes_mean total (get_member (codes "votes") ms) votes (within_ok (Key (codes "votes")) (votes_of total (get_member (codes "votes") ms)) votes e)

pub votes_at_read : (total : ℕ) (ms : Members) (votes : List Vote) → HasList SaysVote 0 256 (get_member (codes "votes") ms) votes → total + length votes ≤ 16384 → votes_at total ms ≡ Ok votes
unfolding votes_at
votes_at_read total ms votes h few = rw (votes_read total (get_member (codes "votes") ms) votes h few) refl
