-- The schedule is read exactly where the document says it.
use Rattle.std.proofs.Common.{◌≡◌, ℕ, ◌+◌, ◌<◌, ◌≤◌, false, leb, List, map, Option, Some, None, option_and_then, Ok, refl, sym, ap, subst, ◌∙◌, arith}
use Rattle.std.proofs.lemmas.Bool.Decides.{nat_tests}
use Rattle.std.proofs.lemmas.Slice.Eq.{bytes_eq-Decides}
use Rattle.std.specs.Prelude.{codes}
use Rattle.std.specs.Str.{bytes_eq}
use Rattle.serde_json.specs.Data.{Data, null, boolean, number, string, array, object, Members}
use Rattle.serde_json.specs.Find.{get_member, as_str}
use Rattle.txn_types.specs.declared.message.Node.{Node}
use Rattle.txn_types.specs.Values.{max_number, max_false}
use Rattle.txn_types.specs.declared.stream.Piece.{Piece}
use Rattle.txn_types.specs.declared.event.Event.{Event}
use Rattle.txn_types.specs.declared.event.Event.TheVariants as event
use Rattle.doc_forms.specs.declared.fault.Step.TheVariants.{Key}
use Rattle.doc_forms.specs.declared.fault.Which.TheVariants as word
use Rattle.doc_forms.specs.Forms as form
use Rattle.doc_forms.specs.Forms.{at, wanted, list_at, number_at}
use Rattle.doc_forms.specs.Tables.{place_below, reference}
use Rattle.doc_forms.specs.Meaning.{IsNameAt, HasText}
use Rattle.doc_forms.proofs.LookUps.{Finds, NodesDiffer, place_finds, differ_at_the_end}
use Rattle.doc_forms.proofs.Meant.{bind_ok, within_ok, wanted_ok, text_is, failed, same_ok, number_at_means, number_at_reads, only_means, only_reads, reference_means, reference_reads}
use Rattle.doc_forms.proofs.EachMeant.{IsStep, list_at_means, list_at_reads}
use Rattle.doc_schedule.specs.declared.tables.ItemRole.{ItemRole}
use Rattle.doc_schedule.specs.declared.events.What.{What}
use Rattle.doc_schedule.specs.declared.events.What.TheVariants as what
use Rattle.doc_schedule.specs.declared.events.Played.{Played}
use Rattle.doc_schedule.specs.Tables.{role_of, faulty_at}
use Rattle.doc_schedule.specs.Votes.{votes_at}
use Rattle.doc_schedule.specs.Blocks.{txns_at, links_at}
use Rattle.doc_schedule.specs.Schedule as walk
use Rattle.doc_schedule.specs.Schedule.{what_of, to_do, no_events_yet, with_event, msg_at, say_block, say_commit, false_block, false_commit, by_what, next_event, schedule}
use Rattle.doc_schedule.specs.ScheduleMeaning as says
use Rattle.doc_schedule.specs.ScheduleMeaning.{MayHave, SaysGraph, DeliverKeys, AllKeys, BlockKeys, CommitKeys, SaysEvent, SaysSchedule}
use Rattle.doc_schedule.proofs.EndsMeant.{gives}
use Rattle.doc_schedule.proofs.TablesMeant.{faulty_at_means, faulty_at_reads}
use Rattle.doc_schedule.proofs.VotesMeant.{chosen, votes_at_mean, votes_at_read}
use Rattle.doc_schedule.proofs.BlocksMeant.{txns_at_mean, txns_at_read, count_said, links_mean, links_read}
use Rattle.doc_schedule.proofs.Counted.{IsBelow, events_are, events_within, events_below}

-- ---- what is to be done

abbrev word_for : What → List ℕ
word_for what.Deliver = codes "deliver"
word_for what.All = codes "all"
word_for what.Block = codes "block"
word_for what.Commit = codes "commit"

what_word : (text : List ℕ) (w : What) → what_of text ≡ Some w → text ≡ word_for w
unfolding what_of
what_word text w e =
    chosen (λ x. text ≡ word_for x) (bytes_eq text (codes "deliver")) what.Deliver _ w (bytes_eq-Decides text (codes "deliver")).0 (
    chosen (λ x. text ≡ word_for x) (bytes_eq text (codes "all")) what.All _ w (bytes_eq-Decides text (codes "all")).0 (
    chosen (λ x. text ≡ word_for x) (bytes_eq text (codes "block")) what.Block _ w (bytes_eq-Decides text (codes "block")).0 (
    chosen (λ x. text ≡ word_for x) (bytes_eq text (codes "commit")) what.Commit None w (bytes_eq-Decides text (codes "commit")).0 (λ none. absurd cc)))) e

to_do_means : (v : Option Data) (w : What) → to_do v ≡ Ok w → HasText v (word_for w)
unfolding to_do
to_do_means v w e =
    let text = bind_ok (wanted (option_and_then as_str v)) _ w e in
    subst (HasText v) (what_word text.0 w (wanted_ok (what_of text.0) w text.2)) (text_is v text.0 (wanted_ok _ _ text.1))

to_do_reads : (v : Option Data) (w : What) → HasText v (word_for w) → to_do v ≡ Ok w
unfolding to_do what_of
to_do_reads v what.Deliver h = rw h refl
to_do_reads v what.All h = rw h refl
to_do_reads v what.Block h = rw h refl
to_do_reads v what.Commit h = rw h refl

-- ---- one event

below_limit : (n k : ℕ) → leb n k ≡ false → k < n
below_limit n k e = grind (arith, nat_tests)

test_below : (n k : ℕ) → k < n → leb n k ≡ false
test_below n k h = grind (arith, nat_tests)

module _ (orderers peers : List (List ℕ)) (differ : NodesDiffer orderers peers) (faulty : List Node) (pieces : List (Option Piece)) where
  abbrev roles : List ItemRole
  roles = map role_of pieces

  peers_find : Finds (place_below 256 peers) (IsNameAt peers)
  peers_find = place_finds 256 peers (record { differ = differ_at_the_end orderers peers differ.differ; few = differ.few_peers })

  abbrev Says : Data → Event → Type 0
  Says = SaysEvent orderers peers faulty pieces

  -- an event that is said, and put where it may come
  abbrev Puts : Played → Data → Played → Type 0
  Puts made d more = (e : Event) × Says d e × IsBelow made e × (with_event made e ≡ more)

  abbrev Does : Members → What → Type 0
  Does ms w = HasText (get_member (codes "do") ms) (word_for w)

  deliver_puts : (made more : Played) (ms : Members) → Does ms what.Deliver → walk.deliver peers made ms ≡ Ok more → Puts made (object ms) more
  unfolding walk.deliver msg_at
  deliver_puts made more ms does e =
      let msg = bind_ok (number_at (codes "msg") 1 4294967295 word.Msg ms) _ more e in
      let to = bind_ok (at (codes "to") ms (reference (place_below 256 peers))) _ more msg.2 in
      let end = bind_ok (form.only _ ms) _ more to.2 in (
        event.Deliver msg.0 to.0,
        says.deliver (record {
          do_is = does;
          msg_is = number_at_means (codes "msg") 1 4294967295 word.Msg ms msg.0 msg.1;
          to_is = reference_means (place_below 256 peers) (IsNameAt peers) peers_find _ to.0 (within_ok (Key (codes "to")) (reference (place_below 256 peers) (get_member (codes "to") ms)) to.0 to.1);
          only = only_means _ ms end.0 end.1;
        }),
        tt,
        same_ok _ more (gives (with_event made (event.Deliver msg.0 to.0))) refl end.2,
      )

  all_puts : (made more : Played) (ms : Members) → Does ms what.All → walk.all made ms ≡ Ok more → Puts made (object ms) more
  unfolding walk.all
  all_puts made more ms does e =
      let t = failed (leb 8 made.alls) _ more _ e in
      let end = bind_ok (form.only _ ms) _ more t.1 in
      (event.All, says.all (record { do_is = does; only = only_means _ ms end.0 end.1 }), below_limit 8 made.alls t.0, same_ok _ more (gives (with_event made event.All)) refl end.2)

  block_puts : (made more : Played) (ms : Members) → Does ms what.Block → false_block orderers peers faulty roles made ms ≡ Ok more → Puts made (object ms) more
  unfolding false_block say_block
  block_puts made more ms does e =
      let t = failed (leb max_false made.falses) _ more _ e in
      let from = bind_ok (faulty_at orderers peers faulty ms) _ more t.1 in
      let n = bind_ok (number_at (codes "number") 1 max_number word.Number ms) _ more from.2 in
      let items = bind_ok (txns_at roles made.false_txns ms) _ more n.2 in
      let links = bind_ok (links_at roles items.0 ms) _ more items.2 in
      let txns = txns_at_mean pieces made.false_txns ms items.0 items.1 in
      let linked = links_mean roles items.0 ms links.0 links.1 in (
        event.SayBlock from.0 n.0 links.0.0 items.0 links.0.1,
        says.block (record {
          do_is = does;
          from_is = faulty_at_means orderers peers faulty differ ms from.0 from.1;
          number_is = number_at_means (codes "number") 1 max_number word.Number ms n.0 n.1;
          txns_are = txns.0;
          prev_is = linked.0;
          preds_are = subst (λ n. MayHave (SaysGraph n) (get_member (codes "preds") ms) links.0.1) (count_said pieces _ items.0 txns.0) linked.1;
          only = linked.2;
        }),
        (below_limit max_false made.falses t.0, txns.1),
        same_ok _ more (gives (with_event made (event.SayBlock from.0 n.0 links.0.0 items.0 links.0.1))) refl links.2,
      )

  commit_puts : (made more : Played) (ms : Members) → Does ms what.Commit → false_commit orderers peers faulty made ms ≡ Ok more → Puts made (object ms) more
  unfolding false_commit say_commit
  commit_puts made more ms does e =
      let t = failed (leb max_false made.falses) _ more _ e in
      let from = bind_ok (faulty_at orderers peers faulty ms) _ more t.1 in
      let n = bind_ok (number_at (codes "block") 1 max_number word.Block ms) _ more from.2 in
      let votes = bind_ok (votes_at made.false_votes ms) _ more n.2 in
      let end = bind_ok (form.only _ ms) _ more votes.2 in
      let said = votes_at_mean made.false_votes ms votes.0 votes.1 in (
        event.SayCommit from.0 (record { n = n.0; votes = votes.0 }),
        says.commit (record {
          do_is = does;
          from_is = faulty_at_means orderers peers faulty differ ms from.0 from.1;
          block_is = number_at_means (codes "block") 1 max_number word.Block ms n.0 n.1;
          votes_are = said.0;
          only = only_means _ ms end.0 end.1;
        }),
        (below_limit max_false made.falses t.0, said.1),
        same_ok _ more (gives (with_event made (event.SayCommit from.0 (record { n = n.0; votes = votes.0 })))) refl end.2,
      )

  kind_puts : (made more : Played) (ms : Members) (w : What) → Does ms w → by_what orderers peers faulty roles made ms w ≡ Ok more → Puts made (object ms) more
  kind_puts made more ms what.Deliver does e = deliver_puts made more ms does e
  kind_puts made more ms what.All does e = all_puts made more ms does e
  kind_puts made more ms what.Block does e = block_puts made more ms does e
  kind_puts made more ms what.Commit does e = commit_puts made more ms does e

  event_puts : (made more : Played) (d : Data) → next_event orderers peers faulty roles made d ≡ Ok more → Puts made d more
  unfolding next_event
  event_puts made more null e = absurd cc
  event_puts made more (boolean b) e = absurd cc
  event_puts made more (number n) e = absurd cc
  event_puts made more (string s) e = absurd cc
  event_puts made more (array ds) e = absurd cc
  event_puts made more (object ms) e =
      let w = bind_ok (at (codes "do") ms to_do) _ more e in
      kind_puts made more ms w.0 (to_do_means _ w.0 (within_ok (Key (codes "do")) (to_do (get_member (codes "do") ms)) w.0 w.1)) w.2

  event_put : (made : Played) (d : Data) (e : Event) → Says d e → IsBelow made e → next_event orderers peers faulty roles made d ≡ Ok (with_event made e)
  unfolding next_event walk.deliver msg_at walk.all false_block say_block false_commit say_commit
  event_put made d e (says.deliver {ms = ms} {msg = msg} {to = to} h) below =
      rw (to_do_reads (get_member (codes "do") ms) what.Deliver h.do_is)
      (rw (number_at_reads (codes "msg") 1 4294967295 word.Msg ms msg h.msg_is, reference_reads (place_below 256 peers) (IsNameAt peers) peers_find (get_member (codes "to") ms) to h.to_is, only_reads _ ms h.only) refl)
  event_put made d e (says.all {ms = ms} h) below =
      rw (to_do_reads (get_member (codes "do") ms) what.All h.do_is)
      (rw (test_below 8 made.alls below, only_reads _ ms h.only) refl)
  event_put made d e (says.block {ms = ms} {from = from} {n = n} {prev = prev} {items = items} {preds = preds} h) below =
      rw (to_do_reads (get_member (codes "do") ms) what.Block h.do_is)
      (rw (
        test_below max_false made.falses below.0,
        faulty_at_reads orderers peers faulty differ ms from h.from_is,
        number_at_reads (codes "number") 1 max_number word.Number ms n h.number_is,
        txns_at_read pieces made.false_txns ms items h.txns_are below.1,
        links_read roles items ms prev preds h.prev_is (subst (λ n. MayHave (SaysGraph n) (get_member (codes "preds") ms) preds) (sym (count_said pieces _ items h.txns_are)) h.preds_are) h.only,
      ) refl)
  event_put made d e (says.commit {ms = ms} {from = from} {results = results} h) below =
      rw (to_do_reads (get_member (codes "do") ms) what.Commit h.do_is)
      (rw (
        test_below max_false made.falses below.0,
        faulty_at_reads orderers peers faulty differ ms from h.from_is,
        number_at_reads (codes "block") 1 max_number word.Block ms results.n h.block_is,
        votes_at_read made.false_votes ms results.votes h.votes_are below.1,
        only_reads _ ms h.only,
      ) refl)

  is_step : IsStep (next_event orderers peers faulty roles) Says with_event IsBelow
  is_step = record { means = event_puts; reads = event_put }

  -- ---- and all events

  sum_from_zero : (n k : ℕ) → 0 + n ≤ k → n ≤ k
  sum_from_zero n k h = omega (arith, h)

  sum_to_zero : (n k : ℕ) → n ≤ k → 0 + n ≤ k
  sum_to_zero n k h = omega (arith, h)

  pub schedule_means : (ms : Members) (events : List Event) → schedule orderers peers faulty roles ms ≡ Ok events → SaysSchedule orderers peers faulty pieces ms events
  unfolding schedule
  schedule_means ms events e =
      let made = bind_ok (list_at (codes "schedule") 0 65536 word.Schedule (next_event orderers peers faulty roles) no_events_yet ms) _ events e in
      let gave = list_at_means (next_event orderers peers faulty roles) Says with_event IsBelow is_step (codes "schedule") 0 65536 word.Schedule no_events_yet ms made.0 made.1 in
      let is : gave.xs ≡ events = sym (events_are gave.xs) ∙ ap (λ (m : Played). m.events) gave.is ∙ same_ok made.0.events events (gives made.0.events) refl made.2 in
      let within = events_within gave.xs gave.fresh in
      subst (SaysSchedule orderers peers faulty pieces ms) is (record {
        list = gave.list;
        alls = sum_from_zero _ 8 within.alls;
        falses = sum_from_zero _ max_false within.falses;
        txns = sum_from_zero _ 16384 within.txns;
        votes = sum_from_zero _ 16384 within.votes;
      })

  pub schedule_reads : (ms : Members) (events : List Event) → SaysSchedule orderers peers faulty pieces ms events → schedule orderers peers faulty roles ms ≡ Ok events
  unfolding schedule
  schedule_reads ms events h =
      rw (list_at_reads (next_event orderers peers faulty roles) Says with_event IsBelow is_step (codes "schedule") 0 65536 word.Schedule no_events_yet ms events h.list
      (events_below events (record { alls = sum_to_zero _ 8 h.alls; falses = sum_to_zero _ max_false h.falses; txns = sum_to_zero _ 16384 h.txns; votes = sum_to_zero _ 16384 h.votes })))
      (ap gives (events_are events))
