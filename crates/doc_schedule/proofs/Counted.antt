-- Events put with their counts and sums stay within the limits exactly where the list does.
use Rattle.std.proofs.Common.{◌≡◌, ℕ, ◌+◌, ◌<◌, ◌≤◌, ◌++◌, List, [], ◌∷◌, length, refl, sym, ap, ◌∙◌, append_assoc, append-nil, cond, arith}
use Rattle.std.proofs.lemmas.List.Sums.{sum_by-cons}
use Rattle.std.specs.List.{count_by, sum_by}
use Rattle.txn_types.specs.declared.event.Event.{Event}
use Rattle.txn_types.specs.declared.event.Event.TheVariants as event
use Rattle.txn_types.specs.Values.{max_false}
use Rattle.node_defs.specs.World.{is_all, is_false, items_named, votes_said}
use Rattle.doc_forms.proofs.EachMeant.{put_all, AllFresh}
use Rattle.doc_schedule.specs.declared.events.Played.{Played}
use Rattle.doc_schedule.specs.Schedule.{no_events_yet, with_event}

-- there may be one more such event
abbrev pub IsBelow : Played → Event → Type 0
IsBelow made (event.Deliver msg to) = Unit {0}
IsBelow made event.All = made.alls < 8
IsBelow made (event.SayBlock from n prev items preds) = (made.falses < max_false) × (made.false_txns + length items ≤ 16384)
IsBelow made (event.SayCommit from results) = (made.falses < max_false) × (made.false_votes + length results.votes ≤ 16384)

-- the counts and sums with those of these events
pub record AreWithin (made : Played) (es : List Event) : Type 0 where
  pub alls : made.alls + count_by is_all es ≤ 8
  pub falses : made.falses + count_by is_false es ≤ max_false
  pub txns : made.false_txns + sum_by items_named es ≤ 16384
  pub votes : made.false_votes + sum_by votes_said es ≤ 16384

added_one : (made : Played) (e : Event) → (with_event made e).events ≡ made.events ++ e ∷ []
added_one made (event.Deliver msg to) = refl
added_one made event.All = refl
added_one made (event.SayBlock from n prev items preds) = refl
added_one made (event.SayCommit from results) = refl

events_put : (made : Played) (es : List Event) → (put_all with_event made es).events ≡ made.events ++ es
events_put made [] = sym (append-nil made.events)
events_put made (e ∷ es) = events_put (with_event made e) es ∙ ap (λ (w : List Event). w ++ es) (added_one made e) ∙ append_assoc made.events (e ∷ []) es

-- the events that were put are all that is there
pub events_are : (es : List Event) → (put_all with_event no_events_yet es).events ≡ es
events_are es = events_put no_events_yet es

-- what an event adds to each count and sum
record Steps (made : Played) (e : Event) : Type 0 where
  alls : (with_event made e).alls ≡ made.alls + cond (is_all e) 1 0
  falses : (with_event made e).falses ≡ made.falses + cond (is_false e) 1 0
  txns : (with_event made e).false_txns ≡ made.false_txns + items_named e
  votes : (with_event made e).false_votes ≡ made.false_votes + votes_said e

steps : (made : Played) (e : Event) → Steps made e
steps made (event.Deliver msg to) = record { alls = omega arith; falses = omega arith; txns = omega arith; votes = omega arith }
steps made event.All = record { alls = refl; falses = omega arith; txns = omega arith; votes = omega arith }
steps made (event.SayBlock from n prev items preds) = record { alls = omega arith; falses = refl; txns = refl; votes = omega arith }
steps made (event.SayCommit from results) = record { alls = omega arith; falses = refl; txns = omega arith; votes = refl }

moved_sum : (f : Event → ℕ) (before after limit : ℕ) (e : Event) (es : List Event) → after ≡ before + f e → after + sum_by f es ≤ limit → before + sum_by f (e ∷ es) ≤ limit
moved_sum f before after limit e es step h = let sum = sum_by-cons f e es in omega (arith, step, h, sum)

back_sum : (f : Event → ℕ) (before after limit : ℕ) (e : Event) (es : List Event) → after ≡ before + f e → before + sum_by f (e ∷ es) ≤ limit → after + sum_by f es ≤ limit
back_sum f before after limit e es step h = let sum = sum_by-cons f e es in omega (arith, step, h, sum)

-- an event first, or among those before
first_event : (made : Played) (e : Event) (es : List Event) → AreWithin (with_event made e) es → AreWithin made (e ∷ es)
first_event made e es h =
    let s = steps made e in
    record {
      alls = moved_sum (λ x. cond (is_all x) 1 0) made.alls (with_event made e).alls 8 e es s.alls h.alls;
      falses = moved_sum (λ x. cond (is_false x) 1 0) made.falses (with_event made e).falses max_false e es s.falses h.falses;
      txns = moved_sum items_named made.false_txns (with_event made e).false_txns 16384 e es s.txns h.txns;
      votes = moved_sum votes_said made.false_votes (with_event made e).false_votes 16384 e es s.votes h.votes;
    }

event_before : (made : Played) (e : Event) (es : List Event) → AreWithin made (e ∷ es) → AreWithin (with_event made e) es
event_before made e es h =
    let s = steps made e in
    record {
      alls = back_sum (λ x. cond (is_all x) 1 0) made.alls (with_event made e).alls 8 e es s.alls h.alls;
      falses = back_sum (λ x. cond (is_false x) 1 0) made.falses (with_event made e).falses max_false e es s.falses h.falses;
      txns = back_sum items_named made.false_txns (with_event made e).false_txns 16384 e es s.txns h.txns;
      votes = back_sum votes_said made.false_votes (with_event made e).false_votes 16384 e es s.votes h.votes;
    }

-- an event that may come keeps the limits
still_within : (made : Played) (e : Event) → IsBelow made e → AreWithin made [] → AreWithin (with_event made e) []
still_within made (event.Deliver msg to) below h = record { alls = h.alls; falses = h.falses; txns = h.txns; votes = h.votes }
still_within made event.All below h = let a = h.alls in record { alls = omega (arith, below); falses = h.falses; txns = h.txns; votes = h.votes }
still_within made (event.SayBlock from n prev items preds) below h =
    record { alls = h.alls; falses = omega (arith, below.0); txns = omega (arith, below.1); votes = h.votes }
still_within made (event.SayCommit from results) below h =
    record { alls = h.alls; falses = omega (arith, below.0); txns = h.txns; votes = omega (arith, below.1) }

-- and one within the limits may come
may_come : (made : Played) (e : Event) → AreWithin (with_event made e) [] → IsBelow made e
may_come made (event.Deliver msg to) h = tt
may_come made event.All h = let a = h.alls in omega (arith, a)
may_come made (event.SayBlock from n prev items preds) h = let f = h.falses in let t = h.txns in (omega (arith, f), omega (arith, t))
may_come made (event.SayCommit from results) h = let f = h.falses in let v = h.votes in (omega (arith, f), omega (arith, v))

less : (made : Played) (es : List Event) → AreWithin made es → AreWithin made []
less made es h =
    let a = h.alls in let f = h.falses in let t = h.txns in let v = h.votes in
    record { alls = omega (arith, a); falses = omega (arith, f); txns = omega (arith, t); votes = omega (arith, v) }

below_within : (made : Played) (es : List Event) → AllFresh with_event IsBelow made es → AreWithin made [] → AreWithin made es
below_within made [] fresh h = h
below_within made (e ∷ es) fresh h = first_event made e es (below_within (with_event made e) es fresh.1 (still_within made e fresh.0 h))

within_below : (made : Played) (es : List Event) → AreWithin made es → AllFresh with_event IsBelow made es
within_below made [] h = tt
within_below made (e ∷ es) h =
    let rest = event_before made e es h in
    (may_come made e (less (with_event made e) es rest), within_below (with_event made e) es rest)

pub events_within : (es : List Event) → AllFresh with_event IsBelow no_events_yet es → AreWithin no_events_yet es
events_within es fresh = below_within no_events_yet es fresh (record { alls = omega arith; falses = omega arith; txns = omega arith; votes = omega arith })

pub events_below : (es : List Event) → AreWithin no_events_yet es → AllFresh with_event IsBelow no_events_yet es
events_below es h = within_below no_events_yet es h
