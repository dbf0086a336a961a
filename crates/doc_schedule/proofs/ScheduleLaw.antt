-- A schedule that a document says is lawful.
use Rattle.std.proofs.Common.{◌≡◌, ℕ, ◌+◌, ◌<◌, ◌≤◌, List, length, get_or, Option, Some, None, IfSome, arith}
use Rattle.std.specs.List.{All}
use Rattle.std.proofs.lemmas.Option.{slice_get_within}
use Rattle.serde_json.specs.Data.{Data, null, boolean, number, string, array, object, Members}
use Rattle.serde_json.specs.Events.{items_len}
use Rattle.txn_types.specs.declared.txn.Outcome.{Outcome}
use Rattle.txn_types.specs.declared.message.Vote.{Vote}
use Rattle.txn_types.specs.declared.event.Event.{Event}
use Rattle.node_defs.specs.World.{Setting, MayBeNamed}
use Rattle.node_defs.specs.LawfulEvents.{AreNamed, AreSaidPreds, IsSaidOutcome, IsSaidVote, IsLawfulEvent, AreLawfulEvents}
use Rattle.doc_forms.specs.Meaning.{HasList}
use Rattle.doc_forms.proofs.SetsMeant.{said_of, length_of_said}
use Rattle.doc_forms.proofs.SortedOnce.{all_of}
use Rattle.doc_schedule.specs.ScheduleMeaning as says
use Rattle.doc_schedule.specs.ScheduleMeaning.{MayHave, SaysWritten, SaysOutcome, SaysVote, SaysNamedItem, SaysHash, SaysPred, SaysPreds, SaysGraph, SaysEvent, SaysSchedule}
use Rattle.doc_schedule.proofs.TablesMeant.{among_there}

-- what each item of a list says holds of all that it says
each_of : {X : Type 0} (Says : Data → X → Type 0) (P : X → Type 0) → ((d : Data) (x : X) → Says d x → P x) → (low high : ℕ) (v : Option Data) (xs : List X) → HasList Says low high v xs → All P xs
each_of Says P holds low high v xs h = all_of P xs (λ x there. let said = said_of Says h.items xs x h.each there in holds said.0 x said.1)

at_most : {X : Type 0} (Says : Data → X → Type 0) (low high : ℕ) (v : Option Data) (xs : List X) → HasList Says low high v xs → (low ≤ length xs) × (length xs ≤ high)
at_most Says low high v xs h =
    let count = length_of_said Says h.items xs h.each in
    (omega (arith, count, h.least), omega (arith, count, h.most))

-- ---- votes

outcome_said : (ms : Members) (o : Outcome) → SaysOutcome ms o → IsSaidOutcome o
outcome_said ms o (says.commit {outs = outs} list only) = (at_most SaysWritten 0 16 _ outs list).1
outcome_said ms o (says.abort none word only) = tt

vote_said : (d : Data) (v : Vote) → SaysVote d v → IsSaidVote v
vote_said (object ms) v h = record { position = omega (arith, h.txn.2); outcome = outcome_said ms v.outcome h.outcome }
vote_said null v h = absurd h
vote_said (boolean b) v h = absurd h
vote_said (number n) v h = absurd h
vote_said (string s) v h = absurd h
vote_said (array ds) v h = absurd h

-- ---- blocks

hash_said : (v : Option Data) (prev : Option (List ℕ)) → MayHave SaysHash v prev → IfSome prev (λ h. length h ≡ 32)
hash_said v None h = tt
hash_said None (Some bytes) h = absurd h
hash_said (Some d) (Some bytes) h = h.1

preds_said : (d : Data) (ps : List ℕ) → SaysPreds d ps → All (λ p. p < 256) ps
preds_said d ps h = each_of SaysPred (λ p. p < 256) (λ e p said. omega (arith, said.2)) 0 256 (Some d) ps h

graph_said : (count : ℕ) (v : Option Data) (graph : Option (List (List ℕ))) → MayHave (SaysGraph count) v graph → IfSome graph (AreSaidPreds count)
graph_said count v None h = tt
graph_said count None (Some preds) h = absurd h
graph_said count (Some d) (Some preds) h =
    let bounds = at_most SaysPreds count count (Some d) preds h in
    record {
      one_each = omega (arith, bounds.0, bounds.1);
      few = each_of SaysPreds (λ ps. length ps ≤ 256) (λ e ps said. (at_most SaysPred 0 256 (Some e) ps said).1) count count (Some d) preds h;
      positions = each_of SaysPreds (All (λ p. p < 256)) preds_said count count (Some d) preds h;
    }

module _ (s : Setting) where
  items_named_said : (v : Option Data) (items : List ℕ) → HasList (SaysNamedItem s.pieces (length items)) 1 256 v items → AreNamed s items
  items_named_said v items h =
      let bounds = at_most (SaysNamedItem s.pieces (length items)) 1 256 v items h in
      record {
        some = bounds.0;
        few = bounds.1;
        each = each_of (SaysNamedItem s.pieces (length items)) (λ i. MayBeNamed (length items) (get_or s.pieces i None)) (λ d i said. said.1) 1 256 v items h;
      }

  -- ---- events

  abbrev Says : Data → Event → Type 0
  Says = SaysEvent s.rules.table.orderers s.rules.table.peers s.faulty s.pieces

  event_lawful : (d : Data) (e : Event) → Says d e → IsLawfulEvent s e
  event_lawful d e (says.deliver {to = to} h) = slice_get_within s.rules.table.peers to h.to_is.0 h.to_is.2
  event_lawful d e (says.all h) = tt
  event_lawful d e (says.block {from = from} {prev = prev} {items = items} {preds = preds} h) = record {
    from_faulty = among_there s.faulty from h.from_is.1;
    number_from = h.number_is.1;
    number_to = h.number_is.2;
    hash = hash_said _ prev h.prev_is;
    named = items_named_said _ items h.txns_are;
    graph = graph_said _ _ preds h.preds_are;
  }
  event_lawful d e (says.commit {from = from} {results = results} h) = record {
    from_faulty = among_there s.faulty from h.from_is.1;
    number_from = h.block_is.1;
    number_to = h.block_is.2;
    few = (at_most SaysVote 0 256 _ results.votes h.votes_are).1;
    votes = each_of SaysVote IsSaidVote vote_said 0 256 _ results.votes h.votes_are;
  }

  -- a schedule of these nodes, faulty nodes and items is lawful for the setting
  pub schedule_lawful : (ms : Members) (events : List Event) → SaysSchedule s.rules.table.orderers s.rules.table.peers s.faulty s.pieces ms events → AreLawfulEvents s events
  schedule_lawful ms events h = record {
    each = each_of Says (IsLawfulEvent s) event_lawful 0 65536 _ events h.list;
    count = (at_most Says 0 65536 _ events h.list).1;
    alls = h.alls;
    falses = h.falses;
    items = h.txns;
    votes = h.votes;
  }
