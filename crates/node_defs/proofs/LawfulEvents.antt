-- Lawful events.
use Rattle.std.specs.Prelude.{List}
use Rattle.std.specs.List.{All, slice_index_or}
use Rattle.txn_types.specs.declared.event.Event.{Event}
use Rattle.txn_types.specs.declared.event.Event.TheVariants as event
use Rattle.node_defs.specs.World.{Setting}
use Rattle.node_defs.specs.LawfulEvents.{IsLawfulEvent, IsSaidByFaulty}

-- in a lawful event a faulty node alone says what it likes
lawful_is_said : (s : Setting) (e : Event) → IsLawfulEvent s e → IsSaidByFaulty s e
lawful_is_said s (event.Deliver msg to) h = tt
lawful_is_said s event.All h = tt
lawful_is_said s (event.SayBlock from number prev items preds) h = h.from_faulty
lawful_is_said s (event.SayCommit from commit) h = h.from_faulty

-- so in each of a list of lawful events
pub said_by_faulty : (s : Setting) (events : List Event) → All (IsLawfulEvent s) events → All (IsSaidByFaulty s) events
said_by_faulty s events lawful = λ k d h. lawful_is_said s (slice_index_or events k d) (lawful k d h)
