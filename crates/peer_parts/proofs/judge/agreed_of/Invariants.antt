-- What each turn of the loops of `agreed_of` keeps.
use Rattle.std.proofs.Common.{◌≡◌, ◌<◌, ℕ, List, None, length, get_or}
use Rattle.known_defs.specs.Known.{txn_at}
use Rattle.node_defs.specs.Rules.{Rules}
use Rattle.vote_book.specs.Puts.{Cast, BookStandsFor, cast_on}
use Rattle.steal_pool.specs.Fitting.{AllFitAt}
use Rattle.peer_laws.specs.Turns.{agreed_in}
use Rattle.peer_parts.specs.InForce.{IsForce}
use Rattle.peer_parts.proofs.judge.agreed_of.Given as goal

abbrev pub invariant-loop-t : goal.invariant-loop-t
invariant-loop-t l = record {
  long : length l.all ≡ l.t;
  agreed : (voters : List ℕ) (puts : List Cast) (r : Rules) → BookStandsFor l.book voters puts → IsForce r l.force → (u : ℕ) → u < l.t → get_or l.all u None ≡ agreed_in r (txn_at l.block.txns u) (cast_on voters l.n u puts);
  fit : AllFitAt l.block.txns l.all;
}
