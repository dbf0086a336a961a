-- What the check of `dependent_pairs` leaves to show.
use Rattle.std.proofs.Common.{◌≤◌, ℕ, List, length, sym, subst}
use Rattle.std.specs.List.{sum_by}
use Rattle.soak_text.proofs.Pairs.{pairs_few}
use Rattle.soak_text.proofs.edges.dependent_pairs.Goals as goal

pub pairs_of-requires : goal.pairs_of-requires
pairs_of-requires c = subst (λ (lists : List (List ℕ)). sum_by length lists ≤ 65536) (sym c.in_ok-graph.ensures.lists) (pairs_few c.args.kind c.args.block.now.txns c.requires)
