-- What the check of `push_graph_block` leaves to show.
use Rattle.std.proofs.Common.{length, ap, sym, ◌∙◌}
use Rattle.txn_core.proofs.GraphLemmas.{length-graph_of}
use Rattle.report_text.proofs.graph.push_graph_block.Goals as goal

pub push_afters-requires-clause-whole : goal.push_afters-requires-clause-whole
push_afters-requires-clause-whole c = ap length c.requires.graph ∙ length-graph_of _ _ ∙ ap length (sym c.as_slice.ensures)
