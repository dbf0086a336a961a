-- What the check of `graph_report` leaves to show.
use Rattle.input_doc.specs.Held.{input_of}
use Rattle.command_text.proofs.TextLemmas.{graph_text_is}
use Rattle.command_text.proofs.text.graph_report.Goals as goal

pub returns : goal.returns
returns c = graph_text_is (input_of c.args.input.now) _ _ _ _ _ c.as_slice.ensures c.in_ok-agreed.ensures.rejected c.in_ok-agreed.ensures.blocks c.new-text.ensures c.in_ok-push_graph_text.ensures
