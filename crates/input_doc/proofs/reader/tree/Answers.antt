-- What the check of `tree` leaves to show.
use Rattle.std.proofs.Common.{refl, inr, arith}
use Rattle.input_doc.proofs.Trees.{tree_from_read, no_tree}
use Rattle.input_doc.proofs.reader.tree.Goals as goal

pub returns-in-Ok : goal.returns-in-Ok
returns-in-Ok c = tree_from_read c.args.bytes.now _ c.in-Ok.ensures.ok.0 c.in-Ok.ensures.ok.1

pub returns-else-is_memory : goal.returns-else-is_memory
returns-else-is_memory c = inr (refl, no_tree c.args.bytes.now (c.in-Err.ensures.err (λ m. grind (arith, c.is_memory.ensures.1 m))))
