-- The text of a document, part by part.
use Rattle.std.proofs.Common.{◌≡◌, ℕ, List, [], ◌++◌, ap, subst, ◌∙◌}
use Rattle.txn_types.specs.declared.block.Block.{Block}
use Rattle.txn_types.specs.declared.stream.Item.{Item}
use Rattle.txn_types.specs.declared.stream.Rejected.{Rejected}
use Rattle.node_defs.specs.Cutting.{AreAgreed, rejected_from}
use Rattle.node_defs.specs.GraphText.{graph_text}
use Rattle.input_doc.specs.Inputs.{Input}
use Rattle.command_text.specs.Commands.{IsGraphText}
use Rattle.command_text.specs.AgreedBlocks.{AreAgreedBlocks}

-- the text of the agreed blocks with their graphs
pub graph_text_is : (input : Input) (items : List Item) (rejected : List Rejected) (blocks : List Block) (empty text : List ℕ)
    → items ≡ input.items → rejected ≡ rejected_from input.table 0 items → AreAgreedBlocks input.table input.limits items blocks
    → empty ≡ [] → text ≡ empty ++ graph_text input.table rejected blocks
    → IsGraphText input text
graph_text_is input items rejected blocks empty text same told agreed none printed = (
  agreed.bodies,
  subst (λ (xs : List Item). AreAgreed input.table input.limits xs agreed.bodies) same agreed.agreed,
  (printed
      ∙ ap (λ (xs : List ℕ). xs ++ graph_text input.table rejected blocks) none
      ∙ ap (λ (rs : List Rejected). graph_text input.table rs blocks) (told ∙ ap (rejected_from input.table 0) same)
      ∙ ap (graph_text input.table (rejected_from input.table 0 input.items)) agreed.linked),
)
