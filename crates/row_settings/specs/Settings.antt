-- What a document says of records and nodes, and the blocks that its stream is cut into.
use Rattle.std.specs.Prelude.{◌≡◌, ℕ, ◌==◌, List, map, if◌then◌else◌}
use Rattle.txn_types.specs.declared.block.Block.{Block}
use Rattle.txn_types.specs.declared.block.Body.{Body}
use Rattle.oxii_defs.specs.Chain.{chain}
use Rattle.node_defs.specs.Cutting.{AreAgreed}
use Rattle.txn_core.specs.declared.table.Table.{Table}
use Rattle.txn_core.specs.MeantTable.{table_of}
use Rattle.input_doc.specs.Inputs.{Input}
use Rattle.input_doc.specs.Means.{Means}
use Rattle.input_doc.specs.FirstFaults.{IsFaultOf}
use Rattle.doc_forms.specs.declared.fault.DocFault.{DocFault}

-- ' stands for the quotation mark
abbrev pub quoted_byte : ℕ → ℕ
quoted_byte b = if b == 39 then 34 else b

-- the document means an input with this table and these values at the start, and its agreed blocks are these
pub record IsOfDocument (document : List ℕ) (table : Table) (genesis : List ℕ) (bodies : List Body) (blocks : List Block) : Type 0 where
  pub input : Input
  pub means : Means (map quoted_byte document) input
  pub table_is : table_of table ≡ input.table
  pub genesis_is : genesis ≡ input.genesis
  pub agreed : AreAgreed input.table input.limits input.items bodies
  pub chained : blocks ≡ chain input.table bodies

-- some fault is that of these bytes
abbrev pub HasSomeFault : List ℕ → Type 0
HasSomeFault bytes = (fault : DocFault) × IsFaultOf bytes fault
