-- What `run` and `graph` print of a document.
use Rattle.std.specs.Prelude.{◌≡◌, ℕ, Bool, List, ◌++◌}
use Rattle.node_defs.specs.Text.{IsTextOf}
use Rattle.node_defs.specs.GraphText.{IsGraphTextOf}
use Rattle.txn_core.specs.States.{state_of}
use Rattle.input_doc.specs.Inputs.{Input}
use Rattle.command_text.specs.Traced.{IsTraceText}
use Rattle.command_text.specs.Evident.{IsEvidenceText}

-- what `run` prints whatever its options: the text of the world of its events, over the chain of its agreed blocks
abbrev pub IsWorldText : Input → List ℕ → Type 0
IsWorldText input lines = IsTextOf input.table (state_of input.genesis) input.items input.limits input.faulty input.schedule lines

-- what `run` prints with these options: that text, after it the evidence, and after that what is traced
pub record IsRunText (workers : ℕ) (traced evident : Bool) (input : Input) (lines : List ℕ) : Type 0 where
  pub text : List ℕ
  pub evidence : List ℕ
  pub trace : List ℕ
  pub whole : lines ≡ text ++ evidence ++ trace
  pub world : IsWorldText input text
  pub seen : IsEvidenceText evident input evidence
  pub bursts : IsTraceText traced workers input trace

-- what `graph` prints
abbrev pub IsGraphText : Input → List ℕ → Type 0
IsGraphText input lines = IsGraphTextOf input.table input.items input.limits lines
