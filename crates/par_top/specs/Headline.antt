-- The headline: what was written is the text of a tame document's serial runs.
use Rattle.std.specs.Prelude.{◌≡◌, ℕ, Bool, false, List, [], ◌++◌, Option}
use Rattle.std.specs.Io.KnownBytes.{Appends}
use Rattle.par_io.specs.Reading.{ReadWhole}
use Rattle.text_laws.specs.SerialText as serial
use Rattle.txn_core.specs.States.{state_of}
use Rattle.input_doc.specs.Inputs.{Input}
use Rattle.input_doc.specs.Means.{Means}

-- a document has at most 4 MiB
abbrev pub document_limit : ℕ
document_limit = 4194304

-- few enough nodes are named faulty, at each block that is agreed
abbrev pub IsTame : Input → Type 0
IsTame input = serial.IsTameInput input.table (state_of input.genesis) input.items input.limits input.faulty

-- the lines of each peer that isn't named faulty are those of the serial run of the first blocks of the chain, as many as it completed
abbrev pub IsSerialText : Input → List ℕ → Type 0
IsSerialText input lines = serial.HasSerialText input.table (state_of input.genesis) input.items input.limits input.faulty input.schedule lines

-- the source was read to its end, what it had means an input, and what was written is a text, after it evidence, and after that what is traced, of which each is nothing where it isn't asked for. Where the input is tame, the text is that of serial runs: each peer that isn't faulty printed the serial run of the blocks that it completed, whatever the schedule and however many workers there are
pub record IsSerialHeadline (traced evident : Bool) (rest_old rest_new written_old written_new : Option (List ℕ)) : Type 0 where
  pub bytes : List ℕ
  pub input : Input
  pub text : List ℕ
  pub evidence : List ℕ
  pub trace : List ℕ
  pub read : ReadWhole rest_old rest_new document_limit bytes
  pub means : Means bytes input
  pub written : Appends written_old written_new (text ++ evidence ++ trace)
  pub unasked : evident ≡ false → evidence ≡ []
  pub untraced : traced ≡ false → trace ≡ []
  pub serial : IsTame input → IsSerialText input text
