-- The calm headline: what was written is the text of serial runs, however many nodes are named faulty and stay silent.
use Rattle.std.specs.Prelude.{◌≡◌, ℕ, Bool, false, List, [], ◌++◌, Option}
use Rattle.std.specs.Io.KnownBytes.{Appends}
use Rattle.par_io.specs.Reading.{ReadWhole}
use Rattle.completion_laws.specs.Calm as calm
use Rattle.txn_core.specs.States.{state_of}
use Rattle.input_doc.specs.Inputs.{Input}
use Rattle.input_doc.specs.Means.{Means}
use Rattle.par_top.specs.Headline.{IsSerialText, document_limit}

-- few enough nodes say something of their own in the schedule, at each block that is agreed
abbrev pub IsCalm : Input → Type 0
IsCalm input = calm.IsCalmInput input.table (state_of input.genesis) input.items input.limits input.faulty input.schedule

-- the source was read to its end, what it had means an input, and what was written is a text, after it evidence, and after that what is traced, of which each is nothing where it isn't asked for. Where few enough nodes say something of their own, the text is that of serial runs: each peer that isn't faulty printed the serial run of the blocks that it completed, however many nodes are named faulty
pub record IsCalmHeadline (traced evident : Bool) (rest_old rest_new written_old written_new : Option (List ℕ)) : Type 0 where
  pub bytes : List ℕ
  pub input : Input
  pub text : List ℕ
  pub evidence : List ℕ
  pub trace : List ℕ
  pub read : ReadWhole rest_old rest_new document_limit bytes
  pub means : Means bytes input
  pub written : Appends written_old written_new (text ++ evidence ++ trace)
  pub unasked : evident ≡ false → evidence ≡ []
  pub untraced : traced ≡ false → trace ≡ []
  pub calm : IsCalm input → IsSerialText input text
