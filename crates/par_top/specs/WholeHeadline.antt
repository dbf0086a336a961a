-- The whole headline: what was written is the text of serial runs of the whole chain.
use Rattle.std.specs.Prelude.{◌≡◌, ℕ, Bool, false, List, [], ◌++◌, Option}
use Rattle.std.specs.Io.KnownBytes.{Appends}
use Rattle.par_io.specs.Reading.{ReadWhole}
use Rattle.completion_laws.specs.WholeText as whole
use Rattle.txn_core.specs.States.{state_of}
use Rattle.input_doc.specs.Inputs.{Input}
use Rattle.input_doc.specs.Means.{Means}
use Rattle.par_top.specs.Headline.{IsTame, document_limit}

-- enough nodes aren't named faulty, at each block that is agreed
abbrev pub IsWellStaffed : Input → Type 0
IsWellStaffed input = whole.IsWellStaffedInput input.table (state_of input.genesis) input.items input.limits input.faulty

-- the schedule has an `all`
abbrev pub HasAll : Input → Type 0
HasAll input = whole.HaveAll input.schedule

-- the lines of each peer that isn't named faulty are those of the serial run of the whole chain
abbrev pub IsWholeText : Input → List ℕ → Type 0
IsWholeText input lines = whole.IsWholeText input.table (state_of input.genesis) input.items input.limits input.faulty lines

-- the source was read to its end, what it had means an input, and what was written is a text, after it evidence, and after that what is traced, of which each is nothing where it isn't asked for. Where the input is tame and well staffed, and its schedule has an `all`, each peer that isn't faulty printed every block of the chain, as the serial run has it
pub record IsWholeHeadline (traced evident : Bool) (rest_old rest_new written_old written_new : Option (List ℕ)) : Type 0 where
  pub bytes : List ℕ
  pub input : Input
  pub text : List ℕ
  pub evidence : List ℕ
  pub trace : List ℕ
  pub read : ReadWhole rest_old rest_new document_limit bytes
  pub means : Means bytes input
  pub written : Appends written_old written_new (text ++ evidence ++ trace)
  pub unasked : evident ≡ false → evidence ≡ []
  pub untraced : traced ≡ false → trace ≡ []
  pub whole : IsTame input → IsWellStaffed input → HasAll input → IsWholeText input text
