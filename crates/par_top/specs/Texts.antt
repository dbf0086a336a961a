-- The text of a command, written whole or in part.
use Rattle.std.specs.Prelude.{ℕ, List, Option}
use Rattle.std.specs.Io.KnownBytes.{Appends}
use Rattle.par_io.specs.Reading.{ReadWhole}
use Rattle.par_io.specs.Writing.{AppendsFront}
use Rattle.input_doc.specs.Inputs.{Input}
use Rattle.input_doc.specs.Means.{Means}
use Rattle.soak_text.specs.Summary.{IsSoakText}
use Rattle.par_words.specs.Words.{Says}
use Rattle.par_words.specs.declared.command.Command.{Command}
use Rattle.par_words.specs.declared.command.Command.TheVariants.{Run, Graph, Soak}
use Rattle.command_text.specs.Commands.{IsRunText, IsGraphText}
use Rattle.par_top.specs.Headline.{document_limit}

-- the source was read to its end, and what it had means this input
pub record IsRead (rest_old rest_new : Option (List ℕ)) (input : Input) : Type 0 where
  pub bytes : List ℕ
  pub read : ReadWhole rest_old rest_new document_limit bytes
  pub means : Means bytes input

-- the source was read to its end, and what it had means an input, of which this is printed
pub record HasRead (prints : Input → List ℕ → Type 0) (rest_old rest_new : Option (List ℕ)) (lines : List ℕ) : Type 0 where
  pub input : Input
  pub document : IsRead rest_old rest_new input
  pub text : prints input lines

-- the text of a command: `run` and `graph` print it of the document that the source had, and `soak` of the input that it makes
abbrev pub Prints : Command → Option (List ℕ) → Option (List ℕ) → List ℕ → Type 0
Prints (Run workers traced evident) rest_old rest_new lines = HasRead (IsRunText workers traced evident) rest_old rest_new lines
Prints Graph rest_old rest_new lines = HasRead IsGraphText rest_old rest_new lines
Prints (Soak seed txns workers) rest_old rest_new lines = IsSoakText seed txns lines

-- the whole text of the command was written
pub record IsHeadline (command : Command) (rest_old rest_new written_old written_new : Option (List ℕ)) : Type 0 where
  pub lines : List ℕ
  pub read : Prints command rest_old rest_new lines
  pub written : Appends written_old written_new lines

-- a part from the front of the text of the command was written
pub record IsWrittenPart (command : Command) (rest_old rest_new written_old written_new : Option (List ℕ)) : Type 0 where
  pub lines : List ℕ
  pub read : Prints command rest_old rest_new lines
  pub written : AppendsFront written_old written_new lines

-- what is said of the command that the words are
abbrev pub OfCommand : List (List ℕ) → (Command → Type 0) → Type 0
OfCommand words P = (command : Command) × Says words command × P command
