-- The headline, from the whole text.
use Rattle.std.specs.Prelude.{ℕ, ◌≡◌, Bool, true, false, List, [], Option}
use Rattle.std.specs.Io.KnownBytes.{Appends}
use Rattle.std.proofs.Common.{subst}
use Rattle.node_defs.specs.Programs.{setting_of}
use Rattle.node_defs.specs.Text.{IsTextOf}
use Rattle.node_defs.proofs.LawfulEvents.{said_by_faulty}
use Rattle.text_laws.proofs.SerialTexts.{tame_texts}
use Rattle.txn_core.specs.States.{state_of}
use Rattle.input_doc.specs.Inputs.{Input}
use Rattle.input_doc.specs.LawfulInputs.{IsLawfulInput}
use Rattle.input_doc.proofs.Once.{exactly_one}
use Rattle.par_words.specs.declared.command.Command.TheVariants.{Run}
use Rattle.command_text.specs.Traced.{IsTraceText}
use Rattle.command_text.specs.Evident.{IsEvidenceText}
use Rattle.par_top.specs.Texts.{IsHeadline}
use Rattle.par_top.specs.Headline.{IsSerialHeadline, IsTame, IsSerialText}

-- the text of a tame input is one of serial runs
serial_is : (input : Input) (lines : List ℕ) → IsLawfulInput input →
    IsTextOf input.table (state_of input.genesis) input.items input.limits input.faulty input.schedule lines → IsTame input → IsSerialText input lines
serial_is input lines lawful printed tame =
    tame_texts input.table (state_of input.genesis) input.items input.limits input.faulty input.schedule lines tame
    (λ bodies. said_by_faulty (setting_of input.table (state_of input.genesis) input.items bodies input.faulty) input.schedule (lawful.schedule (state_of input.genesis) bodies).each) printed

-- where no trace is asked for there is none
pub no_trace : (workers : ℕ) (traced : Bool) (input : Input) (lines : List ℕ) → IsTraceText traced workers input lines → traced ≡ false → lines ≡ []
no_trace workers true input lines is asked = cc
no_trace workers false input lines is asked = is

pub no_evidence : (evident : Bool) (input : Input) (lines : List ℕ) → IsEvidenceText evident input lines → evident ≡ false → lines ≡ []
no_evidence true input lines is asked = cc
no_evidence false input lines is asked = is

-- where the whole text was written, and the input is tame, it is one of serial runs
pub serial_headline : (workers : ℕ) (traced evident : Bool) (rest_old rest_new written_old written_new : Option (List ℕ)) → IsHeadline (Run workers traced evident) rest_old rest_new written_old written_new → IsSerialHeadline traced evident rest_old rest_new written_old written_new
serial_headline workers traced evident rest_old rest_new written_old written_new h =
    let printed = h.read.text in record {
      bytes = h.read.document.bytes;
      input = h.read.input;
      text = printed.text;
      evidence = printed.evidence;
      trace = printed.trace;
      read = h.read.document.read;
      means = h.read.document.means;
      written = subst (Appends written_old written_new) printed.whole h.written;
      unasked = no_evidence evident h.read.input printed.evidence printed.seen;
      untraced = no_trace workers traced h.read.input printed.trace printed.bursts;
      serial = serial_is h.read.input printed.text ((exactly_one h.read.document.bytes).lawful h.read.input h.read.document.means) printed.world;
    }
