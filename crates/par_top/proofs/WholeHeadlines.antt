-- The whole headline and the calm one, from the whole text.
use Rattle.std.specs.Prelude.{ℕ, Bool, List, Option}
use Rattle.std.specs.Io.KnownBytes.{Appends}
use Rattle.std.proofs.Common.{subst}
use Rattle.node_defs.specs.Programs.{setting_of}
use Rattle.node_defs.specs.Text.{IsTextOf}
use Rattle.node_defs.proofs.LawfulEvents.{said_by_faulty}
use Rattle.completion_laws.proofs.WholeTexts.{calm_texts, whole_texts}
use Rattle.txn_core.proofs.StateLemmas.{state_of-values}
use Rattle.txn_core.specs.States.{state_of}
use Rattle.input_doc.specs.Inputs.{Input}
use Rattle.input_doc.specs.LawfulInputs.{IsLawfulInput}
use Rattle.input_doc.proofs.Once.{exactly_one}
use Rattle.par_words.specs.declared.command.Command.TheVariants.{Run}
use Rattle.par_top.specs.Texts.{IsHeadline}
use Rattle.par_top.specs.Headline.{IsSerialText, IsTame}
use Rattle.par_top.specs.WholeHeadline.{HasAll, IsWellStaffed, IsWholeHeadline, IsWholeText}
use Rattle.par_top.specs.CalmHeadline.{IsCalm, IsCalmHeadline}
use Rattle.par_top.proofs.SerialHeadlines.{no_evidence, no_trace}

-- the text of a tame and well staffed input with an `all` is that of serial runs of the whole chain
whole_is : (input : Input) (lines : List ℕ) → IsLawfulInput input →
    IsTextOf input.table (state_of input.genesis) input.items input.limits input.faulty input.schedule lines → IsTame input → IsWellStaffed input → HasAll input → IsWholeText input lines
whole_is input lines lawful printed tame staffed all =
    whole_texts input.table (state_of input.genesis) input.items input.limits input.faulty input.schedule lines lawful.table (state_of-values input.genesis lawful.values) lawful.limits lawful.items tame staffed all
    (λ bodies. said_by_faulty (setting_of input.table (state_of input.genesis) input.items bodies input.faulty) input.schedule (lawful.schedule (state_of input.genesis) bodies).each) printed

-- that of a calm input is one of serial runs
calm_is : (input : Input) (lines : List ℕ) → IsLawfulInput input →
    IsTextOf input.table (state_of input.genesis) input.items input.limits input.faulty input.schedule lines → IsCalm input → IsSerialText input lines
calm_is input lines lawful printed calm =
    calm_texts input.table (state_of input.genesis) input.items input.limits input.faulty input.schedule lines calm
    (λ bodies. said_by_faulty (setting_of input.table (state_of input.genesis) input.items bodies input.faulty) input.schedule (lawful.schedule (state_of input.genesis) bodies).each) printed

-- where the whole text was written, the input is tame and well staffed, and there is an `all`, it is one of serial runs of the whole chain
pub whole_headline : (workers : ℕ) (traced evident : Bool) (rest_old rest_new written_old written_new : Option (List ℕ)) → IsHeadline (Run workers traced evident) rest_old rest_new written_old written_new → IsWholeHeadline traced evident rest_old rest_new written_old written_new
whole_headline workers traced evident rest_old rest_new written_old written_new h =
    let printed = h.read.text in record {
      bytes = h.read.document.bytes;
      input = h.read.input;
      text = printed.text;
      evidence = printed.evidence;
      trace = printed.trace;
      read = h.read.document.read;
      means = h.read.document.means;
      written = subst (Appends written_old written_new) printed.whole h.written;
      unasked = no_evidence evident h.read.input printed.evidence printed.seen;
      untraced = no_trace workers traced h.read.input printed.trace printed.bursts;
      whole = whole_is h.read.input printed.text ((exactly_one h.read.document.bytes).lawful h.read.input h.read.document.means) printed.world;
    }

-- where the whole text was written, and the input is calm, it is one of serial runs
pub calm_headline : (workers : ℕ) (traced evident : Bool) (rest_old rest_new written_old written_new : Option (List ℕ)) → IsHeadline (Run workers traced evident) rest_old rest_new written_old written_new → IsCalmHeadline traced evident rest_old rest_new written_old written_new
calm_headline workers traced evident rest_old rest_new written_old written_new h =
    let printed = h.read.text in record {
      bytes = h.read.document.bytes;
      input = h.read.input;
      text = printed.text;
      evidence = printed.evidence;
      trace = printed.trace;
      read = h.read.document.read;
      means = h.read.document.means;
      written = subst (Appends written_old written_new) printed.whole h.written;
      unasked = no_evidence evident h.read.input printed.evidence printed.seen;
      untraced = no_trace workers traced h.read.input printed.trace printed.bursts;
      calm = calm_is h.read.input printed.text ((exactly_one h.read.document.bytes).lawful h.read.input h.read.document.means) printed.world;
    }
