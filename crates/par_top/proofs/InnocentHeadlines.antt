-- Nobody innocent is named in the evidence of a document.
use Rattle.std.specs.Prelude.{ℕ, ◌≡◌, Bool, true, List, Option}
use Rattle.std.specs.List.{All}
use Rattle.std.specs.Io.KnownBytes.{Appends}
use Rattle.std.proofs.Common.{subst, sym}
use Rattle.node_defs.specs.LawfulEvents.{IsSaidByFaulty}
use Rattle.node_defs.specs.Programs.{setting_of}
use Rattle.node_defs.proofs.LawfulEvents.{said_by_faulty}
use Rattle.node_defs.proofs.Settings.{agreed_setting_is}
use Rattle.evidence_laws.proofs.Innocent.{innocence}
use Rattle.txn_core.specs.States.{state_of}
use Rattle.input_doc.specs.Inputs.{Input}
use Rattle.input_doc.specs.LawfulInputs.{IsLawfulInput}
use Rattle.input_doc.proofs.Once.{exactly_one}
use Rattle.par_words.specs.declared.command.Command.TheVariants.{Run}
use Rattle.command_text.specs.Evident.{HasEvidenceLines}
use Rattle.par_top.specs.Texts.{IsHeadline}
use Rattle.par_top.specs.InnocentHeadline.{IsInnocentHeadline}

-- the schedule of a lawful input says nothing of a node that isn't faulty
said_by : (input : Input) (lines : List ℕ) → IsLawfulInput input → (seen : HasEvidenceLines input lines) → All (IsSaidByFaulty seen.setting) input.schedule
said_by input lines lawful seen =
    subst (λ s. All (IsSaidByFaulty s) input.schedule) (sym (agreed_setting_is input.table (state_of input.genesis) input.items input.limits input.faulty seen.setting seen.is))
    (said_by_faulty (setting_of input.table (state_of input.genesis) input.items seen.is.bodies input.faulty) input.schedule (lawful.schedule (state_of input.genesis) seen.is.bodies).each)

-- where the whole text was written with evidence, nobody innocent is named in it
pub innocent_headline : (workers : ℕ) (traced : Bool) (rest_old rest_new written_old written_new : Option (List ℕ)) → IsHeadline (Run workers traced true) rest_old rest_new written_old written_new → IsInnocentHeadline workers traced rest_old rest_new written_old written_new
innocent_headline workers traced rest_old rest_new written_old written_new h =
    let printed = h.read.text in
    let input = h.read.input in
    let seen = printed.seen in
    let lawful = (exactly_one h.read.document.bytes).lawful input h.read.document.means in record {
      bytes = h.read.document.bytes;
      input = input;
      text = printed.text;
      evidence = printed.evidence;
      trace = printed.trace;
      read = h.read.document.read;
      means = h.read.document.means;
      written = subst (Appends written_old written_new) printed.whole h.written;
      world = printed.world;
      seen = seen;
      bursts = printed.bursts;
      innocent = λ p inside honest. innocence input.table (state_of input.genesis) input.items input.limits input.faulty seen.setting input.schedule seen.world p (seen.lines_are.orderers p) (seen.lines_are.agents p)
          seen.is (said_by input printed.evidence lawful seen) seen.led (seen.lines_are.are p inside honest);
    }
