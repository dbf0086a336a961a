-- How a command ends.
use Rattle.std.specs.Prelude.{ℕ, List, Option}
use Rattle.par_io.specs.Causes.{Rose}
use Rattle.par_words.specs.declared.command.Command.{Command}
use Rattle.par_top.specs.declared.status.Status.{Status}
use Rattle.par_top.specs.declared.status.Status.TheVariants as status
use Rattle.par_top.specs.Sayable.{CanBeSaid}
use Rattle.par_top.specs.Texts.{IsHeadline, IsWrittenPart}
use Rattle.par_top.specs.Refusals.{IsReadFault, Reads, IsRefusal}

-- why there is no text: memory was wanted, or, where a document is read, what the source gave or did
abbrev pub IsNoText : (reads : Type 0) → (faults_old faults_new : ℕ) → (rest_old rest_new : Option (List ℕ)) → Status → Type 0
IsNoText reads faults_old faults_new rest_old rest_new status.Ok = ⊥
IsNoText reads faults_old faults_new rest_old rest_new status.Usage = ⊥
IsNoText reads faults_old faults_new rest_old rest_new (status.Refused f) = reads × CanBeSaid f × IsRefusal rest_old rest_new f
IsNoText reads faults_old faults_new rest_old rest_new status.OutOfMemory = Unit {0}
IsNoText reads faults_old faults_new rest_old rest_new status.ReadFault = reads × IsReadFault faults_old faults_new rest_old rest_new
IsNoText reads faults_old faults_new rest_old rest_new status.WriteFault = ⊥

-- what each status says of a command that was run: nothing was written but its text, or a part of it where the sink failed
abbrev pub Ends : Command → (source_old source_new sink_old sink_new : ℕ) → (rest_old rest_new written_old written_new : Option (List ℕ)) → (unwritten : Type 0) → Status → Type 0
Ends command source_old source_new sink_old sink_new rest_old rest_new written_old written_new unwritten status.Ok = IsHeadline command rest_old rest_new written_old written_new
Ends command source_old source_new sink_old sink_new rest_old rest_new written_old written_new unwritten status.WriteFault = Rose sink_old sink_new × IsWrittenPart command rest_old rest_new written_old written_new
Ends command source_old source_new sink_old sink_new rest_old rest_new written_old written_new unwritten other = IsNoText (Reads command) source_old source_new rest_old rest_new other × unwritten
