-- What is told by how a command ends.
use Rattle.std.proofs.Common.{◌≡◌, ◌⊎◌, ℕ, List, Option, refl, inl, inr, subst}
use Rattle.par_io.specs.Causes.{Rose}
use Rattle.doc_forms.specs.declared.fault.DocFault.{DocFault}
use Rattle.par_words.specs.declared.command.Command.{Command}
use Rattle.par_top.specs.declared.status.Status.{Status}
use Rattle.par_top.specs.declared.status.Status.TheVariants as status
use Rattle.par_top.specs.Sayable.{CanSay}
use Rattle.par_top.specs.Endings.{Ends}
use Rattle.par_top.specs.Refusals.{IsReadFault, IsRefusal, Reads}
use Rattle.par_top.specs.Texts.{IsHeadline, IsWrittenPart}

module _ (command : Command) (source source_new sink sink_new : ℕ) (old new written written_new : Option (List ℕ)) (unwritten : Type 0) (result : Status)
    (ends : Ends command source source_new sink sink_new old new written written_new unwritten result)
  where
    abbrev End : Status → Type 0
    End s = Ends command source source_new sink sink_new old new written written_new unwritten s

    at : (s : Status) → result ≡ s → End s
    at s is = subst End is ends

    pub ended_ok : result ≡ status.Ok → IsHeadline command old new written written_new
    ended_ok is = at status.Ok is

    pub ended_in_part : result ≡ status.WriteFault → Rose sink sink_new × IsWrittenPart command old new written written_new
    ended_in_part is = at status.WriteFault is

    pub no_usage : result ≡ status.Usage → ⊥
    no_usage is = (at status.Usage is).0

    pub ended_refused : (f : DocFault) → result ≡ status.Refused f → Reads command × IsRefusal old new f
    ended_refused f is = let e = at (status.Refused f) is in (e.0.0, e.0.2)

    pub ended_unread : result ≡ status.ReadFault → Reads command × IsReadFault source source_new old new
    ended_unread is = (at status.ReadFault is).0

pub sayable_so : (command : Command) (source source_new sink sink_new : ℕ) (old new written written_new : Option (List ℕ)) (unwritten : Type 0) (result : Status)
    → Ends command source source_new sink sink_new old new written written_new unwritten result → CanSay result
sayable_so command s s' k k' old new w w' u status.Ok ends = tt
sayable_so command s s' k k' old new w w' u status.Usage ends = tt
sayable_so command s s' k k' old new w w' u (status.Refused f) ends = ends.0.1
sayable_so command s s' k k' old new w w' u status.OutOfMemory ends = tt
sayable_so command s s' k k' old new w w' u status.ReadFault ends = tt
sayable_so command s s' k k' old new w w' u status.WriteFault ends = tt

pub nothing_so : (command : Command) (source source_new sink sink_new : ℕ) (old new written written_new : Option (List ℕ)) (unwritten : Type 0) (result : Status)
    → Ends command source source_new sink sink_new old new written written_new unwritten result → (result ≡ status.Ok) ⊎ ((result ≡ status.WriteFault) ⊎ unwritten)
nothing_so command s s' k k' old new w w' u status.Ok ends = inl refl
nothing_so command s s' k k' old new w w' u status.Usage ends = inr (inr ends.1)
nothing_so command s s' k k' old new w w' u (status.Refused f) ends = inr (inr ends.1)
nothing_so command s s' k k' old new w w' u status.OutOfMemory ends = inr (inr ends.1)
nothing_so command s s' k k' old new w w' u status.ReadFault ends = inr (inr ends.1)
nothing_so command s s' k k' old new w w' u status.WriteFault ends = inr (inl refl)

-- the other of two facts
pub left_alone : (P Q : Type 0) → ¬ P → P ⊎ Q → Q
left_alone P Q none (inl p) = absurd (none p)
left_alone P Q none (inr q) = q
