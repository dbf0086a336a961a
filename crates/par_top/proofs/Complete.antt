-- A document of the form is refused by no status.
use Rattle.std.proofs.Common.{◌≡◌, ◌≤◌, ◌<◌, ◌⊎◌, ℕ, List, ◌++◌, length, Option, Some, None, arith, refl, sym, ap, subst, ◌∙◌, inl, inr, length-append}
use Rattle.std.proofs.lemmas.List.{append-nil}
use Rattle.std.specs.Io.KnownBytes.{Consumes, IsAtEnd}
use Rattle.par_io.specs.Causes.{Rose}
use Rattle.contract_text.specs.declared.faults.TextFault.TheVariants as text
use Rattle.doc_forms.specs.declared.fault.DocFault.{DocFault}
use Rattle.doc_forms.specs.declared.fault.DocFault.TheVariants as fault
use Rattle.input_doc.specs.Inputs.{Input}
use Rattle.doc_forms.specs.Faults.{Fault}
use Rattle.doc_forms.specs.Check.{Fails}
use Rattle.input_doc.specs.Means.{Means}
use Rattle.input_doc.specs.ExactlyOne.{ExactlyOne}
use Rattle.input_doc.specs.FirstFaults.{HasFault, IsFaultOf}
use Rattle.par_top.specs.declared.status.Status.{Status}
use Rattle.par_top.specs.declared.status.Status.TheVariants as status
use Rattle.par_words.specs.declared.command.Command.{Command}
use Rattle.par_words.specs.declared.command.Command.TheVariants.{Run, Graph, Soak}
use Rattle.command_text.specs.Commands.{IsRunText, IsGraphText}
use Rattle.par_top.specs.Endings.{Ends}
use Rattle.par_top.specs.Refusals.{IsRefusal, IsRefusedFor, Reads, refusal, too_long}
use Rattle.par_top.specs.Texts.{HasRead, Prints}
use Rattle.par_top.specs.Headline.{document_limit}

-- what was read to the end of a source that tells its bytes is all of them
all_read : (bytes taken : List ℕ) (new : Option (List ℕ)) → Consumes (Some bytes) new taken → IsAtEnd new → taken ≡ bytes
all_read bytes taken None consumed end = absurd consumed
all_read bytes taken (Some rest) consumed end = sym (consumed ∙ ap (λ (xs : List ℕ). taken ++ xs) end ∙ append-nil taken)

no_more : (bytes taken : List ℕ) (new : Option (List ℕ)) → Consumes (Some bytes) new taken → length taken ≤ length bytes
no_more bytes taken None consumed = absurd consumed
no_more bytes taken (Some rest) consumed = omega (arith, length-append taken rest, ap length consumed)

-- bytes that mean an input have no fault
no_fault : (bytes : List ℕ) (input : Input) (f : DocFault) → ExactlyOne bytes → Means bytes input → IsFaultOf bytes f → ⊥
no_fault bytes input fault.NotJson once means h = once.not_both input _ means h
no_fault bytes input (fault.Field path) once means h = once.not_both input _ means h
no_fault bytes input (fault.Limit which limit) once means h = once.not_both input _ means h
no_fault bytes input (fault.Contract app text.OutOfMemory) once means h = h.2
no_fault bytes input (fault.Contract app (text.Syntax at)) once means h = once.not_both input _ means h
no_fault bytes input (fault.Contract app (text.UnknownName at)) once means h = once.not_both input _ means h
no_fault bytes input (fault.Contract app (text.Kind at)) once means h = once.not_both input _ means h
no_fault bytes input (fault.Contract app (text.Limit at)) once means h = once.not_both input _ means h
no_fault bytes input (fault.Contract app (text.Double at)) once means h = once.not_both input _ means h
no_fault bytes input (fault.Name path) once means h = once.not_both input _ means h
no_fault bytes input (fault.Double path) once means h = once.not_both input _ means h
no_fault bytes input fault.OutOfMemory once means h = h

no_refusal : (bytes : List ℕ) (new : Option (List ℕ)) (input : Input) (f : DocFault) → ((bytes : List ℕ) → ExactlyOne bytes) → length bytes ≤ document_limit → Means bytes input → IsRefusal (Some bytes) new f → ⊥
no_refusal bytes new input f once short means (inl long) = omega (arith, no_more bytes long.1.0 new long.1.1, long.1.2)
no_refusal bytes new input f once short means (inr is) =
    no_fault bytes input f (once bytes) means (subst (λ (xs : List ℕ). IsFaultOf xs f) (all_read bytes is.bytes new is.read.taken is.read.end) is.is)

-- each other status has a cause that is not there
pub is_answered : (command : Command) (result : Status) (source source_new sink sink_new : ℕ) (old new written written_new : Option (List ℕ)) (unwritten : Type 0) (bytes : List ℕ) (input : Input)
    → ((bytes : List ℕ) → ExactlyOne bytes) → old ≡ Some bytes → length bytes ≤ document_limit → Means bytes input
    → ¬ Rose source source_new → ¬ Rose sink sink_new
    → Ends command source source_new sink sink_new old new written written_new unwritten result
    → (result ≡ status.Ok) ⊎ (result ≡ status.OutOfMemory)
is_answered command status.Ok s s' k k' old new w w' u bytes input once told short means read written ends = inl refl
is_answered command status.Usage s s' k k' old new w w' u bytes input once told short means read written ends = absurd ends.0
is_answered command (status.Refused f) s s' k k' old new w w' u bytes input once told short means read written ends =
    absurd (no_refusal bytes new input f once short means (subst (λ (o : Option (List ℕ)). IsRefusal o new f) told ends.0.2))
is_answered command status.OutOfMemory s s' k k' old new w w' u bytes input once told short means read written ends = inr refl
is_answered command status.ReadFault s s' k k' old new w w' u bytes input once told short means read written ends = absurd (read ends.0.1.rose)
is_answered command status.WriteFault s s' k k' old new w w' u bytes input once told short means read written ends = absurd (written ends.0)

-- a command that reads nothing is refused by no status but that of the sink
pub is_made : (command : Command) (result : Status) (source source_new sink sink_new : ℕ) (old new written written_new : Option (List ℕ)) (unwritten : Type 0)
    → ¬ Reads command → ¬ Rose sink sink_new
    → Ends command source source_new sink sink_new old new written written_new unwritten result
    → (result ≡ status.Ok) ⊎ (result ≡ status.OutOfMemory)
is_made command status.Ok s s' k k' old new w w' u none kept ends = inl refl
is_made command status.Usage s s' k k' old new w w' u none kept ends = absurd ends.0
is_made command (status.Refused f) s s' k k' old new w w' u none kept ends = absurd (none ends.0.0)
is_made command status.OutOfMemory s s' k k' old new w w' u none kept ends = inr refl
is_made command status.ReadFault s s' k k' old new w w' u none kept ends = absurd (none ends.0.0)
is_made command status.WriteFault s s' k k' old new w w' u none kept ends = absurd (kept ends.0)

-- bytes with a fault

the_fault : (bytes : List ℕ) (told : Fault) (f : DocFault) → ExactlyOne bytes → HasFault bytes told → IsFaultOf bytes f → Fails f (refusal told)
the_fault bytes told fault.NotJson once is h = ap refusal (once.one_fault told _ is h)
the_fault bytes told (fault.Field path) once is h = ap refusal (once.one_fault told _ is h)
the_fault bytes told (fault.Limit which limit) once is h = ap refusal (once.one_fault told _ is h)
the_fault bytes told (fault.Contract app text.OutOfMemory) once is h = h.2
the_fault bytes told (fault.Contract app (text.Syntax at)) once is h = ap refusal (once.one_fault told _ is h)
the_fault bytes told (fault.Contract app (text.UnknownName at)) once is h = ap refusal (once.one_fault told _ is h)
the_fault bytes told (fault.Contract app (text.Kind at)) once is h = ap refusal (once.one_fault told _ is h)
the_fault bytes told (fault.Contract app (text.Limit at)) once is h = ap refusal (once.one_fault told _ is h)
the_fault bytes told (fault.Contract app (text.Double at)) once is h = ap refusal (once.one_fault told _ is h)
the_fault bytes told (fault.Name path) once is h = ap refusal (once.one_fault told _ is h)
the_fault bytes told (fault.Double path) once is h = ap refusal (once.one_fault told _ is h)
the_fault bytes told fault.OutOfMemory once is h = absurd h

refused_so : (bytes : List ℕ) (new : Option (List ℕ)) (told : Fault) (f : DocFault) → ExactlyOne bytes → length bytes ≤ document_limit → HasFault bytes told → IsRefusal (Some bytes) new f → Fails f (refusal told)
refused_so bytes new told f once short is (inl long) = absurd (omega (arith, no_more bytes long.1.0 new long.1.1, long.1.2))
refused_so bytes new told f once short is (inr at) =
    the_fault bytes told f once is (subst (λ (xs : List ℕ). IsFaultOf xs f) (all_read bytes at.bytes new at.read.taken at.read.end) at.is)

-- a text that a command prints of a document
abbrev Reading : Option (List ℕ) → Option (List ℕ) → List ℕ → Type 0 → Type 1
Reading old new lines X = (prints : Input → List ℕ → Type 0) → HasRead prints old new lines → X

of_document : (command : Command) (old new : Option (List ℕ)) (lines : List ℕ) → Reads command → Prints command old new lines → Reading old new lines ⊥ → ⊥
of_document (Run workers traced evident) old new lines reads printed none = none (IsRunText workers traced evident) printed
of_document Graph old new lines reads printed none = none IsGraphText printed
of_document (Soak seed txns workers) old new lines reads printed none = reads

-- a document that is printed has no fault
was_faultless : (old new : Option (List ℕ)) (bytes lines : List ℕ) (told : Fault) → ExactlyOne bytes → old ≡ Some bytes → HasFault bytes told → Reading old new lines ⊥
was_faultless old new bytes lines told once is fault prints read =
    let d = read.document in
    let same : d.bytes ≡ bytes = all_read bytes d.bytes new (subst (λ (o : Option (List ℕ)). Consumes o new d.bytes) is d.read.taken) d.read.end in
    once.not_both read.input told (subst (λ (xs : List ℕ). Means xs read.input) same d.means) fault

pub is_faulty : (command : Command) (result : Status) (source source_new sink sink_new : ℕ) (old new written written_new : Option (List ℕ)) (unwritten : Type 0) (bytes : List ℕ) (told : Fault)
    → Reads command → ExactlyOne bytes → old ≡ Some bytes → length bytes ≤ document_limit → HasFault bytes told
    → ¬ Rose source source_new
    → Ends command source source_new sink sink_new old new written written_new unwritten result
    → IsRefusedFor result told ⊎ (result ≡ status.OutOfMemory)
is_faulty command status.Ok s s' k k' old new w w' u bytes told reads once is short fault read ends =
    absurd (of_document command old new ends.lines reads ends.read (was_faultless old new bytes ends.lines told once is fault))
is_faulty command status.Usage s s' k k' old new w w' u bytes told reads once is short fault read ends = absurd ends.0
is_faulty command (status.Refused f) s s' k k' old new w w' u bytes told reads once is short fault read ends =
    inl (refused_so bytes new told f once short fault (subst (λ (o : Option (List ℕ)). IsRefusal o new f) is ends.0.2))
is_faulty command status.OutOfMemory s s' k k' old new w w' u bytes told reads once is short fault read ends = inr refl
is_faulty command status.ReadFault s s' k k' old new w w' u bytes told reads once is short fault read ends = absurd (read ends.0.1.rose)
is_faulty command status.WriteFault s s' k k' old new w w' u bytes told reads once is short fault read ends =
    absurd (of_document command old new ends.1.lines reads ends.1.read (was_faultless old new bytes ends.1.lines told once is fault))

-- more bytes than a document has

-- a document that is printed is no longer than the limit
was_short : (old new : Option (List ℕ)) (bytes lines : List ℕ) → old ≡ Some bytes → document_limit < length bytes → Reading old new lines ⊥
was_short old new bytes lines told long prints read =
    let d = read.document in
    let same : d.bytes ≡ bytes = all_read bytes d.bytes new (subst (λ (o : Option (List ℕ)). Consumes o new d.bytes) told d.read.taken) d.read.end in
    omega (arith, d.read.short, ap length same, long)

long_so : (bytes : List ℕ) (new : Option (List ℕ)) (f : DocFault) → document_limit < length bytes → IsRefusal (Some bytes) new f → f ≡ too_long
long_so bytes new f long (inl is) = is.0
long_so bytes new f long (inr at) = absurd (omega (arith, at.read.short, ap length (all_read bytes at.bytes new at.read.taken at.read.end), long))

pub is_long : (command : Command) (result : Status) (source source_new sink sink_new : ℕ) (old new written written_new : Option (List ℕ)) (unwritten : Type 0) (bytes : List ℕ)
    → Reads command → old ≡ Some bytes → document_limit < length bytes
    → ¬ Rose source source_new
    → Ends command source source_new sink sink_new old new written written_new unwritten result
    → (result ≡ status.Refused too_long) ⊎ (result ≡ status.OutOfMemory)
is_long command status.Ok s s' k k' old new w w' u bytes reads told long read ends =
    absurd (of_document command old new ends.lines reads ends.read (was_short old new bytes ends.lines told long))
is_long command status.Usage s s' k k' old new w w' u bytes reads told long read ends = absurd ends.0
is_long command (status.Refused f) s s' k k' old new w w' u bytes reads told long read ends =
    inl (ap refused_for (long_so bytes new f long (subst (λ (o : Option (List ℕ)). IsRefusal o new f) told ends.0.2)))
  where
    refused_for : DocFault → Status
    refused_for g = status.Refused g
is_long command status.OutOfMemory s s' k k' old new w w' u bytes reads told long read ends = inr refl
is_long command status.ReadFault s s' k k' old new w w' u bytes reads told long read ends = absurd (read ends.0.1.rose)
is_long command status.WriteFault s s' k k' old new w w' u bytes reads told long read ends =
    absurd (of_document command old new ends.1.lines reads ends.1.read (was_short old new bytes ends.1.lines told long))
