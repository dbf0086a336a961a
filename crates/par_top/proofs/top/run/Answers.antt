-- What the check of `run` leaves to show.
use Rattle.std.proofs.Common.{◌≡◌, map, string_bytes, subst, sym, true}
use Rattle.input_doc.proofs.Once.{exactly_one}
use Rattle.par_words.specs.Words.{IsCommand}
use Rattle.par_words.specs.declared.command.Command.{Command}
use Rattle.par_words.specs.declared.command.Command.TheVariants.{Run, Soak}
use Rattle.par_top.specs.Refusals.{Reads}
use Rattle.par_top.specs.Texts.{IsHeadline}
use Rattle.par_top.proofs.SerialHeadlines.{serial_headline}
use Rattle.par_top.proofs.WholeHeadlines.{calm_headline, whole_headline}
use Rattle.par_top.proofs.InnocentHeadlines.{innocent_headline}
use Rattle.par_top.proofs.Complete.{is_answered, is_faulty, is_long, is_made}
use Rattle.par_top.proofs.Endings.{ended_ok, left_alone}
use Rattle.par_words.proofs.Commands.{one_command}
use Rattle.par_top.proofs.top.run.Goals as goal

pub returns-in-Ok-Some-clause-complete : goal.returns-in-Ok-Some-clause-complete
returns-in-Ok-Some-clause-complete g c command bytes input says reads told short means read written =
    is_answered c.in-Ok-Some.command c.run_command.result _ _ _ _ _ _ _ _ _ bytes input exactly_one told short means read written c.run_command.ensures.ends

pub returns-in-Ok-Some-clause-faulty : goal.returns-in-Ok-Some-clause-faulty
returns-in-Ok-Some-clause-faulty g c command bytes fault says reads told short is read =
    let same : command ≡ c.in-Ok-Some.command = one_command _ command c.in-Ok-Some.command says (rw c.in-Ok-Some.field-0-is at c.in-Ok-Some.ensures.says) in
    is_faulty c.in-Ok-Some.command c.run_command.result _ _ _ _ _ _ _ _ _ bytes fault (subst Reads same reads) (exactly_one bytes) told short is read c.run_command.ensures.ends

pub returns-in-Ok-Some-clause-too_long : goal.returns-in-Ok-Some-clause-too_long
returns-in-Ok-Some-clause-too_long g c command bytes says reads told long read =
    let same : command ≡ c.in-Ok-Some.command = one_command _ command c.in-Ok-Some.command says (rw c.in-Ok-Some.field-0-is at c.in-Ok-Some.ensures.says) in
    is_long c.in-Ok-Some.command c.run_command.result _ _ _ _ _ _ _ _ _ bytes (subst Reads same reads) told long read c.run_command.ensures.ends

pub returns-in-Ok-Some-clause-soak : goal.returns-in-Ok-Some-clause-soak
returns-in-Ok-Some-clause-soak g c seed txns workers says =
    let same : Soak seed txns workers ≡ c.in-Ok-Some.command = one_command _ (Soak seed txns workers) c.in-Ok-Some.command says (rw c.in-Ok-Some.field-0-is at c.in-Ok-Some.ensures.says) in
    let none : ¬ Reads c.in-Ok-Some.command = subst (λ (k : Command). ¬ Reads k) same (λ reads. reads) in
    (left_alone _ _ none c.run_command.ensures.unread, λ kept. is_made c.in-Ok-Some.command c.run_command.result _ _ _ _ _ _ _ _ _ none kept c.run_command.ensures.ends)

pub returns-in-Ok-Some-clause-innocent : goal.returns-in-Ok-Some-clause-innocent
returns-in-Ok-Some-clause-innocent g c ok workers traced says =
    let same : Run workers traced true ≡ c.in-Ok-Some.command = one_command _ (Run workers traced true) c.in-Ok-Some.command says (rw c.in-Ok-Some.field-0-is at c.in-Ok-Some.ensures.says) in
    innocent_headline workers traced _ _ _ _ (subst (λ (k : Command). IsHeadline k (g.S.Source.rest c.args.source.now) (g.S.Source.rest c.run_command.new.source) (g.K.Sink.written c.args.sink.now) (g.K.Sink.written c.run_command.new.sink)) (sym same)
    (ended_ok _ _ _ _ _ _ _ _ _ _ _ c.run_command.ensures.ends ok))

pub returns-in-Ok-Some-clause-serial : goal.returns-in-Ok-Some-clause-serial
returns-in-Ok-Some-clause-serial g c ok workers traced evident says =
    let same : Run workers traced evident ≡ c.in-Ok-Some.command = one_command _ (Run workers traced evident) c.in-Ok-Some.command says (rw c.in-Ok-Some.field-0-is at c.in-Ok-Some.ensures.says) in
    serial_headline workers traced evident _ _ _ _ (subst (λ (k : Command). IsHeadline k (g.S.Source.rest c.args.source.now) (g.S.Source.rest c.run_command.new.source) (g.K.Sink.written c.args.sink.now) (g.K.Sink.written c.run_command.new.sink)) (sym same)
    (ended_ok _ _ _ _ _ _ _ _ _ _ _ c.run_command.ensures.ends ok))

pub returns-in-Ok-Some-clause-whole : goal.returns-in-Ok-Some-clause-whole
returns-in-Ok-Some-clause-whole g c ok workers traced evident says =
    let same : Run workers traced evident ≡ c.in-Ok-Some.command = one_command _ (Run workers traced evident) c.in-Ok-Some.command says (rw c.in-Ok-Some.field-0-is at c.in-Ok-Some.ensures.says) in
    whole_headline workers traced evident _ _ _ _ (subst (λ (k : Command). IsHeadline k (g.S.Source.rest c.args.source.now) (g.S.Source.rest c.run_command.new.source) (g.K.Sink.written c.args.sink.now) (g.K.Sink.written c.run_command.new.sink)) (sym same)
    (ended_ok _ _ _ _ _ _ _ _ _ _ _ c.run_command.ensures.ends ok))

pub returns-in-Ok-Some-clause-calm : goal.returns-in-Ok-Some-clause-calm
returns-in-Ok-Some-clause-calm g c ok workers traced evident says =
    let same : Run workers traced evident ≡ c.in-Ok-Some.command = one_command _ (Run workers traced evident) c.in-Ok-Some.command says (rw c.in-Ok-Some.field-0-is at c.in-Ok-Some.ensures.says) in
    calm_headline workers traced evident _ _ _ _ (subst (λ (k : Command). IsHeadline k (g.S.Source.rest c.args.source.now) (g.S.Source.rest c.run_command.new.source) (g.K.Sink.written c.args.sink.now) (g.K.Sink.written c.run_command.new.sink)) (sym same)
    (ended_ok _ _ _ _ _ _ _ _ _ _ _ c.run_command.ensures.ends ok))

pub returns-in-Ok-None-clause-soak : goal.returns-in-Ok-None-clause-soak
returns-in-Ok-None-clause-soak g c seed txns workers says =
    let none : ¬ IsCommand (map string_bytes c.args.words.now) = rw c.in-Ok-None.field-0-is at c.in-Ok-None.ensures.says in
    absurd (none (Soak seed txns workers, says))
