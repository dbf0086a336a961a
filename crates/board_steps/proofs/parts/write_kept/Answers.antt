-- What the check of `write_kept` leaves to show.
use Rattle.std.proofs.Common.{◌≡◌, ◌∙◌, ℕ, subst, Some, None}
use Rattle.board_core.specs.Script.{Gives}
use Rattle.board_steps.specs.Abouts.{told}
use Rattle.board_work.specs.Scripts.{script_of}
use Rattle.board_steps.proofs.parts.write_kept.Goals as goal

pub returns-in-Values-clause-written : goal.returns-in-Values-clause-written
returns-in-Values-clause-written c = λ r g. c.write_all.ensures.written r (subst (λ l. Gives (script_of l (told c.args.words.now.key)) c.args.t r) (c.requires.layout ∙ c.in-Values.is) g)

nothing_given : (x : ℕ) → None ≡ Some x → ⊥
nothing_given x e = absurd (cc)

pub returns-in-Versions-clause-written : goal.returns-in-Versions-clause-written
returns-in-Versions-clause-written c = λ r g. let none = subst (λ l. Gives (script_of l (told c.args.words.now.key)) c.args.t r) (c.requires.layout ∙ c.in-Versions.is) g in absurd (nothing_given none.0 none.1)
