-- What the check of `happen` leaves to show.
use Rattle.std.specs.Prelude.{◌∷◌, []}
use Rattle.std.proofs.Common.{sym, ◌∙◌, ap, subst}
use Rattle.txn_types.specs.declared.event.Event.TheVariants as event
use Rattle.txn_core.specs.States.{state_of}
use Rattle.world_laws.specs.Worlds.{CanTake, Follows}
use Rattle.world_laws.proofs.Saying.{said_body_lawful}
use Rattle.schedule_run.specs.Scenes.{world_of}
use Rattle.schedule_run.proofs.moving.happen.Goals as goal

pub say_block-requires-clause-body : goal.say_block-requires-clause-body
say_block-requires-clause-body g c =
    let i = c.in-SayBlock in
    let w = world_of c.args.basis.now c.args.scene.now in
    said_body_lawful w (state_of []) i.from i.number i.prev i.items i.preds c.requires.kept.pieces_lawful
    (subst (λ e. CanTake w (e ∷ [])) i.is c.requires.event)

pub returns-in_ok-say_block-in-SayBlock-clause-follows : goal.returns-in_ok-say_block-in-SayBlock-clause-follows
returns-in_ok-say_block-in-SayBlock-clause-follows g c =
    let i = c.in-SayBlock in
    subst (λ e. Follows c.args.workers (world_of c.args.basis.now c.args.scene.now) (e ∷ []) (world_of c.args.basis.now c.say_block.new.scene))
    (ap (λ ps. event.SayBlock i.from i.number i.prev i.items ps) c.in_ok-preds-in-SayBlock.ensures ∙ sym i.is) (c.in_ok-say_block-in-SayBlock.ensures.follows c.args.workers)

pub returns-in_ok-say_commit-in-SayCommit-clause-follows : goal.returns-in_ok-say_commit-in-SayCommit-clause-follows
returns-in_ok-say_commit-in-SayCommit-clause-follows g c =
    let i = c.in-SayCommit in
    subst (λ e. Follows c.args.workers (world_of c.args.basis.now c.args.scene.now) (e ∷ []) (world_of c.args.basis.now c.say_commit.new.scene))
    (ap (λ x. event.SayCommit i.from x) c.in_ok-commit-in-SayCommit.ensures ∙ sym i.is) (c.in_ok-say_commit-in-SayCommit.ensures.follows c.args.workers)
