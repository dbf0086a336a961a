-- What the check of `say_commit` leaves to show.
use Rattle.std.specs.Prelude.{◌∷◌, []}
use Rattle.std.proofs.Common.{sym, subst, arith}
use Rattle.txn_types.specs.declared.message.Message.TheVariants as message
use Rattle.txn_types.specs.declared.event.Event.TheVariants as event
use Rattle.world_laws.specs.Worlds.{Follows, IsWellKept}
use Rattle.world_laws.proofs.Moving.{well_said}
use Rattle.world_laws.proofs.Saying.{follows_commit}
use Rattle.schedule_run.specs.Scenes.{world_of}
use Rattle.schedule_run.proofs.moving.say_commit.Goals as goal

pub returns-clause-kept : goal.returns-clause-kept
returns-clause-kept c =
    let b = c.args.basis.now in
    subst IsWellKept (sym (c.in_ok-said.ensures b))
    (well_said (world_of b c.args.scene.now) c.args.from (message.Commit c.args.commit) 0 tt (omega arith) c.requires.falses (omega (arith, c.requires.items)) c.requires.kept)

pub returns-clause-follows : goal.returns-clause-follows
returns-clause-follows c =
    let b = c.args.basis.now in
    λ workers. subst (λ r. Follows workers (world_of b c.args.scene.now) (event.SayCommit c.args.from c.args.commit ∷ []) r) (sym (c.in_ok-said.ensures b))
    (follows_commit (world_of b c.args.scene.now) workers c.args.from c.args.commit)
