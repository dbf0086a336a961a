-- What the check of `say_block` leaves to show.
use Rattle.std.specs.Prelude.{◌≡◌, ◌∷◌, [], length}
use Rattle.std.proofs.Common.{sym, ◌∙◌, ap, subst, arith}
use Rattle.txn_types.specs.declared.event.Event.TheVariants as event
use Rattle.node_laws.specs.OneWorld.{txns_carried_by}
use Rattle.txn_core.specs.MeantTable.{table_of}
use Rattle.peer_turns.specs.Peers.{IsLawfulMessage}
use Rattle.node_defs.specs.Sayings.{said_block, said_newblock, txns_named}
use Rattle.world_laws.specs.Worlds.{Follows, IsWellKept}
use Rattle.world_laws.proofs.Moving.{well_said}
use Rattle.world_laws.proofs.Saying.{few_named, follows_block}
use Rattle.schedule_run.specs.Scenes.{world_of}
use Rattle.schedule_run.proofs.moving.say_block.Goals as goal

pub returns-clause-kept : goal.returns-clause-kept
returns-clause-kept c =
    let a = c.args in
    let b = a.basis.now in
    let made : c.in_ok-message.message ≡ said_newblock b.table.now.kind (said_block b.hashes b.pieces a.number a.prev a.items.now) a.preds =
    c.in_ok-message.ensures ∙ ap (λ x. said_newblock b.table.now.kind x a.preds) c.in_ok-block.ensures in
    let carried : txns_carried_by c.in_ok-message.message ≡ length (txns_named b.pieces a.items.now) = ap txns_carried_by made in
    subst IsWellKept (sym (c.in_ok-said.ensures b))
    (well_said (world_of b a.scene.now) a.from c.in_ok-message.message c.len.result (subst (IsLawfulMessage (table_of b.table.now)) (sym made) c.requires.body)
    (omega (arith, carried, few_named b.pieces a.items.now, c.len.ensures)) c.requires.falses (omega (arith, c.requires.items, c.len.ensures)) c.requires.kept)

pub returns-clause-follows : goal.returns-clause-follows
returns-clause-follows c =
    let a = c.args in
    let b = a.basis.now in
    let made : c.in_ok-message.message ≡ said_newblock b.table.now.kind (said_block b.hashes b.pieces a.number a.prev a.items.now) a.preds =
    c.in_ok-message.ensures ∙ ap (λ x. said_newblock b.table.now.kind x a.preds) c.in_ok-block.ensures in
    λ workers. subst (λ r. Follows workers (world_of b a.scene.now) (event.SayBlock a.from a.number a.prev a.items.now a.preds ∷ []) r) (sym (c.in_ok-said.ensures b))
    (follows_block (world_of b a.scene.now) workers a.from a.number a.prev a.items.now a.preds c.in_ok-message.message c.len.result made (sym c.len.ensures))
