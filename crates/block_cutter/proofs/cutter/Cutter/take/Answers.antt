-- What the check of `Cutter::take` leaves to show.
use Rattle.std.proofs.Common.{[], ◌∷◌, ◌++◌, Some, subst}
use Rattle.txn_types.specs.declared.stream.Item.{Item}
use Rattle.oxii_defs.specs.Lawful.{IsLawfulConfig}
use Rattle.node_defs.specs.LawfulItems.{IsLawfulItem}
use Rattle.node_defs.specs.Cutting.{admitted, mark_comes}
use Rattle.txn_core.specs.MeantTable.{table_of}
use Rattle.block_cutter.specs.Standing.{block_of, StandsBefore}
use Rattle.block_cutter.proofs.StandLemmas.{closed_marked, configured, moved}
use Rattle.block_cutter.proofs.cutter.Cutter.take.Goals as goal

pub returns-in_ok-push-in-Mark-clause-stands : goal.returns-in_ok-push-in-Mark-clause-stands
returns-in_ok-push-in-Mark-clause-stands c = λ all left s.
    let T = table_of c.args.table.now in
    let L = c.args.limits.now in
    let old = c.args.self.now.blocks in
    let now = c.close.new.self in
    let before = subst (λ (x : Item). StandsBefore T L all (x ∷ left) old.bodies old.current.txns old.current.bytes) c.in-Mark.is s in
    moved T L c.requires.limits all (admitted T left) (mark_comes T left) (old.bodies ++ block_of old.current.txns) now.bodies [] now.current.txns 0 now.current.bytes
    c.in_ok-close-in-Mark.ensures.bodies c.in_ok-close-in-Mark.ensures.txns c.in_ok-close-in-Mark.ensures.bytes
    (closed_marked T L c.requires.limits all (admitted T left) old.bodies old.current.txns old.current.bytes before (mark_comes T left))

pub returns-in_ok-push-in-Config-clause-stands : goal.returns-in_ok-push-in-Config-clause-stands
returns-in_ok-push-in-Config-clause-stands c = λ all left s.
    let T = table_of c.args.table.now in
    let L = c.args.limits.now in
    let old = c.args.self.now.blocks in
    let now = c.configure.new.self in
    let config = c.in-Config.config in
    let before = subst (λ (x : Item). StandsBefore T L all (x ∷ left) old.bodies old.current.txns old.current.bytes) c.in-Config.is s in
    let lawful : IsLawfulConfig T config = subst (IsLawfulItem T) c.in-Config.is c.requires.item in
    moved T L c.requires.limits all (admitted T left) (mark_comes T left) ((old.bodies ++ block_of old.current.txns) ++ record { txns = []; config = Some config } ∷ []) now.bodies [] now.current.txns 0 now.current.bytes
    c.in_ok-configure-in-Config.ensures.bodies c.in_ok-configure-in-Config.ensures.txns c.in_ok-configure-in-Config.ensures.bytes
    (configured T L c.requires.limits all (admitted T left) config (mark_comes T left) old.bodies old.current.txns old.current.bytes before lawful)
