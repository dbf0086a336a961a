-- What the check of `cut` leaves to show.
use Rattle.std.proofs.Common.{◌≡◌, false, ◌+◌, List, [], ◌∷◌, ◌++◌, drop, sym, ap, ◌∙◌, subst, arith}
use Rattle.std.specs.List.{All}
use Rattle.std.proofs.lemmas.List.{drop_more, drop_all}
use Rattle.txn_types.specs.declared.stream.Item.{Item}
use Rattle.txn_types.specs.declared.block.Body.{Body}
use Rattle.oxii_defs.specs.Lawful.{IsLawfulBody}
use Rattle.node_defs.specs.Admission.{pieces_of}
use Rattle.node_defs.specs.Cutting.{AreAgreed, admitted, mark_comes, rejected_from}
use Rattle.txn_core.specs.MeantTable.{table_of}
use Rattle.block_cutter.specs.Standing.{block_of, StandsBefore}
use Rattle.block_cutter.proofs.StandLemmas.{started, moved, finished, finished_lawful}
use Rattle.block_cutter.specs.declared.cutter.Cut.{Cut}
use Rattle.std.proofs.lemmas.Result.{IfOk-weaker}
use Rattle.block_cutter.proofs.StreamLemmas.{rejected_more, pieces_more}
use Rattle.block_cutter.proofs.cutting.cut.Goals as goal

pub loop-i-init : goal.loop-i-init
loop-i-init c =
    let T = table_of c.args.table.now in
    let L = c.args.limits.now in
    let items = c.args.items.now in
    let b = c.new-cutter.result.blocks in
    let made = c.new-cutter.ensures in
    record {
      room = grind (arith, c.requires.limits.txns.0, made.txns);
      stands = moved T L c.requires.limits (admitted T items) (admitted T items) (mark_comes T items) [] b.bodies [] b.current.txns 0 b.current.bytes made.bodies made.txns made.bytes
          (started T L c.requires.limits (admitted T items) (mark_comes T items));
      rejected = ap (λ l. l ++ rejected_from T 0 items) made.rejected;
      carried = ap (λ l. l ++ pieces_of T items) made.admitted;
    }

pub loop-i-preserved : goal.loop-i-preserved
loop-i-preserved c =
    let T = table_of c.args.table.now in
    let L = c.args.limits.now in
    let items = c.args.items.now in
    let i = c.loop-i.i in
    let x = c.index-items-i.result in
    let old = c.loop-i.cutter in
    let now = c.take.new.self in
    let inv = c.loop-i.invariant in
    let rest : drop i items ≡ x ∷ drop (i + 1) items = drop_more items i x c.loop-i-test.true ∙ ap (λ y. y ∷ drop (i + 1) items) (sym c.index-items-i.is) in
    let before = subst (λ (l : List Item). StandsBefore T L (admitted T items) l old.blocks.bodies old.blocks.current.txns old.blocks.current.bytes) rest inv.stands in
    record {
      room = c.in_ok-take.ensures.room;
      stands = c.in_ok-take.ensures.stands (admitted T items) (drop (i + 1) items) before;
      rejected = rejected_more T i x (drop i items) (drop (i + 1) items) old.rejected now.rejected (rejected_from T 0 items) rest c.in_ok-take.ensures.rejected inv.rejected;
      carried = pieces_more T x (drop i items) (drop (i + 1) items) old.admitted now.admitted (pieces_of T items) rest c.in_ok-take.ensures.admitted inv.carried;
    }

-- the state before nothing
at_end : (c : goal.After-finish) → StandsBefore (table_of c.args.table.now) c.args.limits.now (admitted (table_of c.args.table.now) c.args.items.now) [] c.loop-i.cutter.blocks.bodies c.loop-i.cutter.blocks.current.txns c.loop-i.cutter.blocks.current.bytes
at_end c =
    let T = table_of c.args.table.now in
    let items = c.args.items.now in
    let b = c.loop-i.cutter.blocks in
    subst (λ (l : List Item). StandsBefore T c.args.limits.now (admitted T items) l b.bodies b.current.txns b.current.bytes) (drop_all c.loop-i.i items c.loop-i-test.false) c.loop-i.invariant.stands

pub returns-clause-agreed : goal.returns-clause-agreed
returns-clause-agreed c =
    let T = table_of c.args.table.now in
    let L = c.args.limits.now in
    let items = c.args.items.now in
    let b = c.loop-i.cutter.blocks in
    let h = finished T L c.requires.limits (admitted T items) false b.bodies b.current.txns b.current.bytes (at_end c) in
    IfOk-weaker c.finish.result (λ (cut : Cut). cut.bodies ≡ b.bodies ++ block_of b.current.txns) (λ (cut : Cut). AreAgreed T L items cut.bodies)
    (λ cut e. (h.0, h.1, e ∙ h.2)) c.finish.ensures.bodies

pub returns-clause-lawful : goal.returns-clause-lawful
returns-clause-lawful c =
    let T = table_of c.args.table.now in
    let L = c.args.limits.now in
    let items = c.args.items.now in
    let b = c.loop-i.cutter.blocks in
    let h = finished_lawful T L c.requires.limits (admitted T items) false b.bodies b.current.txns b.current.bytes (at_end c) in
    IfOk-weaker c.finish.result (λ (cut : Cut). cut.bodies ≡ b.bodies ++ block_of b.current.txns) (λ (cut : Cut). All (λ (x : Body). IsLawfulBody T x.txns x.config) cut.bodies)
    (λ cut e. subst (All (λ (x : Body). IsLawfulBody T x.txns x.config)) (sym e) h) c.finish.ensures.bodies
