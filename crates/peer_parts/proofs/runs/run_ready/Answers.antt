-- What the check of `run_ready` leaves to show.
use Rattle.std.proofs.Common.{◌≡◌, List, Bool, length, map, sym, ◌∙◌, ap, subst, arith}
use Rattle.board_defs.specs.Closure.{closure, ran_positions, IsClosed, IsKnownClosed, IsLawfulPlan}
use Rattle.board_defs.specs.Trace.{IsLawfulTrace}
use Rattle.board_work.specs.Spans.{span_of}
use Rattle.txn_core.specs.MeantTable.{table_of}
use Rattle.trace_laws.proofs.RunOutcomes.{length_run_outcomes}
use Rattle.peer_parts.specs.Found.{IsSound}
use Rattle.peer_parts.specs.Ready.{round_plan, ran_between}
use Rattle.peer_parts.specs.Tasks.{frame_of, with_own}
use Rattle.peer_parts.proofs.JoinLemmas.{short_of}
use Rattle.node_laws.proofs.LawfulBlockLemmas.{block_few}
use Rattle.peer_parts.proofs.TaskLemmas.{lawful_task}
use Rattle.peer_parts.proofs.RoundLemmas.{merged_is, sound_round, closed_round, ready_fewer}
use Rattle.peer_parts.proofs.TraceLemmas.{ran_few, more_trace}
use Rattle.peer_parts.proofs.runs.run_ready.Goals as goal

pub run_plan-requires-clause-runnable : goal.run_plan-requires-clause-runnable
run_plan-requires-clause-runnable g c = λ κs lives.
    let k = c.args.task.now in
    let t = c.requires.task in
    record {
      plan = subst (λ (own : List Bool). IsLawfulPlan (with_own k c.args.known.now own)) (sym c.in_ok-own.ensures) (lawful_task k c.args.known.now t c.as_slice.ensures.values c.requires.long c.requires.closed c.requires.fit);
      block = t.block;
      graph = t.graph;
      kind = t.kind;
      values = t.values;
    }

pub merge-requires-clause-long : goal.merge-requires-clause-long
merge-requires-clause-long g c =
    let k = c.args.task.now in
    let plan = round_plan (frame_of k) c.args.known.now in
    let closed = subst (λ (own : List Bool). IsClosed (with_own k c.args.known.now own) c.args.workers c.in_ok-outcomes.field-0.outcomes (map span_of c.in_ok-outcomes.field-0.trace)) c.in_ok-own.ensures c.in_ok-outcomes.ensures.closed in
    ap length closed.outcomes_are ∙ (length_run_outcomes plan (length k.block.now.txns) ∙ sym c.requires.long)

pub merge-requires-clause-few : goal.merge-requires-clause-few
merge-requires-clause-few g c =
    let k = c.args.task.now in
    let plan = round_plan (frame_of k) c.args.known.now in
    let closed = subst (λ (own : List Bool). IsClosed (with_own k c.args.known.now own) c.args.workers c.in_ok-outcomes.field-0.outcomes (map span_of c.in_ok-outcomes.field-0.trace)) c.in_ok-own.ensures c.in_ok-outcomes.ensures.closed in
    let long : length c.in_ok-outcomes.field-0.outcomes ≡ length k.block.now.txns = ap length closed.outcomes_are ∙ length_run_outcomes plan (length k.block.now.txns) in
    omega (arith, long, block_few (table_of k.table.now) k.block.now c.requires.task.block)

pub join-requires-clause-round : goal.join-requires-clause-round
join-requires-clause-round g c =
    let k = c.args.task.now in
    let plan = round_plan (frame_of k) c.args.known.now in
    let closed = subst (λ (own : List Bool). IsClosed (with_own k c.args.known.now own) c.args.workers c.in_ok-outcomes.field-0.outcomes (map span_of c.in_ok-outcomes.field-0.trace)) c.in_ok-own.ensures c.in_ok-outcomes.ensures.closed in
    short_of k.table.now.kind k.block.now.txns c.args.workers (ran_positions plan) c.in_ok-outcomes.field-0.trace closed.trace (omega (arith, ran_few plan (length k.block.now.txns), block_few (table_of k.table.now) k.block.now c.requires.task.block))

pub returns-clause-closed : goal.returns-clause-closed
returns-clause-closed g c =
    let k = c.args.task.now in
    let xs = c.args.known.now in
    let closed = subst (λ (own : List Bool). IsClosed (with_own k xs own) c.args.workers c.in_ok-outcomes.field-0.outcomes (map span_of c.in_ok-outcomes.field-0.trace)) c.in_ok-own.ensures c.in_ok-outcomes.ensures.closed in
    let merged = merged_is (frame_of k) xs c.in_ok-outcomes.field-0.outcomes c.merge.new.known c.requires.long c.merge.ensures.long c.requires.closed closed.outcomes_are c.merge.ensures.merged in
    subst (IsKnownClosed k.table.now.kind k.block.now.txns) (sym merged) (closed_round (frame_of k) xs c.requires.long c.requires.closed)

pub returns-clause-sound : goal.returns-clause-sound
returns-clause-sound g c = λ z.
    let k = c.args.task.now in
    let xs = c.args.known.now in
    let closed = subst (λ (own : List Bool). IsClosed (with_own k xs own) c.args.workers c.in_ok-outcomes.field-0.outcomes (map span_of c.in_ok-outcomes.field-0.trace)) c.in_ok-own.ensures c.in_ok-outcomes.ensures.closed in
    let merged = merged_is (frame_of k) xs c.in_ok-outcomes.field-0.outcomes c.merge.new.known c.requires.long c.merge.ensures.long c.requires.closed closed.outcomes_are c.merge.ensures.merged in
    subst (IsSound (frame_of k) k.agreed.now) (sym merged) (sound_round (frame_of k) k.agreed.now xs z)

pub returns-clause-few : goal.returns-clause-few
returns-clause-few g c = λ _.
    let k = c.args.task.now in
    let xs = c.args.known.now in
    let closed = subst (λ (own : List Bool). IsClosed (with_own k xs own) c.args.workers c.in_ok-outcomes.field-0.outcomes (map span_of c.in_ok-outcomes.field-0.trace)) c.in_ok-own.ensures c.in_ok-outcomes.ensures.closed in
    let merged = merged_is (frame_of k) xs c.in_ok-outcomes.field-0.outcomes c.merge.new.known c.requires.long c.merge.ensures.long c.requires.closed closed.outcomes_are c.merge.ensures.merged in
    ready_fewer (frame_of k) xs c.merge.new.known c.in-Some._ready c.requires.long c.requires.task.own c.requires.closed merged c.in-Some.ensures

pub returns-clause-trace : goal.returns-clause-trace
returns-clause-trace g c = λ begun kept so_far.
    let workers = c.args.workers in
    let k = c.args.task.now in
    let xs = c.args.known.now in
    let n = length k.block.now.txns in
    let plan = round_plan (frame_of k) xs in
    let closed = subst (λ (own : List Bool). IsClosed (with_own k xs own) workers c.in_ok-outcomes.field-0.outcomes (map span_of c.in_ok-outcomes.field-0.trace)) c.in_ok-own.ensures c.in_ok-outcomes.ensures.closed in
    let merged = merged_is (frame_of k) xs c.in_ok-outcomes.field-0.outcomes c.merge.new.known c.requires.long c.merge.ensures.long c.requires.closed closed.outcomes_are c.merge.ensures.merged in
    let lawful = lawful_task k xs c.requires.task c.as_slice.ensures.values c.requires.long c.requires.closed c.requires.fit in
    subst (λ zs. IsLawfulTrace k.table.now.kind k.block.now.txns workers (ran_between k.own.now begun zs n) (map span_of c.join.new.spans)) (sym merged)
    (subst (λ spans. IsLawfulTrace k.table.now.kind k.block.now.txns workers (ran_between k.own.now begun (closure plan) n) spans) (sym c.in_ok-join.ensures)
    (more_trace (frame_of k) begun xs workers (map span_of c.args.spans.now) (map span_of c.in_ok-outcomes.field-0.trace) lawful kept so_far closed.trace))
