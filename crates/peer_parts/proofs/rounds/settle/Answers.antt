-- What the check of `settle` leaves to show.
use Rattle.std.proofs.Common.{◌≡◌, length, sym, ◌∙◌, subst, arith}
use Rattle.std.proofs.lemmas.List.{take_all}
use Rattle.txn_core.specs.MeantTable.{table_of}
use Rattle.peer_parts.specs.Tasks.{frame_of, IsTraceOf}
use Rattle.peer_parts.specs.Ready.{ran_between}
use Rattle.peer_parts.proofs.FoundLemmas.{all_found}
use Rattle.peer_parts.proofs.JoinLemmas.{short_of}
use Rattle.node_laws.proofs.LawfulBlockLemmas.{block_few}
use Rattle.peer_parts.proofs.TraceLemmas.{no_trace, between_few}
use Rattle.peer_parts.proofs.rounds.settle.Goals as goal

pub loop-spans-init : goal.loop-spans-init
loop-spans-init g c =
    let k = c.args.task.now in
    record {
      long = c.requires.long;
      fit = c.requires.fit;
      closed = c.requires.closed;
      kept = λ t o h. h;
      sound = λ z. z;
      trace = let workers = c.args.workers in let w = c.requires.workers.0 in subst (IsTraceOf k workers c.args.known c.args.known) (sym c.new-spans.ensures) (no_trace k.table.now.kind k.block.now.txns workers k.own.now c.args.known (length k.block.now.txns) (omega (arith, w)));
    }

pub loop-spans-preserved : goal.loop-spans-preserved
loop-spans-preserved g c =
    let i = c.loop-spans.invariant in
    let r = c.in_ok-round.ensures in
    record {
      long = r.long ∙ i.long;
      fit = r.fit;
      closed = r.closed;
      kept = λ t o h. r.kept t o (i.kept t o h);
      sound = λ z. r.sound (i.sound z);
      trace = r.trace c.args.known i.kept i.trace;
    }

pub round-requires-clause-short : goal.round-requires-clause-short
round-requires-clause-short g c = λ κs lives.
    let k = c.args.task.now in
    let n = length k.block.now.txns in
    short_of k.table.now.kind k.block.now.txns c.args.workers (ran_between k.own.now c.args.known c.loop-spans.known n) c.loop-spans.spans c.loop-spans.invariant.trace
    (omega (arith, between_few k.own.now c.args.known c.loop-spans.known n, block_few (table_of k.table.now) k.block.now c.requires.task.block))

pub returns-clause-found : goal.returns-clause-found
returns-clause-found g c = λ z.
    let k = c.args.task.now in
    let xs = c.round.new.known in
    let long : length xs ≡ length k.block.now.txns = c.in_ok-round.ensures.long ∙ c.loop-spans.invariant.long in
    sym (take_all (length k.block.now.txns) xs (omega (arith, long)))
    ∙ all_found (frame_of k) k.agreed.now xs long (c.in_ok-round.ensures.sound (c.loop-spans.invariant.sound z)) (c.in_ok-round.ensures.all c.if-branch.false (c.loop-spans.invariant.sound z)) (length k.block.now.txns) (omega arith)

pub returns-clause-trace : goal.returns-clause-trace
returns-clause-trace g c = c.in_ok-round.ensures.trace c.args.known c.loop-spans.invariant.kept c.loop-spans.invariant.trace
