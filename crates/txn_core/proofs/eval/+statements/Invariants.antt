-- What each turn of the loops of `+statements` keeps.
use Rattle.std.proofs.Common.{◌≡◌, ◌≤◌, ◌-◌, ◌+◌, ◌*◌, length, drop}
use Rattle.oxii_defs.specs.Running.{after_all, turns, scoped}
use Rattle.txn_core.specs.Meant.{stmt_of, stmts_of}
use Rattle.txn_core.specs.MeantCalls.{given}
use Rattle.txn_core.specs.Slots.{AllHaveSlots, weight, weights}
use Rattle.txn_core.proofs.eval.+statements.Given as goal

-- the turns that are left do what all of them did from the start
abbrev pub invariant-repeat-loop-turn : goal.invariant-repeat-loop-turn
invariant-repeat-loop-turn l =
    (turns (l.count - l._turn) (scoped (after_all (given l.call.args.now l.call.reads.now l.call.inputs.now) (stmts_of l.body))) l.scratch
    ≡ turns l.count (scoped (after_all (given l.call.args.now l.call.reads.now l.call.inputs.now) (stmts_of l.body))) l.initial.scratch)
    × (length l.scratch.locals ≡ length l.initial.scratch.locals)

-- the statements that are left do what all of them did from the start
abbrev pub invariant-run-loop-stmt : goal.invariant-run-loop-stmt
invariant-run-loop-stmt l =
    (after_all (given l.call.args.now l.call.reads.now l.call.inputs.now) (stmts_of (drop l.stmt-index l.body)) l.scratch
    ≡ after_all (given l.call.args.now l.call.reads.now l.call.inputs.now) (stmts_of l.body) l.initial.scratch)
    × AllHaveSlots (length l.scratch.locals) (stmts_of (drop l.stmt-index l.body))
    × (length l.initial.scratch.locals ≤ length l.scratch.locals)

-- the statements below, and then the order of the calls
abbrev pub decreases-run_statement : goal.decreases-run_statement
decreases-run_statement l = 4 * weight (stmt_of l.stmt.now)

abbrev pub decreases-repeat : goal.decreases-repeat
decreases-repeat l = 4 * weights (stmts_of l.body.now) + 3

abbrev pub decreases-block : goal.decreases-block
decreases-block l = 4 * weights (stmts_of l.body.now) + 2

abbrev pub decreases-run : goal.decreases-run
decreases-run l = 4 * weights (stmts_of l.body.now) + 1
