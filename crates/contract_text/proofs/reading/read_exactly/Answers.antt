-- What the check of `read_exactly` leaves to show.
use Rattle.std.proofs.Common.{sym, ap, ◌∙◌}
use Rattle.contract_text.specs.TextFaults.{syntax_fault, limit_fault}
use Rattle.contract_text.proofs.Judged.{room_read, verdict_read}
use Rattle.contract_text.proofs.reading.read_exactly.Goals as goal

pub judge-requires : goal.judge-requires
judge-requires c = rw c.as_slice.ensures (room_read c.args.text.now c.in-Ok.raw c.in-Ok.ensures.exact)

pub returns-in-Ok : goal.returns-in-Ok
returns-in-Ok c = rw (verdict_read c.args.text.now _ c.in-Ok.ensures.exact, sym c.as_slice.ensures) c.judge.ensures

pub returns-in-Err-Syntax : goal.returns-in-Err-Syntax
returns-in-Err-Syntax c = verdict_read c.args.text.now _ (rw c.in-Err-Syntax.field-0-is at c.in-Err-Syntax.ensures.exact) ∙ ap syntax_fault (sym c.in-Err-Syntax.at-is)

pub returns-in-Err-Limit : goal.returns-in-Err-Limit
returns-in-Err-Limit c = verdict_read c.args.text.now _ (rw c.in-Err-Limit.field-0-is at c.in-Err-Limit.ensures.exact) ∙ ap limit_fault (sym c.in-Err-Limit.at-is)
