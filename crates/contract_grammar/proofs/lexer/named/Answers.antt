-- What the check of `named` leaves to show.
use Rattle.contract_grammar.proofs.Lexing.{take_min}
use Rattle.contract_grammar.proofs.lexer.named.Goals as goal

pub returns : goal.returns
returns c = let same = take_min c.args.bytes.now in cc (c.in-Some.ensures.1, c.min.ensures)
