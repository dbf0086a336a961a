-- What the check of `name_at` leaves to show.
use Rattle.contract_grammar.specs.Lexer.{is_name_byte}
use Rattle.contract_grammar.proofs.Lexing.{take_run, all_names}
use Rattle.contract_grammar.proofs.lexer.name_at.Goals as goal

pub returns-clause-value : goal.returns-clause-value
returns-clause-value c = rw c.name_len.ensures.value (take_run is_name_byte c.args.bytes.now)

pub returns-clause-all : goal.returns-clause-all
returns-clause-all c = rw (c.name_len.ensures.value, take_run is_name_byte c.args.bytes.now) (all_names c.args.bytes.now)
