-- What each turn of the loops of `read_exactly` keeps.
use Rattle.std.proofs.Common.{◌≡◌, drop, length}
use Rattle.contract_grammar.specs.Lexer.{tokens}
use Rattle.contract_grammar.specs.Reading.{read_from, reading}
use Rattle.contract_reader.specs.Views.{at_of}
use Rattle.contract_reader.specs.Counted.{tally_of, AreSmall}
use Rattle.contract_reader.proofs.reader.read_exactly.Given as goal

-- the reading of what is left is that of the whole text
abbrev pub invariant-loop-placed : goal.invariant-loop-placed
invariant-loop-placed l = record {
  small : AreSmall (tally_of l.counts) l.placed-index;
  left : read_from (at_of l.mode l.nest) (tally_of l.counts) (length l.text) (drop l.placed-index (tokens l.text)) ≡ reading l.text;
}
