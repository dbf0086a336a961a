-- What each turn of the loops of `tokens` keeps.
use Rattle.std.proofs.Common.{◌≡◌, ◌++◌, ◌≤◌, ◌+◌, drop, length}
use Rattle.contract_grammar.specs.Lexer.{lexed, tokens}
use Rattle.contract_grammar.proofs.lexer.tokens.Given as goal

-- the tokens so far, and those of what is left
abbrev pub invariant-loop-i : goal.invariant-loop-i
invariant-loop-i l = record {
  room : l.i + l.skip ≤ length l.text;
  so_far : l.all ++ lexed l.i l.skip (drop l.i l.text) ≡ tokens l.text;
}
