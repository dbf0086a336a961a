-- The tokens of a list of statements, taken apart at the first.
use Rattle.std.proofs.Common.{◌≡◌, ◌<◌, ℕ, List, [], ◌∷◌, ◌++◌, length, drop, slice_index_or, refl, sym, ap, ◌∙◌, arith}
use Rattle.contract_grammar.specs.declared.token.Mark.TheVariants.{WordElse}
use Rattle.contract_grammar.specs.declared.token.Token.TheVariants.{Fixed}
use Rattle.oxii_defs.specs.Syntax.{Formal}
use Rattle.txn_core.specs.declared.syntax.Stmt.{Stmt}
use Rattle.txn_core.specs.Meant.{stmt_of, stmts_of}
use Rattle.contract_printer.specs.declared.spaced_text.SpacedText.{SpacedText}
use Rattle.contract_printer.specs.Plain.{visible_after, plain_stmt, plain_all}
use Rattle.contract_printer.specs.Printed.{braced, printed_stmt, printed_all, printed_else}
use Rattle.contract_printer.specs.SpacedTexts.{put_all}
use Rattle.contract_printer.proofs.Forms.{printed_ahead, else_ahead}

module _ (params : List Formal) (locals : List (List ℕ)) where
  pub none_written : (s : SpacedText) (xs : List Stmt) → length xs < 1 → s ≡ put_all s (printed_all (plain_all params locals (stmts_of xs)))
  unfolding plain_stmt
  none_written s [] lt = refl
  none_written s (x ∷ xs) lt = absurd (omega (arith, lt))

  pub none_else : (s : SpacedText) (xs : List Stmt) → length xs < 1 → s ≡ put_all s (printed_else (plain_all params locals (stmts_of xs)))
  unfolding plain_stmt
  none_else s [] lt = refl
  none_else s (x ∷ xs) lt = absurd (omega (arith, lt))

  pub some_else : (xs : List Stmt) → 0 < length xs → printed_else (plain_all params locals (stmts_of xs)) ≡ Fixed WordElse ∷ braced (printed_all (plain_all params locals (stmts_of xs)))
  unfolding plain_stmt
  some_else [] lt = absurd (omega (arith, lt))
  some_else (x ∷ xs) lt = else_ahead (plain_stmt params locals (stmt_of x)) (plain_all params (visible_after locals (stmt_of x)) (stmts_of xs))

  pub first_written : (xs : List Stmt) (x : Stmt) → 0 < length xs → x ≡ slice_index_or xs 0 x →
      printed_all (plain_all params locals (stmts_of xs)) ≡ printed_stmt (plain_stmt params locals (stmt_of x)) ++ printed_all (plain_all params (visible_after locals (stmt_of x)) (stmts_of (drop 1 xs)))
  unfolding plain_stmt
  first_written [] x lt is = absurd (omega (arith, lt))
  first_written (s ∷ rest) x lt is =
      printed_ahead (plain_stmt params locals (stmt_of s)) (plain_all params (visible_after locals (stmt_of s)) (stmts_of rest))
      ∙ ap (λ y. printed_stmt (plain_stmt params locals (stmt_of y)) ++ printed_all (plain_all params (visible_after locals (stmt_of y)) (stmts_of rest))) (sym is)
