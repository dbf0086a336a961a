-- The reader's state, without where it lies in memory: what was opened last comes first.
use Rattle.std.specs.Prelude.{◌≡◌, List, map, reverse, Option, Some, None, Result, Ok, Err}
use Rattle.contract_reader.specs.declared.state.Pending.{Pending}
use Rattle.contract_reader.specs.declared.state.Pending.TheVariants as pending
use Rattle.contract_reader.specs.declared.state.Partial.{Partial}
use Rattle.contract_reader.specs.declared.state.Use.{Use}
use Rattle.contract_reader.specs.declared.state.Use.TheVariants as use_
use Rattle.contract_reader.specs.declared.state.Purpose.{Purpose}
use Rattle.contract_reader.specs.declared.state.Purpose.TheVariants as purpose
use Rattle.contract_reader.specs.declared.state.Unclosed.{Unclosed}
use Rattle.contract_reader.specs.declared.state.Mode.{Mode}
use Rattle.contract_reader.specs.declared.state.Mode.TheVariants as mode
use Rattle.contract_reader.specs.declared.state.Nest.{Nest}
use Rattle.contract_reader.specs.declared.state.Refusal.{Refusal}
use Rattle.contract_reader.specs.declared.state.Refusal.TheVariants as refusal
use Rattle.contract_grammar.specs.declared.tree.Expr.{Expr}
use Rattle.contract_grammar.specs.Held.{tree, statements, operations}
use Rattle.contract_grammar.specs.Expressions as expressions
use Rattle.contract_grammar.specs.Modes as modes

-- what is open in an expression
abbrev pub pending_of : Pending → expressions.Pending
pending_of (pending.Group at) = expressions.group at
pending_of (pending.Left op e) = expressions.part (expressions.left op (tree e))
pending_of (pending.Not at) = expressions.part (expressions.negate at)

-- all of it
abbrev pub stack : List Pending → List expressions.Pending
stack fs = map pending_of (reverse fs)

-- with an operand or without
abbrev pub partial_with : Option Expr → List expressions.Pending → expressions.Partial
partial_with None st = expressions.want st
partial_with (Some e) st = expressions.have (tree e) st

-- where the reading of an expression is
abbrev pub partial_of : Partial → expressions.Partial
partial_of s = partial_with s.operand (stack s.pending.items)

-- what an expression is for
abbrev pub use_of : Use → modes.Use
use_of (use_.Let at x) = modes.for_let at x
use_of (use_.Assign at x) = modes.for_assign at x
use_of use_.Require = modes.for_require
use_of use_.If = modes.for_if

-- what a block is for
abbrev pub purpose_of : Purpose → modes.Purpose
purpose_of (purpose.Whole h) = modes.whole h
purpose_of (purpose.First e) = modes.first_block (tree e)
purpose_of (purpose.Second e b) = modes.second_block (tree e) (statements b)
purpose_of (purpose.Turns n) = modes.turns n

-- an open block
abbrev pub unclosed_of : Unclosed → modes.Unclosed
unclosed_of o = modes.unclosed (purpose_of o.purpose) (statements o.stmts)

-- the open blocks
abbrev pub blocks_of : List Unclosed → List modes.Unclosed
blocks_of os = map unclosed_of (reverse os)

-- what comes next
abbrev pub mode_of : Mode → modes.Mode
mode_of mode.Op = modes.at_op
mode_of mode.OpName = modes.at_op_name
mode_of (mode.Open at x) = modes.at_open at x
mode_of (mode.First h) = modes.at_first h
mode_of (mode.Param h) = modes.at_param h
mode_of (mode.Colon h at x) = modes.at_colon h at x
mode_of (mode.Kind h at x) = modes.at_kind h at x
mode_of (mode.More h) = modes.at_more h
mode_of (mode.Block w) = modes.at_block (purpose_of w)
mode_of mode.Stmt = modes.at_stmt
mode_of mode.Let = modes.at_let
mode_of (mode.Equals u) = modes.at_equals (use_of u)
mode_of (mode.Expr u s) = modes.in_expr (use_of u) (partial_of s)
mode_of mode.Count = modes.at_count
mode_of (mode.Else e b) = modes.at_else (tree e) (statements b)

-- the whole state
abbrev pub at_of : Mode → Nest → modes.At
at_of m n = modes.at (mode_of m) (blocks_of n.blocks.items) (operations n.done)

-- a step in an expression, unless memory runs out
abbrev pub Steps : Result Partial Refusal → Option expressions.Partial → Type 0
Steps (Ok s) next = next ≡ Some (partial_of s)
Steps (Err refusal.Syntax) next = next ≡ None
Steps (Err refusal.OutOfMemory) next = Unit {0}

-- a step of the whole reader, unless memory runs out
abbrev pub Goes : Result Mode Refusal → Nest → Option modes.At → Type 0
Goes (Ok m) nest next = next ≡ Some (at_of m nest)
Goes (Err refusal.Syntax) nest next = next ≡ None
Goes (Err refusal.OutOfMemory) nest next = Unit {0}
