-- The faults of the second pass: names that are taken or not known, and expressions of the wrong kind.
use Rattle.std.specs.Prelude.{◌≡◌, ℕ, List, [], ◌∷◌, ◌++◌, Option, Some, None, Bool, true, false, ◌&&◌, ◌||◌, ◌==◌, nat_lt, fold, Contains, if◌then◌else◌}
use Rattle.std.specs.List.{All}
use Rattle.contract_grammar.specs.declared.token.Operator.{Operator}
use Rattle.contract_grammar.specs.declared.token.Operator.TheVariants.{Or, And, Plus, Minus, Times, Divide, Remainder}
use Rattle.contract_grammar.specs.declared.tree.Param.{Param}
use Rattle.contract_grammar.specs.Tree.{Tree, number, name, negation, binary, Statement, define, assign, demand, choose, again, Statements, nil, then_one, Op}
use Rattle.oxii_defs.specs.NameLists.{is_named}
use Rattle.contract_text.specs.declared.flaws.ValueKind.{ValueKind}
use Rattle.contract_text.specs.declared.flaws.ValueKind.TheVariants as value
use Rattle.contract_text.specs.declared.flaws.FlawKind.{FlawKind}
use Rattle.contract_text.specs.declared.flaws.FlawKind.TheVariants.{Double, UnknownName, Kind}
use Rattle.contract_text.specs.declared.flaws.Flaw.{Flaw}
use Rattle.contract_text.specs.declared.symbols.Symbol.{Symbol}
use Rattle.contract_text.specs.declared.symbols.Symbol.TheVariants as symbol
use Rattle.contract_text.specs.Symbols.{symbol_of, is_found, made}

-- a flaw at a byte
abbrev pub flaw : ℕ → FlawKind → Flaw
flaw at kind = record { at = at; kind = kind }

-- the order at one byte
abbrev pub rank : FlawKind → ℕ
rank Double = 0
rank UnknownName = 1
rank Kind = 2

-- one flaw is before another: at a lesser byte, or at its byte and in order
abbrev pub is_before : Flaw → Flaw → Bool
is_before f g = nat_lt f.at g.at || ((f.at == g.at) && nat_lt (rank f.kind) (rank g.kind))

-- the earlier of a flaw and the first so far
abbrev pub earlier : Option Flaw → Flaw → Option Flaw
earlier None f = Some f
earlier (Some g) f = if is_before f g then Some f else Some g

-- the first of these flaws and the first so far
abbrev pub noted : Option Flaw → List Flaw → Option Flaw
noted first fs = fold earlier first fs

-- one of these flaws, before which none of them is
abbrev pub IsFirst : Flaw → List Flaw → Type 0
IsFirst f fs = Contains fs f × All (λ g. is_before g f ≡ false) fs

-- what an operator gives
abbrev pub result_kind : Operator → ValueKind
result_kind Plus = value.Number
result_kind Minus = value.Number
result_kind Times = value.Number
result_kind Divide = value.Number
result_kind Remainder = value.Number
result_kind _ = value.Truth

-- what the operands of an operator are
abbrev pub operand_kind : Operator → ValueKind
operand_kind Or = value.Truth
operand_kind And = value.Truth
operand_kind _ = value.Number

-- an expression of one kind where one of the other is wanted
abbrev pub kind_flaws : ValueKind → ValueKind → ℕ → List Flaw
kind_flaws value.Number value.Number at = []
kind_flaws value.Number value.Truth at = flaw at Kind ∷ []
kind_flaws value.Truth value.Number at = flaw at Kind ∷ []
kind_flaws value.Truth value.Truth at = []

-- a name in an expression: an unknown one fits every kind, and is at its own byte, also in parentheses
abbrev pub name_flaws : Option Symbol → ValueKind → (at own : ℕ) → List Flaw
name_flaws None wanted at own = flaw own UnknownName ∷ []
name_flaws (Some s) wanted at own = kind_flaws value.Number wanted at

-- the flaws of an expression of which a kind is expected
abbrev pub expr_flaws : List Param → List (List ℕ) → ValueKind → Tree → List Flaw
expr_flaws params locals wanted (number at n) = kind_flaws value.Number wanted at
expr_flaws params locals wanted (name at own x) = name_flaws (symbol_of params locals x) wanted at own
expr_flaws params locals wanted (negation at e) = kind_flaws value.Truth wanted at ++ expr_flaws params locals value.Truth e
expr_flaws params locals wanted (binary at op a b) = kind_flaws (result_kind op) wanted at
    ++ (expr_flaws params locals (operand_kind op) a ++ expr_flaws params locals (operand_kind op) b)

-- a name left of `=`: number parameters don't change
abbrev pub target_flaws : Option Symbol → ℕ → List Flaw
target_flaws None at = flaw at UnknownName ∷ []
target_flaws (Some (symbol.Num i)) at = flaw at Kind ∷ []
target_flaws (Some (symbol.Rec i)) at = []
target_flaws (Some (symbol.Local i)) at = []

-- a name that is taken
abbrev pub double_flaws : Bool → ℕ → List Flaw
double_flaws true at = flaw at Double ∷ []
double_flaws false at = []

abbrev mutual
  -- the flaws of a statement
  pub stmt_flaws : List Param → List (List ℕ) → Statement → List Flaw
  stmt_flaws params locals (define at x e) = double_flaws (is_found (symbol_of params locals x)) at ++ expr_flaws params locals value.Number e
  stmt_flaws params locals (assign at x e) = target_flaws (symbol_of params locals x) at ++ expr_flaws params locals value.Number e
  stmt_flaws params locals (demand e) = expr_flaws params locals value.Truth e
  stmt_flaws params locals (choose e b c) = expr_flaws params locals value.Truth e ++ (all_flaws params locals b ++ all_flaws params locals c)
  stmt_flaws params locals (again n b) = all_flaws params locals b

  -- the flaws of the statements of a block: each sees the locals made before it
  pub all_flaws : List Param → List (List ℕ) → Statements → List Flaw
  all_flaws params locals nil = []
  all_flaws params locals (then_one ss s) = all_flaws params locals ss ++ stmt_flaws params (locals ++ made ss) s

-- parameters that an earlier one has, after those of these names
abbrev pub param_flaws : List (List ℕ) → List Param → List Flaw
param_flaws seen [] = []
param_flaws seen (p ∷ ps) = double_flaws (is_named seen p.name) p.at ++ param_flaws (seen ++ p.name ∷ []) ps

-- the flaws of an operation but for its name
abbrev pub op_flaws : Op → List Flaw
op_flaws o = param_flaws [] o.head.params ++ all_flaws o.head.params [] o.body

-- the flaws of operations, after those of these names
abbrev pub flaws_behind : List (List ℕ) → List Op → List Flaw
flaws_behind seen [] = []
flaws_behind seen (o ∷ os) = double_flaws (is_named seen o.head.name) o.head.at ++ (op_flaws o ++ flaws_behind (seen ++ o.head.name ∷ []) os)

-- the flaws of a contract's operations
abbrev pub flaws : List Op → List Flaw
flaws os = flaws_behind [] os

-- the first flaw of a contract's operations
abbrev pub first_flaw : List Op → Option Flaw
first_flaw os = noted None (flaws os)
