-- What names stand for.
use Rattle.std.specs.Prelude.{ℕ, ◌+◌, List, [], ◌∷◌, ◌++◌, Option, Some, None, Bool, true, false, nat_eq, if◌then◌else◌}
use Rattle.std.specs.Cmp.Lexicographic.{pointwise}
use Rattle.contract_grammar.specs.declared.tree.ParamKind.{ParamKind}
use Rattle.contract_grammar.specs.declared.tree.ParamKind.TheVariants as kind
use Rattle.contract_grammar.specs.declared.tree.Param.{Param}
use Rattle.contract_grammar.specs.Tree.{Statement, define, assign, demand, choose, again, Statements, nil, then_one}
use Rattle.contract_text.specs.declared.symbols.Symbol.{Symbol}
use Rattle.contract_text.specs.declared.symbols.Symbol.TheVariants as symbol

-- a parameter by its kind and its position
abbrev pub parameter_symbol : ParamKind → ℕ → Symbol
parameter_symbol kind.Record place = symbol.Rec place
parameter_symbol kind.Number place = symbol.Num place

-- the first of these parameters with a name, where they begin at a position
abbrev pub among_params : ℕ → List Param → List ℕ → Option Symbol
among_params place [] x = None
among_params place (p ∷ ps) x = if pointwise nat_eq p.name x then Some (parameter_symbol p.kind place) else among_params (place + 1) ps x

-- the first of these locals with a name, where they begin at a position
abbrev pub among_locals : ℕ → List (List ℕ) → List ℕ → Option Symbol
among_locals place [] x = None
among_locals place (y ∷ ys) x = if pointwise nat_eq y x then Some (symbol.Local place) else among_locals (place + 1) ys x

abbrev pub or_else : Option Symbol → Option Symbol → Option Symbol
or_else None other = other
or_else (Some s) other = Some s

-- what a name stands for: a parameter, or else a visible local
abbrev pub symbol_of : List Param → List (List ℕ) → List ℕ → Option Symbol
symbol_of params locals x = or_else (among_params 0 params x) (among_locals 0 locals x)

-- the name is a parameter or a visible local
abbrev pub is_found : Option Symbol → Bool
is_found None = false
is_found (Some s) = true

-- the local that a statement makes for those after it
abbrev pub made_by : Statement → List (List ℕ)
made_by (define at x e) = x ∷ []
made_by (assign at x e) = []
made_by (demand e) = []
made_by (choose e b c) = []
made_by (again n b) = []

-- the locals that statements make in their block
abbrev pub made : Statements → List (List ℕ)
made nil = []
made (then_one ss s) = made ss ++ made_by s
