-- The spans of several runs of one block, joined.
use Rattle.std.specs.Prelude.{ℕ, suc, ◌+◌, ◌*◌, List, [], ◌∷◌, ◌++◌, length, map, nat_lt, if◌then◌else◌}
use Rattle.board_defs.specs.Trace.{Span}

-- the spans of worker 0, that runs these positions one after another, where i spans came before
abbrev pub plain_spans : ℕ → List ℕ → List Span
plain_spans i [] = []
plain_spans i (t ∷ rest) = record { position = t; worker = 0; begin = 2 * i; finish = 2 * i + 1 } ∷ plain_spans (suc i) rest

-- a span with its stamps raised
abbrev pub raised_span : ℕ → Span → Span
raised_span n s = record { position = s.position; worker = s.worker; begin = n + s.begin; finish = n + s.finish }

-- the spans of rounds, one round after another, where `before` spans came before
abbrev pub in_turn : ℕ → List (List Span) → List Span
in_turn before [] = []
in_turn before (round ∷ rest) = map (raised_span (2 * before)) round ++ in_turn (before + length round) rest

-- a span where it belongs by position
abbrev pub put_span : Span → List Span → List Span
put_span s [] = s ∷ []
put_span s (x ∷ rest) = if nat_lt s.position x.position then s ∷ x ∷ rest else x ∷ put_span s rest

-- the spans in order of position
abbrev pub by_position : List Span → List Span
by_position [] = []
by_position (s ∷ rest) = put_span s (by_position rest)

-- the spans of all rounds as those of one burst
abbrev pub joined_rounds : List (List Span) → List Span
joined_rounds rounds = by_position (in_turn 0 rounds)
