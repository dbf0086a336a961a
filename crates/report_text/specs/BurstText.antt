-- The printed lines of a burst.
use Rattle.std.specs.Prelude.{ℕ, ◌+◌, ◌++◌, List, length, codes, decimal}
use Rattle.std.specs.List.{flat_map}
use Rattle.oxii_defs.specs.Table.{Table}
use Rattle.oxii_defs.specs.BlockBytes.{peer_name}
use Rattle.board_defs.specs.Trace.{Span}

-- transactions and workers are numbered from 1, and stamps are as they are
abbrev pub span_line : Span → List ℕ
span_line s =
    codes "span " ++ decimal (s.position + 1) ++ codes " " ++ decimal (s.worker + 1)
    ++ codes " " ++ decimal s.begin ++ codes " " ++ decimal s.finish ++ codes "\n"

-- what ran of block n at a peer: how many transactions, and the span of each, in order
abbrev pub burst_lines : Table → ℕ → ℕ → List Span → List ℕ
burst_lines table peer n spans =
    codes "burst " ++ peer_name table peer ++ codes " " ++ decimal n ++ codes " " ++ decimal (length spans) ++ codes "\n"
    ++ flat_map span_line spans
