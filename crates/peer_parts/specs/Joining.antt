-- Spans put in order of position.
use Rattle.std.specs.Prelude.{◌<◌, ◌≤◌, List, [], ◌∷◌, length}
use Rattle.std.specs.List.{All}
use Rattle.board_defs.specs.Trace as trace
use Rattle.board_defs.specs.Rounds.{put_span}
use Rattle.board_work.specs.declared.plan.Span.{Span}

-- a span with stamps as of a block's run
abbrev pub IsLow : Span → Type 0
IsLow s = (s.begin < 512) × (s.finish < 512)

-- at most as many spans as a block has positions, with such stamps
pub record IsShort (spans : List Span) : Type 0 where
  pub few : length spans ≤ 256
  pub stamps : All IsLow spans

-- each of the first spans put at its position among the second
abbrev pub put_spans : List trace.Span → List trace.Span → List trace.Span
put_spans [] all = all
put_spans (s ∷ rest) all = put_span s (put_spans rest all)
