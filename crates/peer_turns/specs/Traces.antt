-- The spans of one delivery, against the runs of its log.
use Rattle.std.specs.Prelude.{ℕ, ◌≡◌, List, [], ◌∷◌, map}
use Rattle.txn_types.specs.declared.txn.Kind.{Kind}
use Rattle.board_defs.specs.Trace.{IsLawfulTrace}
use Rattle.board_work.specs.declared.plan.Span.{Span}
use Rattle.board_work.specs.Spans.{span_of}
use Rattle.peer_laws.specs.Runs.{BlockRuns}
use Rattle.peer_turns.specs.declared.listing.BlockSpans.{BlockSpans}

-- the spans of a block are a lawful trace of what ran of it
pub record IsTraceOfBlock (kind : Kind) (workers : ℕ) (ran : BlockRuns) (spans : BlockSpans) : Type 0 where
  pub n_is : spans.n ≡ ran.n
  pub trace : IsLawfulTrace kind ran.txns workers ran.positions (map span_of spans.spans)

-- so block by block
abbrev pub AreTraced : Kind → ℕ → List BlockRuns → List BlockSpans → Type 0
AreTraced kind workers [] [] = Unit {0}
AreTraced kind workers (r ∷ ran) (s ∷ spans) = IsTraceOfBlock kind workers r s × AreTraced kind workers ran spans
AreTraced kind workers [] (s ∷ spans) = ⊥
AreTraced kind workers (r ∷ ran) [] = ⊥

-- the entry of a block of which something ran
abbrev pub spans_listed : ℕ → List Span → List BlockSpans
spans_listed n [] = []
spans_listed n (s ∷ spans) = record { n = n; spans = s ∷ spans } ∷ []
