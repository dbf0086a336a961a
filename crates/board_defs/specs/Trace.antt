-- Lawful traces of the run of positions of a block.
use Rattle.std.specs.Prelude.{◌≡◌, ◌<◌, ℕ, ◌*◌, ◌==◌, true, List, [], ◌∷◌, length, map, count_by, Contains}
use Rattle.std.specs.List.{All, flat_map}
use Rattle.std.specs.List.Sorted.{IsStrictlyIncreasing}
use Rattle.txn_types.specs.declared.txn.Kind.{Kind}
use Rattle.txn_types.specs.declared.txn.Txn.{Txn}
use Rattle.oxii_defs.specs.Dependency.{depends}
use Rattle.known_defs.specs.Known.{txn_at}

-- the run of a position: by which worker, and the stamps at its begin and its finish
pub record Span : Type 0 where
  pub position : ℕ
  pub worker : ℕ
  pub begin : ℕ
  pub finish : ℕ

-- the stamps of all spans
abbrev pub stamps : List Span → List ℕ
stamps spans = flat_map (λ s. s.begin ∷ s.finish ∷ []) spans

-- one span for each of the rising positions, in order; each stamp once; a position begins after the finish of each one that it depends on
pub record IsLawfulTrace (kind : Kind) (txns : List Txn) (workers : ℕ) (positions : List ℕ) (spans : List Span) : Type 0 where
  pub rising : IsStrictlyIncreasing positions
  pub one_each : map (λ s. s.position) spans ≡ positions
  pub each_stamp : (k : ℕ) → k < 2 * length spans → count_by (λ x. x == k) (stamps spans) ≡ 1
  pub forward : All (λ s. s.begin < s.finish) spans
  pub behind : (a b : Span) → Contains spans a → Contains spans b → a.position < b.position →
      depends kind (txn_at txns a.position) (txn_at txns b.position) ≡ true → a.finish < b.begin
  pub by_workers : All (λ s. s.worker < workers) spans
