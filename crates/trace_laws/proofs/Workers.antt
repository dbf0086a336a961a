-- A trace of some workers is one of as many as its spans name.
use Rattle.std.specs.Prelude.{ℕ, ◌<◌, List}
use Rattle.std.specs.List.{All}
use Rattle.txn_types.specs.declared.txn.Kind.{Kind}
use Rattle.txn_types.specs.declared.txn.Txn.{Txn}
use Rattle.board_defs.specs.Trace.{Span, IsLawfulTrace}

pub fewer_workers : (kind : Kind) (txns : List Txn) (m n : ℕ) (positions : List ℕ) (spans : List Span) → IsLawfulTrace kind txns m positions spans → All (λ s. s.worker < n) spans → IsLawfulTrace kind txns n positions spans
fewer_workers kind txns m n positions spans h workers = record {
  rising = h.rising;
  one_each = h.one_each;
  each_stamp = h.each_stamp;
  forward = h.forward;
  behind = h.behind;
  by_workers = workers;
}
