-- What the check of `links_at` leaves to show.
use Rattle.std.proofs.Common.{◌≡◌, Result, Ok, Err, ap}
use Rattle.std.specs.Prelude.{MatchResult, ⊤}
use Rattle.doc_forms.specs.declared.fault.DocFault.{DocFault}
use Rattle.doc_forms.specs.Faults.{Fault}
use Rattle.doc_forms.specs.Check.{◌>>=◌}
use Rattle.doc_forms.specs.Answers.{Gives}
use Rattle.doc_forms.proofs.Steps.{fails_first}
use Rattle.doc_schedule.specs.Blocks.{links_at}
use Rattle.doc_schedule.proofs.blocks.links_at.Goals as goal

ended : {X : Type 0} (x : X) (end : Result ⊤ DocFault) (result : Result X DocFault) (check : Result ⊤ Fault)
    → Gives (λ u. u) end check → MatchResult end (λ u. result ≡ Ok x) (λ f. result ≡ Err f) → Gives (λ z. z) result (check >>= λ u. Ok x)
ended x (Ok u) result check h is = rw is (ap (λ r. r >>= λ u. Ok x) h)
ended x (Err f) result check h is = rw is (fails_first f check (λ u. Ok x) h)

pub returns : goal.returns
unfolding links_at
returns c =
    rw (c.in_ok-prev.ensures, c.in_ok-preds.ensures)
    (ended (c.in_ok-prev.prev, c.in_ok-preds.preds) c.only-end.result c.if_ended.result _ c.only-end.ensures c.if_ended.ensures)
