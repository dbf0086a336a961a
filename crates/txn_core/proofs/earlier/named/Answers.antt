-- What the check of `named` leaves to show.
use Rattle.std.proofs.Common.{◌≡◌, ◌/◌, ◌%◌, arith}
use Rattle.std.specs.Int.{bit_at}
use Rattle.txn_core.proofs.TouchLemmas.{at_word}
use Rattle.txn_core.proofs.earlier.named.Goals as goal

pub returns : goal.returns
returns c = λ p earlier lt entered depend.
    at_word (λ n. bit_at n (p % 64) ≡ 1) _ _ _ _ (p / 64) (omega (arith, lt))
    (λ e. c.word.ensures p earlier e entered depend) (λ e. c.word-2.ensures p earlier e entered depend)
    (λ e. c.word-3.ensures p earlier e entered depend) (λ e. c.word-4.ensures p earlier e entered depend)
