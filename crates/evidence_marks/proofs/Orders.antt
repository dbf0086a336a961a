-- The orders of marks tell apart those that differ.
use Rattle.std.specs.Prelude.{ℕ, ◌==◌, ◌≡◌, ◌&&◌, refl}
use Rattle.std.specs.declared.cmp.Ordering.{Ordering}
use Rattle.std.specs.declared.cmp.Ordering.TheVariants.{Less, Equal, Greater}
use Rattle.std.specs.Ordering.{eq_by_cmp, is_eq, nat_cmp, ordering_then}
use Rattle.std.proofs.Common.{◌∙◌, ap, arith}
use Rattle.std.proofs.lemmas.Bool.Decides.{nat_tests}
use Rattle.evidence_marks.specs.declared.evidence.OrdererMark.{OrdererMark}
use Rattle.evidence_marks.specs.declared.evidence.AgentMark.{AgentMark}
use Rattle.evidence_marks.specs.Evidence.{orderer_order, agent_order}

-- numbers that the order of numbers takes for the same, asked the other way round
same_turned : (a b : ℕ) → eq_by_cmp nat_cmp a b ≡ (b == a)
same_turned a b = grind (arith, nat_tests)

then_same : (r s : Ordering) → is_eq (ordering_then r s) ≡ (is_eq r && is_eq s)
then_same Less s = refl
then_same Equal s = refl
then_same Greater s = refl

pub orderer_is : (m : OrdererMark) (o n : ℕ) → eq_by_cmp orderer_order m (record { orderer = o; n = n }) ≡ ((o == m.orderer) && (n == m.n))
orderer_is m o n = then_same (nat_cmp m.orderer o) (nat_cmp m.n n) ∙ λ i. same_turned m.orderer o i && same_turned m.n n i

pub agent_is : (m : AgentMark) (p n t : ℕ) → eq_by_cmp agent_order m (record { agent = p; n = n; t = t }) ≡ ((p == m.agent) && ((n == m.n) && (t == m.t)))
agent_is m p n t =
    then_same (nat_cmp m.agent p) (ordering_then (nat_cmp m.n n) (nat_cmp m.t t))
    ∙ (ap (λ b. is_eq (nat_cmp m.agent p) && b) (then_same (nat_cmp m.n n) (nat_cmp m.t t))
    ∙ λ i. same_turned m.agent p i && (same_turned m.n n i && same_turned m.t t i))
