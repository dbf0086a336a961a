-- Of one log there is one evidence.
use Rattle.std.specs.Prelude.{ℕ, ◌≡◌, Bool, true, false, ◌||◌, List, [], ◌∷◌, refl}
use Rattle.std.specs.declared.cmp.Ordering.{Ordering}
use Rattle.std.specs.declared.cmp.Ordering.TheVariants.{Less, Equal, Greater}
use Rattle.std.specs.Ordering.{eq_by_cmp, is_eq, ordering_reverse}
use Rattle.std.specs.Cmp.{IsTotalOrder}
use Rattle.std.specs.List.{AllByRecursion, list_any}
use Rattle.std.specs.List.Sorted.{IsStrictlySortedBy}
use Rattle.std.proofs.Common.{sym, ◌∙◌, ap}
use Rattle.std.proofs.lemmas.Bool.{false≢true, and_parts, eqb-true}
use Rattle.std.proofs.lemmas.Cmp.{nat_cmp_total, on_total, then_total, tied_itself}
use Rattle.node_defs.specs.Rules.{Rules}
use Rattle.node_defs.specs.Log.{Log}
use Rattle.evidence_marks.specs.declared.evidence.OrdererMark.{OrdererMark}
use Rattle.evidence_marks.specs.declared.evidence.AgentMark.{AgentMark}
use Rattle.evidence_marks.specs.Evidence.{IsEvidence, agent_order, orderer_order}
use Rattle.evidence_marks.specs.Marks.{AreMarks}
use Rattle.evidence_marks.proofs.Orders.{agent_is, orderer_is}

module _ {K : Type 0} (R : K → K → Ordering) (o : IsTotalOrder R) (exact : (a b : K) → eq_by_cmp R a b ≡ true → a ≡ b) where
  itself : (x : K) → eq_by_cmp R x x ≡ true
  itself x = ap is_eq (tied_itself o x)

  -- what is below all of these is none of them
  not_among : (x : K) (ys : List K) → AllByRecursion (λ z. R x z ≡ Less) ys → list_any (eq_by_cmp R x) ys ≡ false
  not_among x [] a = refl
  not_among x (y ∷ ys) a = ap (λ r. is_eq r || list_any (eq_by_cmp R x) ys) a.0 ∙ not_among x ys a.1

  below_all : (x y : K) (ys : List K) → R x y ≡ Less → AllByRecursion (λ z. R y z ≡ Less) ys → AllByRecursion (λ z. R x z ≡ Less) ys
  below_all x y [] h a = tt
  below_all x y (z ∷ zs) h a = (o.trans x y z h a.0, below_all x y zs h a.1)

  -- where x is below y, it isn't among y and those above it
  missing : (x y : K) (ys : List K) → R x y ≡ Less → AllByRecursion (λ z. R y z ≡ Less) ys → list_any (eq_by_cmp R x) (y ∷ ys) ≡ false
  missing x y ys h a = not_among x (y ∷ ys) (h, below_all x y ys h a)

  is_first : (x : K) (xs : List K) → list_any (eq_by_cmp R x) (x ∷ xs) ≡ true
  is_first x xs = ap (λ b. b || list_any (eq_by_cmp R x) xs) (itself x)

  -- rising lists with the same members are one
  pub same_rising : (xs ys : List K) → IsStrictlySortedBy R xs → IsStrictlySortedBy R ys → ((m : K) → list_any (eq_by_cmp R m) xs ≡ list_any (eq_by_cmp R m) ys) → xs ≡ ys
  unfolding IsStrictlySortedBy
  same_rising [] [] s t h = refl
  same_rising [] (y ∷ ys) s t h = absurd (false≢true (h y ∙ is_first y ys))
  same_rising (x ∷ xs) [] s t h = absurd (false≢true (sym (h x) ∙ is_first x xs))
  same_rising (x ∷ xs) (y ∷ ys) s t h = let p = head (R x y) refl in let q = same_rising xs ys s.1 t.1 (λ m. rest p m (eq_by_cmp R m x) refl) in cc
    where
      head : (r : Ordering) → R x y ≡ r → x ≡ y
      head Equal e = exact x y (ap is_eq e)
      head Less e = absurd (false≢true (sym (missing x y ys e t.0) ∙ (sym (h x) ∙ is_first x xs)))
      head Greater e = absurd (false≢true (sym (missing y x xs (o.antisymm y x ∙ ap ordering_reverse e) s.0) ∙ (h y ∙ is_first y ys)))

      rest : x ≡ y → (m : K) (b : Bool) → eq_by_cmp R m x ≡ b → list_any (eq_by_cmp R m) xs ≡ list_any (eq_by_cmp R m) ys
      rest p m true e =
          let i : m ≡ x = exact m x e in
          ap (λ k. list_any (eq_by_cmp R k) xs) i ∙ (not_among x xs s.0 ∙ sym (ap (λ k. list_any (eq_by_cmp R k) ys) (i ∙ p) ∙ not_among y ys t.0))
      rest p m false e = sym (ap (λ b. b || list_any (eq_by_cmp R m) xs) e) ∙ (h m ∙ ap (λ b. b || list_any (eq_by_cmp R m) ys) (ap (eq_by_cmp R m) (sym p) ∙ e))

orderer_total : IsTotalOrder orderer_order
orderer_total = then_total (on_total (λ (m : OrdererMark). m.orderer) nat_cmp_total) (on_total (λ (m : OrdererMark). m.n) nat_cmp_total)

agent_total : IsTotalOrder agent_order
agent_total = then_total (on_total (λ (m : AgentMark). m.agent) nat_cmp_total) (then_total (on_total (λ (m : AgentMark). m.n) nat_cmp_total) (on_total (λ (m : AgentMark). m.t) nat_cmp_total))

orderer_exact : (a b : OrdererMark) → eq_by_cmp orderer_order a b ≡ true → a ≡ b
orderer_exact a b h =
    let p = and_parts _ _ (sym (orderer_is a b.orderer b.n) ∙ h) in
    let o = eqb-true b.orderer a.orderer p.0 in
    let n = eqb-true b.n a.n p.1 in
    λ i. record { orderer = sym o i; n = sym n i }

agent_exact : (a b : AgentMark) → eq_by_cmp agent_order a b ≡ true → a ≡ b
agent_exact a b h =
    let p = and_parts _ _ (sym (agent_is a b.agent b.n b.t) ∙ h) in
    let q = and_parts _ _ p.1 in
    let g = eqb-true b.agent a.agent p.0 in
    let n = eqb-true b.n a.n q.0 in
    let t = eqb-true b.t a.t q.1 in
    λ i. record { agent = sym g i; n = sym n i; t = sym t i }

one_list : {M : Type 0} (order : M → M → Ordering) → IsTotalOrder order → ((a b : M) → eq_by_cmp order a b ≡ true → a ≡ b) → (is_so : M → Bool) (xs ys : List M) → AreMarks order is_so xs → AreMarks order is_so ys → xs ≡ ys
one_list order o exact is_so xs ys a b = same_rising order o exact xs ys a.rising b.rising (λ m. a.are m ∙ sym (b.are m))

pub one_evidence : (rules : Rules) (me : ℕ) (L : Log) (orderers orderers2 : List OrdererMark) (agents agents2 : List AgentMark) → IsEvidence rules me L orderers agents → IsEvidence rules me L orderers2 agents2 → (orderers ≡ orderers2) × (agents ≡ agents2)
one_evidence rules me L orderers orderers2 agents agents2 a b = (
  one_list orderer_order orderer_total orderer_exact _ orderers orderers2 a.orderers_are b.orderers_are,
  one_list agent_order agent_total agent_exact _ agents agents2 a.agents_are b.agents_are,
)
