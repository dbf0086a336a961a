-- The flaw that is noted is the first one.
use Rattle.std.proofs.Common.{◌≡◌, ◌⊎◌, inl, inr, ℕ, suc, ◌<◌, Bool, true, false, List, [], ◌∷◌, Option, Some, None, Contains, refl, sym, ap, ◌∙◌, subst, arith, fold, if◌then◌else◌}
use Rattle.std.specs.List.{All}
use Rattle.std.specs.Bool.{Decides}
use Rattle.std.proofs.lemmas.Bool.Decides.{Decides-or, Decides-and, Decides-ltb, Decides-eqb}
use Rattle.std.proofs.lemmas.List.Elements.{All-contains}
use Rattle.contract_text.specs.declared.flaws.FlawKind.{FlawKind}
use Rattle.contract_text.specs.declared.flaws.FlawKind.TheVariants.{Double, UnknownName, Kind}
use Rattle.contract_text.specs.declared.flaws.Flaw.{Flaw}
use Rattle.contract_text.specs.Flaws.{rank, is_before, earlier, noted, IsFirst}
use Rattle.contract_text.proofs.Fine.{all_more}

abbrev Before : Flaw → Flaw → Type 0
Before f g = (f.at < g.at) ⊎ ((f.at ≡ g.at) × (rank f.kind < rank g.kind))

before_decides : (f g : Flaw) → Decides (is_before f g) (Before f g)
before_decides f g = Decides-or _ _ (Decides-ltb f.at g.at) (Decides-and _ _ (Decides-eqb f.at g.at) (Decides-ltb (rank f.kind) (rank g.kind)))

transitive : (f g h : Flaw) → Before f g → Before g h → Before f h
transitive f g h (inl a) (inl b) = inl (omega (arith, a, b))
transitive f g h (inl a) (inr b) = inl (omega (arith, a, b.0))
transitive f g h (inr a) (inl b) = inl (omega (arith, a.0, b))
transitive f g h (inr a) (inr b) = inr ((a.0 ∙ b.0, omega (arith, a.1, b.1)))

irreflexive : (f : Flaw) → Before f f → ⊥
irreflexive f (inl a) = omega (arith, a)
irreflexive f (inr a) = omega (arith, a.1)

-- two numbers are in order one way, or equal
order : (a b : ℕ) → (a < b) ⊎ ((a ≡ b) ⊎ (b < a))
order a b = grind arith

at_one : (f g h : Flaw) → f.at ≡ g.at → Before f h → Before f g ⊎ Before g h
at_one f g h same (inl lt) = inr (inl (omega (arith, same, lt)))
at_one f g h same (inr eq) = elim (order (rank f.kind) (rank g.kind)) [
  | inl lt ↦ inl (inr ((same, lt)))
  | inr rest ↦ elim rest [ inl is ↦ inr (inr ((sym same ∙ eq.0, omega (arith, is, eq.1)))) | inr gt ↦ inr (inr ((sym same ∙ eq.0, omega (arith, gt, eq.1)))) ]
]

behind : (f g h : Flaw) → g.at < f.at → Before f h → Before g h
behind f g h gt (inl lt) = inl (omega (arith, gt, lt))
behind f g h gt (inr eq) = inl (omega (arith, gt, eq.0))

-- what stands before a flaw stands before another one, or the other one before that
between : (f g h : Flaw) → Before f h → Before f g ⊎ Before g h
between f g h b = elim (order f.at g.at) [
  | inl lt ↦ inl (inl lt)
  | inr rest ↦ elim rest [ inl same ↦ at_one f g h same b | inr gt ↦ inr (behind f g h gt b) ]
]

not_true : (b : Bool) → (b ≡ true → ⊥) → b ≡ false
not_true true h = absurd (h refl)
not_true false h = refl

not_before : (f g : Flaw) → (Before f g → ⊥) → is_before f g ≡ false
not_before f g h = not_true _ (λ e. h ((before_decides f g).0 e))

is_not_before : (f g : Flaw) → is_before f g ≡ false → Before f g → ⊥
is_not_before f g h b = let t = (before_decides f g).1 b in cc

-- one of the flaws or the first so far, before which none of them stands
record Least (best f : Flaw) (fs : List Flaw) : Type 0 where
  one_of : (f ≡ best) ⊎ Contains fs f
  front : is_before best f ≡ false
  rest : All (λ g. is_before g f ≡ false) fs

contains_more : (f g : Flaw) (fs : List Flaw) → Contains fs f → Contains (g ∷ fs) f
contains_more f g fs h = (suc h.0, let lt = h.1 in omega (arith, lt), h.2)

some_is : (f g : Flaw) → ◌≡◌ {A = Option Flaw} (Some f) (Some g) → g ≡ f
some_is f g e = cc

-- the next flaw takes the place of the first so far
takes : (best f g : Flaw) (fs : List Flaw) → is_before g best ≡ true → Least g f fs → Least best f (g ∷ fs)
takes best f g fs lt l = record {
  one_of = elim l.one_of [ inl is ↦ inr ((0, omega arith, sym is)) | inr h ↦ inr (contains_more f g fs h) ];
  front = not_before best f (λ b. is_not_before g f l.front (transitive g best f ((before_decides g best).0 lt) b));
  rest = all_more (λ h. is_before h f ≡ false) g fs l.front l.rest;
}

-- or it doesn't
stays : (best f g : Flaw) (fs : List Flaw) → is_before g best ≡ false → Least best f fs → Least best f (g ∷ fs)
stays best f g fs ge l = record {
  one_of = elim l.one_of [ inl is ↦ inl is | inr h ↦ inr (contains_more f g fs h) ];
  front = l.front;
  rest = all_more (λ h. is_before h f ≡ false) g fs (not_before g f (λ b. elim (between g best f b) [ inl lt ↦ is_not_before g best ge lt | inr lt ↦ is_not_before best f l.front lt ])) l.rest;
}

least : (best f : Flaw) (fs : List Flaw) → noted (Some best) fs ≡ Some f → Least best f fs
least best f [] e = let is = some_is best f e in record { one_of = inl is; front = not_before best f (λ b. irreflexive best (subst (Before best) is b)); rest = λ k d lt. absurd (omega (arith, lt)) }
least best f (g ∷ fs) e = elim (is_before g best) as (λ b. is_before g best ≡ b → fold earlier (if b then Some g else Some best) fs ≡ Some f → Least best f (g ∷ fs)) [
  | true ↦ λ lt h. takes best f g fs lt (least g f fs h)
  | false ↦ λ ge h. stays best f g fs ge (least best f fs h)
] refl e

pub first_noted : (f : Flaw) (fs : List Flaw) → noted None fs ≡ Some f → IsFirst f fs
first_noted f [] e = absurd cc
first_noted f (g ∷ fs) e =
    let l = least g f fs e in
    (elim l.one_of [ inl is ↦ (0, omega arith, sym is) | inr h ↦ contains_more f g fs h ], all_more (λ h. is_before h f ≡ false) g fs l.front l.rest)

-- ---- the first flaw is one

some_stays : (best : Flaw) (fs : List Flaw) → noted (Some best) fs ≡ None → ⊥
some_stays best [] e = cc
some_stays best (g ∷ fs) e = elim (is_before g best) as (λ b. fold earlier (if b then Some g else Some best) fs ≡ None → ⊥) [
  | true ↦ λ h. some_stays g fs h
  | false ↦ λ h. some_stays best fs h
] e

none_first : (fs : List Flaw) → noted None fs ≡ None → fs ≡ []
none_first [] e = refl
none_first (g ∷ fs) e = absurd (some_stays g fs e)

no_element : (f : Flaw) → Contains [] f → ⊥
no_element f c = let lt = c.1 in omega (arith, lt)

same_kind : (k m : FlawKind) → rank k ≡ rank m → k ≡ m
same_kind Double Double e = refl
same_kind Double UnknownName e = absurd (omega (arith, e))
same_kind Double Kind e = absurd (omega (arith, e))
same_kind UnknownName Double e = absurd (omega (arith, e))
same_kind UnknownName UnknownName e = refl
same_kind UnknownName Kind e = absurd (omega (arith, e))
same_kind Kind Double e = absurd (omega (arith, e))
same_kind Kind UnknownName e = absurd (omega (arith, e))
same_kind Kind Kind e = refl

same_rank : (f g : Flaw) → f.at ≡ g.at → (Before f g → ⊥) → (Before g f → ⊥) → rank f.kind ≡ rank g.kind
same_rank f g same one other = elim (order (rank f.kind) (rank g.kind)) [
  | inl lt ↦ absurd (one (inr (same, lt)))
  | inr rest ↦ elim rest [ inl is ↦ is | inr gt ↦ absurd (other (inr (sym same, gt))) ]
]

same_place : (f g : Flaw) → (Before f g → ⊥) → (Before g f → ⊥) → f.at ≡ g.at
same_place f g one other = elim (order f.at g.at) [
  | inl lt ↦ absurd (one (inl lt))
  | inr rest ↦ elim rest [ inl is ↦ is | inr gt ↦ absurd (other (inl gt)) ]
]

same_flaw : (f g : Flaw) → (Before f g → ⊥) → (Before g f → ⊥) → f ≡ g
same_flaw f g one other =
    let at = same_place f g one other in
    let kind = same_kind f.kind g.kind (same_rank f g at one other) in
    λ i. record { at = at i; kind = kind i }

one_first : (f g : Flaw) (fs : List Flaw) → IsFirst f fs → IsFirst g fs → f ≡ g
one_first f g fs h k =
    same_flaw f g (is_not_before f g (All-contains (λ x. is_before x g ≡ false) fs f k.1 h.0)) (is_not_before g f (All-contains (λ x. is_before x f ≡ false) fs g h.1 k.0))

first_is : (f : Flaw) (fs : List Flaw) (o : Option Flaw) → IsFirst f fs → noted None fs ≡ o → o ≡ Some f
first_is f fs None h e = absurd (no_element f (subst (λ l. Contains l f) (none_first fs e) h.0))
first_is f fs (Some g) h e = ap Some (one_first g f fs (first_noted g fs e) h)

pub noted_first : (f : Flaw) (fs : List Flaw) → IsFirst f fs → noted None fs ≡ Some f
noted_first f fs h = first_is f fs (noted None fs) h refl
