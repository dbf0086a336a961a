-- What lists of passes have, and what a join of two passes has.
use Rattle.std.proofs.Common.{◌≡◌, ℕ, ◌<◌, ◌+◌, ◌⊎◌, inl, inr, List, [], ◌∷◌, ◌++◌, length, map, get_or, sym, refl, ap, ◌∙◌, subst, ⊎_elim, arith}
use Rattle.std.specs.List.{All, Any, Contains}
use Rattle.std.specs.Prelude.{◌↔◌, Option, Some, None, IfSome}
use Rattle.std.specs.Option.{option_to_list}
use Rattle.std.proofs.lemmas.List.{length-append, length-map, get_or-map}
use Rattle.std.proofs.lemmas.List.Elements.{Contains-append_left, Contains-push_cases, Contains-push, All-append, All-cons, All-nil}
use mathlib.Core.Logic.{dite}
use native.Mathlib.Decide.{ℕ_discrete}
use Rattle.board_core.specs.Counts.{times}
use Rattle.board_core.proofs.Totals.{hit_same, hit_is, times-append}
use Rattle.board_work.specs.declared.plan.Span.{Span}
use Rattle.board_work.specs.Spans.{span_of}
use Rattle.board_work.specs.PassStates.{Home, PassState, split_state, new_state, HasTried, joined_state}
use Rattle.steal_pool.specs.Passes.{AreSplit, IsIdle}

any_cases : {X : Type 0} (P : X → Type 0) (xs : List X) (x : X) → Any P (xs ++ x ∷ []) → (Any P xs) ⊎ (P x)
any_cases P xs x a = ⊎_elim (λ (c : Contains xs a.1). inl (c.0, a.1, c.1, c.2, a.4)) (λ (e : x ≡ a.1). inr (subst P (sym e) a.4)) (Contains-push_cases xs x a.1 (a.0, a.2, a.3))

-- a join of two passes that have no untried duty has none
pub joined_tried : (v u w : PassState) → w ≡ joined_state v u → HasTried v → HasTried u → HasTried w
joined_tried v u w same h k = subst HasTried (sym same) (λ t c. let a = times-append t v.duties u.duties in let b = times-append t v.tried u.tried in
    dite (ℕ_discrete (times t v.duties) 0) (λ z. let d = k t (omega arith) in omega arith) (λ n. let d = h t (omega arith) in omega arith))

any_push : {X : Type 0} (P : X → Type 0) (xs : List X) (x : X) → Any P (xs ++ x ∷ []) ↔ (Any P xs ⊎ P x)
any_push P xs x = (any_cases P xs x, ⊎_elim (λ a. let at = Contains-append_left xs (x ∷ []) a.1 (a.0, a.2, a.3) in (at.0, a.1, at.1, at.2, a.4)) (λ p. let at = Contains-push xs x in (at.0, x, at.1, at.2, p)))

-- what the last pass of a list and those before it have is what all have
pub popped : {X : Type 0} (Q : ℕ → X → Type 0) (r : Option X) (old new : List X) → old ≡ new ++ option_to_list r → IfSome r (λ h. (n : ℕ) → Any (Q n) old ↔ (Any (Q n) new ⊎ Q n h))
popped Q None old new e = tt
popped {X} Q (Some h) old new e = λ n. subst (λ xs. Any (Q n) xs ↔ (Any (Q n) new ⊎ Q n h)) (sym e) (any_push (Q n) new h)

-- no pass but the first
pub none_split : {P : Type 0} (state : P → PassState) (home : Home) (first : PassState) → IsIdle home first → first.passes ≡ 1 → first.numbers ≡ 0 ∷ [] → AreSplit state home first [] 1
none_split state home first idle one number = record {
  idle = idle;
  passes = one;
  number = number;
  long = refl;
  all = All-nil (λ p. IsIdle home (state p));
  numbers = λ n. (λ a. absurd (omega (arith, a.2)), λ b. let l = b.0 in let m = b.1 in absurd (omega arith));
}

-- one pass more
pub one_split : {P : Type 0} (state : P → PassState) (home : Home) (old new : PassState) (p : P) (rest after : List P) (count : ℕ) → new ≡ split_state old → state p ≡ new_state home old.passes → after ≡ rest ++ p ∷ [] → AreSplit state home old rest count → AreSplit state home new after (count + 1)
one_split {P} state home old new p rest after count same is more h = record {
  idle = (ap (λ (v : PassState). v.home) same ∙ h.idle.0, ap (λ (v : PassState). v.held) same ∙ h.idle.1);
  passes = ap (λ (v : PassState). v.passes) same ∙ ap (λ k. k + 1) h.passes;
  number = ap (λ (v : PassState). v.numbers) same ∙ h.number;
  long = ap (λ l. length l + 1) more ∙ (let a = length-append rest (p ∷ []) in let b = h.long in omega arith);
  all = subst (All (λ q. IsIdle home (state q))) (sym more) (All-append (λ q. IsIdle home (state q)) rest (p ∷ []) h.all (All-cons (λ q. IsIdle home (state q)) p [] (ap (λ (v : PassState). v.home) is, ap (λ (v : PassState). v.held) is) (All-nil (λ q. IsIdle home (state q)))));
  numbers = λ n. let a = any_push (λ q. 0 < times n (state q).numbers) rest p in let r = h.numbers n in
      subst (λ xs. Any (λ q. 0 < times n (state q).numbers) xs ↔ ((0 < n) × (n < count + 1))) (sym more)
      (λ has. ⊎_elim (λ s. let b = r.0 s in (b.0, let l = b.1 in omega arith)) (λ s. let e = last n (has_last n s) in (positive n e, omega arith)) (a.0 has), λ b. a.1 (either n b (r.1)));
}
  where
    numbers_of : (state p).numbers ≡ count ∷ []
    numbers_of = ap (λ (v : PassState). v.numbers) is ∙ ap (λ k. k ∷ []) h.passes

    has_last : (n : ℕ) → 0 < times n (state p).numbers → 0 < times n (count ∷ [])
    has_last n s = subst (λ (l : List ℕ). 0 < times n l) numbers_of s

    last : (n : ℕ) → 0 < times n (count ∷ []) → count ≡ n
    last n s = hit_is n count (omega arith)

    positive : (n : ℕ) → count ≡ n → 0 < n
    positive n e = let a = h.long in omega arith

    either : (n : ℕ) → (0 < n) × (n < count + 1) → ((0 < n) × (n < count) → Any (λ q. 0 < times n (state q).numbers) rest) → Any (λ q. 0 < times n (state q).numbers) rest ⊎ (0 < times n (state p).numbers)
    either n b r = let pos = b.0 in let lt = b.1 in dite (ℕ_discrete count n)
        (λ e. inr (subst (λ (l : List ℕ). 0 < times n l) (sym numbers_of) (let one = hit_same n count e in omega arith)))
        (λ ne. inl (r (pos, omega arith)))

-- what a pass has that took in the first and all others
pub taken_in : {P : Type 0} (state : P → PassState) (home : Home) (first result : PassState) (rest : List P) (count : ℕ) → AreSplit state home first rest count
    → ((n : ℕ) → 0 < times n result.numbers ↔ ((0 < times n first.numbers) ⊎ Any (λ p. 0 < times n (state p).numbers) rest)) → (n : ℕ) → 0 < times n result.numbers ↔ n < count
taken_in state home first result rest count h all n = let a = all n in let r = h.numbers n in let long = h.long in (
  λ has. ⊎_elim (λ f. let e = hit_is n 0 (let z = subst (λ (l : List ℕ). 0 < times n l) h.number f in omega arith) in omega arith) (λ s. (r.0 s).1) (a.0 has),
  λ lt. a.1 (dite (ℕ_discrete 0 n) (λ e. inl (subst (λ (l : List ℕ). 0 < times n l) (sym h.number) (let one = hit_same n 0 e in omega arith))) (λ ne. inr (r.1 (omega arith, lt)))),
)

-- the numbers of a join are those of either
pub joined_numbers : (first next result : PassState) (a b : PassState) (rest : Type 0) (n : ℕ) → result ≡ joined_state a b → a.numbers ≡ first.numbers → 0 < times n b.numbers ↔ ((0 < times n next.numbers) ⊎ rest)
    → (others : Type 0) → others ↔ (rest ⊎ (0 < times n next.numbers)) → 0 < times n result.numbers ↔ ((0 < times n first.numbers) ⊎ others)
joined_numbers first next result a b rest n same kept more others all =
    let s = times-append n a.numbers b.numbers in
    subst (λ (v : PassState). 0 < times n v.numbers ↔ ((0 < times n first.numbers) ⊎ others)) (sym same) (
      λ has. dite (ℕ_discrete (times n a.numbers) 0)
          (λ z. inr (all.1 (⊎_elim (λ x. inr x) (λ x. inl x) (more.0 (omega arith)))))
          (λ ne. inl (subst (λ (l : List ℕ). 0 < times n l) kept (omega arith))),
      ⊎_elim (λ f. let h = subst (λ (l : List ℕ). 0 < times n l) (sym kept) f in omega arith)
          (λ o. let h = more.1 (⊎_elim (λ x. inr x) (λ x. inl x) (all.0 o)) in omega arith),
    )

-- where a pass has taken in the numbers below a count alone, the worker of each span is below it
pub workers_below : (v : PassState) (count : ℕ) (spans : List Span) → ((n : ℕ) → 0 < times n v.numbers ↔ n < count) → All (λ s. 0 < times s.worker v.numbers) (map span_of spans) → All (λ (s : Span). s.worker < count) spans
workers_below v count spans numbers all = λ k d l. (numbers (get_or spans k d).worker).0
    (subst (λ s. 0 < times s.worker v.numbers) (get_or-map span_of spans k d (span_of d) l) (all k (span_of d) (omega (arith, l, length-map spans span_of))))
