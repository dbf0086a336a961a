-- A turn of the reader's loop, and its ends.
use Rattle.std.proofs.Common.{◌≡◌, ℕ, ◌+◌, ◌<◌, ◌≤◌, true, false, ◌||◌, List, ◌∷◌, length, get_or, drop, drop-cons, add-one, Some, None, refl, sym}
use Rattle.std.proofs.Math.ListN.{drop_of_length-le}
use Rattle.contract_grammar.specs.declared.token.Placed.{Placed}
use Rattle.contract_grammar.specs.Modes.{At, advance, at_end}
use Rattle.contract_grammar.specs.Limits.{Tally, tallied, passes}
use Rattle.contract_grammar.specs.Reading.{Reading, syntax_at, limit_at, ends_chain, ending, going, read_from}

module _ (ks : List Placed) (i : ℕ) (k : Placed) (lt : i < length ks) (is : k ≡ get_or ks i k) (z : At) (c : Tally) (len : ℕ) (r : Reading) (left : read_from z c len (drop i ks) ≡ r) where
  here : drop i ks ≡ k ∷ drop (i + 1) ks
  here = rw (add-one, drop-cons ks i k lt, ← is) refl

  opened : going (advance z k) k.span.start (passes c k) (λ y. read_from y (tallied c k) len (drop (i + 1) ks)) ≡ r
  unfolding read_from
  opened = rw here at left

  pub refused : advance z k ≡ None → r ≡ syntax_at k.span.start
  refused next = sym (rw next at opened)

  pub limited : (a : At) → advance z k ≡ Some a → (passes c k || ends_chain a.mode) ≡ true → r ≡ limit_at k.span.start
  limited a next over = sym (rw over at (rw next at opened))

  pub turn : (a : At) → advance z k ≡ Some a → (passes c k || ends_chain a.mode) ≡ false → read_from a (tallied c k) len (drop (i + 1) ks) ≡ r
  turn a next over = rw over at (rw next at opened)

pub at_the_end : (ks : List Placed) (i : ℕ) (z : At) (c : Tally) (len : ℕ) (r : Reading) → length ks ≤ i → read_from z c len (drop i ks) ≡ r → r ≡ ending len (at_end z)
unfolding read_from
at_the_end ks i z c len r le left = sym (rw (drop_of_length-le ks le) at left)
