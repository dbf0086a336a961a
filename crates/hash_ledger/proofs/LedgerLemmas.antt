-- The last entry of a ledger, and one more.
use Rattle.std.proofs.Common.{◌≡◌, ◌+◌, ◌≤◌, ◌-◌, ℕ, suc, List, [], ◌∷◌, ◌++◌, length, get_or, sym, ap, subst, ◌∙◌, arith}
use Rattle.std.specs.Prelude.{Result, Ok, Err, OnOk, OnErr}
use Rattle.oxii_defs.specs.Chain.{no_hash}
use Rattle.hash_ledger.specs.declared.entry.Entry.{Entry}
use Rattle.hash_ledger.specs.Ledgers.{AreLinked, tip_behind, tip_of}

-- a ledger with one more entry behind it is linked
pub linked_more : (n : ℕ) (prev : List ℕ) (entries : List Entry) (e : Entry) → AreLinked n prev entries → e.block.number ≡ length entries + n → e.block.prev ≡ tip_behind prev entries → AreLinked n prev (entries ++ e ∷ [])
linked_more n prev [] e linked number follows = (omega (number, arith), follows, tt)
linked_more n prev (x ∷ rest) e linked number follows = (linked.0, linked.1, linked_more (suc n) x.hash rest e linked.2 (omega (number, arith)) follows)

-- the hash of the last entry
tip_at : (prev : List ℕ) (x : Entry) (rest : List Entry) (last : Entry) → last ≡ get_or (x ∷ rest) (length rest) last → tip_behind prev (x ∷ rest) ≡ last.hash
tip_at prev x [] last is = ap (λ (e : Entry). e.hash) (sym is)
tip_at prev x (y ∷ rest) last is = tip_at x.hash y rest last is

pub tip_is : (entries : List Entry) (last : Entry) → 1 ≤ length entries → last ≡ get_or entries (length entries - 1) last → last.hash ≡ tip_of entries
tip_is [] last some is = absurd (omega (some, arith))
tip_is (x ∷ rest) last some is =
    let place : length (x ∷ rest) - 1 ≡ length rest = omega arith in
    sym (tip_at no_hash x rest last (is ∙ ap (λ (i : ℕ). get_or (x ∷ rest) i last) place))

-- a ledger is linked after a push, whatever it answered
pub linked_after : {Refusal : Type 0} → (old new entries : List Entry) (e : Entry) (answer : Result (Unit {0}) Refusal)
    → OnOk answer (new ≡ old ++ e ∷ []) → OnErr answer (new ≡ old)
    → AreLinked 1 no_hash old → old ≡ entries → e.block.number ≡ length entries + 1 → e.block.prev ≡ tip_of entries
    → AreLinked 1 no_hash new
linked_after old new entries e (Ok u) pushed kept linked same number follows =
    subst (AreLinked 1 no_hash) (sym pushed) (linked_more 1 no_hash old e linked (number ∙ ap (λ (xs : List Entry). length xs + 1) (sym same)) (follows ∙ ap tip_of (sym same)))
linked_after old new entries e (Err err) pushed kept linked same number follows = subst (AreLinked 1 no_hash) (sym kept) linked
