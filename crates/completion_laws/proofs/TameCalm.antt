-- A tame input is calm: those that say something are among the faulty nodes.
use Rattle.std.specs.Prelude.{◌≤◌, ◌≡◌, Bool, true, false, cond, List, [], ◌∷◌, count_by, get_or, refl}
use Rattle.std.proofs.Common.{sym, arith}
use Rattle.std.proofs.lemmas.Bool.{false≢true}
use Rattle.std.proofs.lemmas.List.Elements.{recursion_from_All}
use Rattle.txn_types.specs.declared.message.Node.TheVariants.{Orderer, Peer}
use Rattle.node_defs.proofs.CountingLemmas.{count_by-cons}
use Rattle.node_defs.specs.Blocks.{block_at}
use Rattle.node_defs.specs.LawfulEvents.{IsSaidByFaulty}
use Rattle.node_defs.specs.Tame.{rules_at}
use Rattle.node_defs.specs.World.{count_from, is_faulty, orderers_of}
use Rattle.completion_laws.specs.CalmLaws.{TameIsCalm}
use Rattle.completion_laws.specs.Calm.{has_said}
use Rattle.completion_laws.proofs.Law.{said_among}

-- what passes the first test passes the second: no more pass it
count_less : {A : Type 0} (p q : A → Bool) → ((x : A) → q x ≡ false → p x ≡ false) → (xs : List A) → count_by p xs ≤ count_by q xs
count_less p q h [] = omega arith
count_less {A} p q h (x ∷ xs) = omega (arith, one (p x) (q x) (h x), count_less p q h xs, count_by-cons p x xs, count_by-cons q x xs)
  where
    one : (a b : Bool) → (b ≡ false → a ≡ false) → cond a 1 0 ≤ cond b 1 0
    one true true k = omega arith
    one true false k = absurd (false≢true (sym (k refl)))
    one false true k = omega arith
    one false false k = omega arith

pub tame_is_calm : TameIsCalm
tame_is_calm s events said tame =
    let among = said_among s events (recursion_from_All (IsSaidByFaulty s) events said) in record {
      orderers = omega (arith, tame.orderers, count_less (λ o. has_said events (Orderer o)) (λ o. is_faulty s (Orderer o)) (λ o f. among (Orderer o) f) (count_from 0 (orderers_of s)));
      agents = λ m j t d k. omega (arith, tame.agents m j t d k, count_less (λ p. has_said events (Peer p)) (λ p. is_faulty s (Peer p)) (λ p f. among (Peer p) f) ((rules_at s m).agents (get_or (block_at s.chain m).txns t d).app));
    }
