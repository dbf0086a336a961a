-- Whether bytes are a name, as a test and as a fact.
use Rattle.std.proofs.Common.{◌≡◌, ◌≤◌, ℕ, List, [], ◌∷◌, length, Bool, true, false, ◌&&◌, ◌||◌, leb, eqb, refl}
use Rattle.std.specs.Bool.{Decides}
use Rattle.std.specs.List.{list_all}
use Rattle.std.proofs.lemmas.Bool.{leb-true, le-leb}
use Rattle.std.proofs.lemmas.Bool.Decides.{Decides-and, Decides-or, Decides-by_and, Decides-eqb, Decides-like}
use Rattle.txn_types.specs.Names.{IsName, IsNameByte, BeginsLower, IsLower}
use Rattle.doc_forms.specs.Forms.{is_name, is_name_byte, begins_lower, is_lower}

Decides-leb : (a b : ℕ) → Decides (leb a b) (a ≤ b)
Decides-leb a b = (leb-true a b, le-leb a b)

Decides-lower : (b : ℕ) → Decides (is_lower b) (IsLower b)
Decides-lower b = Decides-and (leb 97 b) (leb b 122) (Decides-leb 97 b) (Decides-leb b 122)

Decides-byte : (b : ℕ) → Decides (is_name_byte b) (IsNameByte b)
unfolding is_name_byte
Decides-byte b =
    Decides-or (is_lower b) ((leb 48 b && leb b 57) || eqb b 95) (Decides-lower b)
    (Decides-or (leb 48 b && leb b 57) (eqb b 95) (Decides-and (leb 48 b) (leb b 57) (Decides-leb 48 b) (Decides-leb b 57)) (Decides-eqb b 95))

Decides-begins : (bs : List ℕ) → Decides (begins_lower bs) (BeginsLower bs)
Decides-begins [] = (λ e. absurd cc, λ h. absurd h)
Decides-begins (b ∷ bs) = Decides-lower b

-- the bytes of a name
pub Decides-name : (bs : List ℕ) → Decides (is_name bs) (IsName bs)
unfolding is_name
Decides-name bs =
    Decides-like _ (λ h. (h.0, h.1.0, h.1.1)) (λ h. (h.0, (h.1, h.2)))
    (Decides-and (leb (length bs) 32) (begins_lower bs && list_all is_name_byte bs) (Decides-leb (length bs) 32)
    (Decides-and (begins_lower bs) (list_all is_name_byte bs) (Decides-begins bs)
    (Decides-by_and is_name_byte IsNameByte (list_all is_name_byte) Decides-byte refl (λ x xs. refl) bs)))

pub told_name : (bs : List ℕ) → IsName bs → is_name bs ≡ true
told_name bs h = (Decides-name bs).1 h

by_test : (b : Bool) (P : Type 0) → Decides b P → ¬ P → b ≡ false
by_test true P d h = absurd (h (d.0 refl))
by_test false P d h = refl

pub told_other : (bs : List ℕ) → ¬ IsName bs → is_name bs ≡ false
told_other bs h = by_test (is_name bs) (IsName bs) (Decides-name bs) h
