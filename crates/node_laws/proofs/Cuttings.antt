-- Of one list of items there are no two cuttings.
use Rattle.std.specs.Prelude.{◌<◌, ◌≤◌, false, List, [], ◌∷◌, ◌++◌, length, ◌≡◌, refl, ◌⊎◌}
use Rattle.std.specs.List.{AllByRecursion, flat_map}
use Rattle.std.proofs.Common.{sym, ◌∙◌, ap, arith, subst, inl, inr, append_assoc}
use Rattle.std.proofs.lemmas.Bool.{true≢false}
use Rattle.std.proofs.lemmas.List.{length-append}
use Rattle.std.proofs.lemmas.Grind.{flat_map-append}
use Rattle.txn_types.specs.declared.stream.Piece.TheVariants as piece
use Rattle.node_defs.specs.Cutting.{AdmittedItem, EndRightly, EndsBefore, HasNoMark, IsAlone, IsCall, IsPart, bytes_in, BeginsWithConfig, front, last_marked, txns_in, txns_in_piece}
use Rattle.node_laws.specs.OneCutting.{OneCutting}
use Rattle.oxii_defs.specs.BlockBytes.{txn_bytes}
use Rattle.oxii_defs.specs.Table.{Table}
use Rattle.txn_types.specs.declared.block.Config.{Config}
use Rattle.txn_types.specs.declared.stream.CutLimits.{CutLimits}
use Rattle.txn_types.specs.declared.txn.Txn.{Txn}

-- ys goes on where xs ends
abbrev pub GoesOn : List AdmittedItem → List AdmittedItem → List AdmittedItem → List AdmittedItem → Type 0
GoesOn xs p ys q = (z : AdmittedItem) × (zs : List AdmittedItem) × (ys ≡ xs ++ z ∷ zs) × (p ≡ z ∷ (zs ++ q))

abbrev Compared : List AdmittedItem → List AdmittedItem → List AdmittedItem → List AdmittedItem → Type 0
Compared xs p ys q = ((xs ≡ ys) × (p ≡ q)) ⊎ (GoesOn xs p ys q ⊎ GoesOn ys q xs p)

heads : (x y : AdmittedItem) (p q : List AdmittedItem) → ◌≡◌ {A = List AdmittedItem} (x ∷ p) (y ∷ q) → (x ≡ y) × (p ≡ q)
heads x y p q e = (cc, cc)

compared_more : (x y : AdmittedItem) (xs p ys q : List AdmittedItem) → x ≡ y → Compared xs p ys q → Compared (x ∷ xs) p (y ∷ ys) q
compared_more x y xs p ys q e (inl h) = let f = h.0 in inl (cc, h.1)
compared_more x y xs p ys q e (inr (inl (z, zs, f, g))) = inr (inl (z, zs, cc, g))
compared_more x y xs p ys q e (inr (inr (z, zs, f, g))) = inr (inr (z, zs, cc, g))

compare : (xs p ys q : List AdmittedItem) → xs ++ p ≡ ys ++ q → Compared xs p ys q
compare [] p [] q e = inl (refl, e)
compare [] p (y ∷ ys) q e = inr (inl (y, ys, refl, e))
compare (x ∷ xs) p [] q e = inr (inr (x, xs, refl, sym e))
compare (x ∷ xs) p (y ∷ ys) q e = let h = heads x y (xs ++ p) (ys ++ q) e in compared_more x y xs p ys q h.0 (compare xs p ys q h.1)

-- A LIST THAT GOES ON

-- of two or more, each is a call
calls : (xs : List AdmittedItem) (z : AdmittedItem) (zs : List AdmittedItem) → 0 < length xs → IsAlone (xs ++ z ∷ zs) → AllByRecursion IsCall (xs ++ z ∷ zs)
calls [] z zs h a = absurd (omega arith)
calls (x ∷ []) z zs h a = a
calls (x ∷ y ∷ xs) z zs h a = a

pub no_config : (x : AdmittedItem) → IsCall x → ((c : Config) × (x.piece ≡ piece.Config c)) → ⊥
no_config x (t, e) (c, f) = apart t c (sym e ∙ f)
  where
    apart : (t : Txn) (c : Config) → piece.Call t ≡ piece.Config c → ⊥
    apart t c e = cc

call_at : (xs : List AdmittedItem) (z : AdmittedItem) (zs : List AdmittedItem) → AllByRecursion IsCall (xs ++ z ∷ zs) → IsCall z
call_at [] z zs a = a.0
call_at (x ∷ xs) z zs a = call_at xs z zs a.1

one_txn : (x : AdmittedItem) → IsCall x → length (txns_in_piece x.piece) ≡ 1
one_txn x (t, e) = ap (λ p. length (txns_in_piece p)) e

pub count_calls : (xs : List AdmittedItem) → AllByRecursion IsCall xs → length (txns_in xs) ≡ length xs
count_calls [] a = refl
count_calls (x ∷ xs) a = omega (arith, length-append (txns_in_piece x.piece) (txns_in xs), one_txn x a.0, count_calls xs a.1)

unmarked : (xs : List AdmittedItem) (z : AdmittedItem) (zs : List AdmittedItem) → 0 < length xs → HasNoMark (xs ++ z ∷ zs) → last_marked xs ≡ false
unmarked [] z zs h m = absurd (omega arith)
unmarked (x ∷ []) z zs h m = m.0
unmarked (x ∷ y ∷ xs) z zs h m = unmarked (y ∷ xs) z zs (omega arith) m.1

bytes_more : (table : Table) (xs ys : List AdmittedItem) → bytes_in table xs ≤ bytes_in table (xs ++ ys)
bytes_more table xs ys =
    let a = flat_map-append (λ x. txns_in_piece x.piece) xs ys in
    let b = flat_map-append (txn_bytes table) (txns_in xs) (txns_in ys) in
    let c : bytes_in table (xs ++ ys) ≡ length (flat_map (txn_bytes table) (txns_in xs) ++ flat_map (txn_bytes table) (txns_in ys)) = ap (λ ts. length (flat_map (txn_bytes table) ts)) a ∙ ap length b in
    omega (arith, c, length-append (flat_map (txn_bytes table) (txns_in xs)) (flat_map (txn_bytes table) (txns_in ys)))

first_call : (xs ys : List AdmittedItem) → AllByRecursion IsCall (xs ++ ys) → BeginsWithConfig xs → ⊥
first_call [] ys a h = h
first_call (x ∷ xs) ys a h = no_config x a.0 h

front_of : (next : List AdmittedItem) (z : AdmittedItem) (more : List AdmittedItem) → next ≡ z ∷ more → front next ≡ z ∷ []
front_of next z more e = ap front e

-- no part ends where a part goes on
no_longer : (table : Table) (limits : CutLimits) (xs next : List AdmittedItem) (z : AdmittedItem) (zs more : List AdmittedItem) →
    IsPart table limits xs → IsPart table limits (xs ++ z ∷ zs) → next ≡ z ∷ more → EndsBefore table limits xs next → ⊥
no_longer table limits xs next z zs more one other e ends = by_cause ends
  where
    all : AllByRecursion IsCall (xs ++ z ∷ zs)
    all = calls xs z zs one.filled other.alone

    regroup : xs ++ z ∷ zs ≡ (xs ++ z ∷ []) ++ zs
    regroup = sym (append_assoc xs (z ∷ []) zs)

    by_count : length xs ≡ limits.txns → ⊥
    by_count h = omega (arith, h, other.few, count_calls (xs ++ z ∷ zs) all, length-append xs (z ∷ zs))

    by_bytes : limits.bytes < bytes_in table (xs ++ front next) → ⊥
    by_bytes h =
        let f : bytes_in table (xs ++ front next) ≡ bytes_in table (xs ++ z ∷ []) = ap (λ l. bytes_in table (xs ++ l)) (front_of next z more e) in
        let g : bytes_in table (xs ++ z ∷ zs) ≡ bytes_in table ((xs ++ z ∷ []) ++ zs) = ap (bytes_in table) regroup in
        omega (arith, h, f, g, other.small, bytes_more table (xs ++ z ∷ []) zs)

    by_config : BeginsWithConfig next → ⊥
    by_config h = no_config z (call_at xs z zs all) (subst BeginsWithConfig e h)

    by_cause : EndsBefore table limits xs next → ⊥
    by_cause (inl h) = first_call xs (z ∷ zs) all h
    by_cause (inr (inl h)) = by_count h
    by_cause (inr (inr (inl h))) = by_bytes h
    by_cause (inr (inr (inr (inl h)))) = true≢false (sym h ∙ unmarked xs z zs one.filled other.unmarked)
    by_cause (inr (inr (inr (inr h)))) = by_config h

-- what follows a part that another one goes beyond
no_first : (table : Table) (limits : CutLimits) (xs : List AdmittedItem) (rest : List (List AdmittedItem)) (z : AdmittedItem) (zs q : List AdmittedItem) →
    IsPart table limits xs → AllByRecursion (IsPart table limits) rest → EndRightly table limits (xs ∷ rest) → IsPart table limits (xs ++ z ∷ zs) → flat_map (λ l. l) rest ≡ z ∷ (zs ++ q) → ⊥
no_first table limits xs [] z zs q one parts ends other e = cc
no_first table limits xs ([] ∷ rest) z zs q one parts ends other e = let h = parts.0.filled in omega (arith, h)
no_first table limits xs ((y ∷ ys) ∷ rest) z zs q one parts ends other e =
    let h = heads y z (ys ++ flat_map (λ l. l) rest) (zs ++ q) e in
    no_longer table limits xs (y ∷ ys) z zs ys one other (ap (λ x. x ∷ ys) h.0) ends.0

flat_filled : (table : Table) (limits : CutLimits) (list : List AdmittedItem) (rest : List (List AdmittedItem)) → IsPart table limits list → list ++ flat_map (λ l. l) rest ≡ [] → ⊥
flat_filled table limits [] rest p e = let h = p.filled in omega (arith, h)
flat_filled table limits (x ∷ list) rest p e = cc

ends_later : (table : Table) (limits : CutLimits) (list : List AdmittedItem) (rest : List (List AdmittedItem)) → EndRightly table limits (list ∷ rest) → EndRightly table limits rest
ends_later table limits list [] e = tt
ends_later table limits list (next ∷ rest) e = e.1

pub same_lists : (table : Table) (limits : CutLimits) (one other : List (List AdmittedItem)) →
    AllByRecursion (IsPart table limits) one → AllByRecursion (IsPart table limits) other →
    EndRightly table limits one → EndRightly table limits other → flat_map (λ l. l) one ≡ flat_map (λ l. l) other → one ≡ other
same_lists table limits [] [] p q a b e = refl
same_lists table limits [] (y ∷ ys) p q a b e = absurd (flat_filled table limits y ys q.0 (sym e))
same_lists table limits (x ∷ xs) [] p q a b e = absurd (flat_filled table limits x xs p.0 e)
same_lists table limits (x ∷ xs) (y ∷ ys) p q a b e = by_case (compare x (flat_map (λ l. l) xs) y (flat_map (λ l. l) ys) e) (λ h. same_lists table limits xs ys p.1 q.1 (ends_later table limits x xs a) (ends_later table limits y ys b) h)
  where
    by_case : Compared x (flat_map (λ l. l) xs) y (flat_map (λ l. l) ys) → (flat_map (λ l. l) xs ≡ flat_map (λ l. l) ys → xs ≡ ys) → x ∷ xs ≡ y ∷ ys
    by_case (inl h) go = let f = h.0 in let g = go h.1 in cc
    by_case (inr (inl (z, zs, f, g))) go = absurd (no_first table limits x xs z zs (flat_map (λ l. l) ys) p.0 p.1 a (subst (IsPart table limits) f q.0) g)
    by_case (inr (inr (z, zs, f, g))) go = absurd (no_first table limits y ys z zs (flat_map (λ l. l) xs) q.0 q.1 b (subst (IsPart table limits) f p.0) g)

pub one_cutting : OneCutting
one_cutting table limits items one other a b = same_lists table limits one other a.parts b.parts a.ends b.ends (a.whole ∙ sym b.whole)
