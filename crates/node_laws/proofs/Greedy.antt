-- Each list of admitted items has a cutting: item by item, a list is closed where it has to end before the next item.
use Rattle.std.specs.Prelude.{ℕ, ◌==◌, ◌<◌, ◌≤◌, Bool, true, false, ◌||◌, cond, if◌then◌else◌, List, [], ◌∷◌, ◌++◌, length, ◌≡◌, refl, suc, nat_lt}
use Rattle.std.specs.List.{AllByRecursion, flat_map}
use Rattle.std.proofs.Common.{sym, ◌∙◌, ap, arith, subst, inl, inr, append_assoc, append-nil, ◌⊎◌}
use Rattle.std.proofs.lemmas.Bool.{true≢false, false≢true, eqb-true, eq-eqb, or_parts, or_cases}
use Rattle.std.proofs.lemmas.Bool.Decides.{nat_tests}
use Rattle.std.proofs.lemmas.List.{length-append}
use Rattle.txn_types.specs.declared.stream.Piece.TheVariants as piece
use Rattle.node_defs.specs.Cutting.{AdmittedItem, EndRightly, EndsBefore, HasNoMark, IsAlone, IsCall, IsCutting, IsPart, bytes_in, BeginsWithConfig, last_marked, txns_in, txns_in_piece}
use Rattle.node_laws.proofs.Cuttings.{count_calls}
use Rattle.node_laws.proofs.Ends.{ends}
use Rattle.oxii_defs.specs.BlockBytes.{txn_bytes}
use Rattle.oxii_defs.specs.Table.{Table}
use Rattle.txn_types.specs.declared.block.Config.{Config}
use Rattle.txn_types.specs.declared.stream.CutLimits.{CutLimits}
use Rattle.txn_types.specs.declared.stream.Piece.{Piece}

is_config : Piece → Bool
is_config (piece.Call t) = false
is_config (piece.Config c) = true

starts_config : List AdmittedItem → Bool
starts_config [] = false
starts_config (x ∷ rest) = is_config x.piece

call_of : (x : AdmittedItem) → is_config x.piece ≡ false → IsCall x
unfolding is_config
call_of x e = go x.piece refl e
  where
    go : (p : Piece) → x.piece ≡ p → is_config p ≡ false → IsCall x
    go (piece.Call t) q k = (t, q)
    go (piece.Config c) q k = absurd (true≢false k)

config_of : (x : AdmittedItem) → is_config x.piece ≡ true → (c : Config) × (x.piece ≡ piece.Config c)
unfolding is_config
config_of x e = go x.piece refl e
  where
    go : (p : Piece) → x.piece ≡ p → is_config p ≡ true → (c : Config) × (x.piece ≡ piece.Config c)
    go (piece.Call t) q k = absurd (false≢true k)
    go (piece.Config c) q k = (c, q)

starts_with : (xs : List AdmittedItem) → starts_config xs ≡ true → BeginsWithConfig xs
unfolding starts_config
starts_with [] e = absurd (false≢true e)
starts_with (x ∷ rest) e = config_of x e

module _ (table : Table) (limits : CutLimits) where
  -- a list has to end before an item
  abbrev closes : List AdmittedItem → AdmittedItem → Bool
  closes xs x = starts_config xs || ((length xs == limits.txns) || (nat_lt limits.bytes (bytes_in table (xs ++ x ∷ [])) || (last_marked xs || is_config x.piece)))

  abbrev cut_from : List AdmittedItem → List AdmittedItem → List (List AdmittedItem)
  cut_from xs [] = xs ∷ []
  cut_from xs (x ∷ rest) = if closes xs x then xs ∷ cut_from (x ∷ []) rest else cut_from (xs ++ x ∷ []) rest

  why : (xs : List AdmittedItem) (x : AdmittedItem) (w : List AdmittedItem) → closes xs x ≡ true → EndsBefore table limits xs (x ∷ w)
  why xs x w h = one (or_cases _ _ h)
    where
      four : (last_marked xs ≡ true) ⊎ (is_config x.piece ≡ true) → EndsBefore table limits xs (x ∷ w)
      four (inl k) = inr (inr (inr (inl k)))
      four (inr k) = inr (inr (inr (inr (config_of x k))))

      three : (nat_lt limits.bytes (bytes_in table (xs ++ x ∷ [])) ≡ true) ⊎ ((last_marked xs || is_config x.piece) ≡ true) → EndsBefore table limits xs (x ∷ w)
      three (inl k) = inr (inr (inl (grind (arith, nat_tests, k))))
      three (inr k) = four (or_cases _ _ k)

      two : ((length xs == limits.txns) ≡ true) ⊎ ((nat_lt limits.bytes (bytes_in table (xs ++ x ∷ [])) || (last_marked xs || is_config x.piece)) ≡ true) → EndsBefore table limits xs (x ∷ w)
      two (inl k) = inr (inl (eqb-true (length xs) limits.txns k))
      two (inr k) = three (or_cases _ _ k)

      one : (starts_config xs ≡ true) ⊎ (((length xs == limits.txns) || (nat_lt limits.bytes (bytes_in table (xs ++ x ∷ [])) || (last_marked xs || is_config x.piece))) ≡ true) → EndsBefore table limits xs (x ∷ w)
      one (inl k) = inl (starts_with xs k)
      one (inr k) = two (or_cases _ _ k)

  -- a list of calls, longer by one
  calls_push : (xs : List AdmittedItem) (x : AdmittedItem) → AllByRecursion IsCall xs → IsCall x → AllByRecursion IsCall (xs ++ x ∷ [])
  calls_push [] x a h = (h, tt)
  calls_push (y ∷ ys) x a h = (a.0, calls_push ys x a.1 h)

  all_calls : (xs : List AdmittedItem) → starts_config xs ≡ false → IsAlone xs → AllByRecursion IsCall xs
  unfolding starts_config
  all_calls [] e a = tt
  all_calls (x ∷ []) e a = (call_of x e, tt)
  all_calls (x ∷ y ∷ rest) e a = a

  alone_push : (xs : List AdmittedItem) (x : AdmittedItem) → 0 < length xs → AllByRecursion IsCall (xs ++ x ∷ []) → IsAlone (xs ++ x ∷ [])
  alone_push [] x h a = tt
  alone_push (y ∷ []) x h a = a
  alone_push (y ∷ z ∷ rest) x h a = a

  unmarked_push : (xs : List AdmittedItem) (x : AdmittedItem) → last_marked xs ≡ false → HasNoMark xs → HasNoMark (xs ++ x ∷ [])
  unmarked_push [] x e m = tt
  unmarked_push (y ∷ []) x e m = (e, tt)
  unmarked_push (y ∷ z ∷ rest) x e m = (m.0, unmarked_push (z ∷ rest) x e m.1)

  part_push : (xs : List AdmittedItem) (x : AdmittedItem) → IsPart table limits xs → closes xs x ≡ false → IsPart table limits (xs ++ x ∷ [])
  part_push xs x part h =
      let p1 = or_parts (starts_config xs) _ h in
      let p2 = or_parts (length xs == limits.txns) _ p1.1 in
      let p3 = or_parts (nat_lt limits.bytes (bytes_in table (xs ++ x ∷ []))) _ p2.1 in
      let p4 = or_parts (last_marked xs) (is_config x.piece) p3.1 in
      let cs = calls_push xs x (all_calls xs p1.0 part.alone) (call_of x p4.1) in
      let all = count_calls (xs ++ x ∷ []) cs in
      let some = count_calls xs (all_calls xs p1.0 part.alone) in
      let n = length-append xs (x ∷ []) in
      let other : (length xs ≡ limits.txns) → ⊥ = λ e. true≢false (sym (eq-eqb (length xs) limits.txns e) ∙ p2.0) in
      record {
        filled = omega (arith, n);
        alone = alone_push xs x part.filled cs;
        few = not_equal (length xs) limits.txns (length (txns_in (xs ++ x ∷ []))) other (omega (arith, some, part.few)) (omega (arith, all, n));
        small = grind (arith, nat_tests, p3.0);
        unmarked = unmarked_push xs x p4.0 part.unmarked;
      }
    where
      not_equal : (a b c : ℕ) → (a ≡ b → ⊥) → a ≤ b → c ≡ suc a → c ≤ b
      not_equal a b c other le e = grind (arith, other)

  abbrev Fits : List AdmittedItem → Type 0
  Fits items = AllByRecursion (λ t. length (txn_bytes table t) ≤ limits.bytes) (txns_in items)

  first_part : (x : AdmittedItem) → 0 < limits.txns → Fits (x ∷ []) → IsPart table limits (x ∷ [])
  first_part x one fits = record { filled = omega arith; alone = tt; few = few x.piece; small = small x.piece fits; unmarked = tt }
    where
      few : (p : Piece) → length (txns_in_piece p ++ []) ≤ limits.txns
      few (piece.Call t) = omega arith
      few (piece.Config c) = omega arith

      small : (p : Piece) → AllByRecursion (λ t. length (txn_bytes table t) ≤ limits.bytes) (txns_in_piece p ++ []) → length (flat_map (txn_bytes table) (txns_in_piece p ++ [])) ≤ limits.bytes
      small (piece.Call t) f = let e = ap length (append-nil (txn_bytes table t)) in omega (arith, e, f.0)
      small (piece.Config c) f = omega arith

  fits_first : (x : AdmittedItem) (rest : List AdmittedItem) → Fits (x ∷ rest) → Fits (x ∷ []) × Fits rest
  fits_first x rest fits = go x.piece fits
    where
      go : (p : Piece) → AllByRecursion (λ t. length (txn_bytes table t) ≤ limits.bytes) (txns_in_piece p ++ txns_in rest) → AllByRecursion (λ t. length (txn_bytes table t) ≤ limits.bytes) (txns_in_piece p ++ []) × Fits rest
      go (piece.Call t) f = ((f.0, tt), f.1)
      go (piece.Config c) f = (tt, f)

  -- a cutting of what stands in the open list and of the rest, that begins with the open list
  record IsCutFrom (xs rest : List AdmittedItem) (lists : List (List AdmittedItem)) : Type 0 where
    whole : flat_map (λ l. l) lists ≡ xs ++ rest
    parts : AllByRecursion (IsPart table limits) lists
    ends : EndRightly table limits lists
    next : List AdmittedItem
    more : List (List AdmittedItem)
    begins : lists ≡ (xs ++ next) ∷ more

  ends_after : (xs : List AdmittedItem) (x : AdmittedItem) (lists more : List (List AdmittedItem)) (next : List AdmittedItem) → lists ≡ (x ∷ next) ∷ more → closes xs x ≡ true → EndRightly table limits lists → EndRightly table limits (xs ∷ lists)
  ends_after xs x lists more next e h ends = subst (λ l. EndRightly table limits l → EndRightly table limits (xs ∷ l)) (sym e) (λ k. (why xs x next h, k)) ends

  cut_well : (rest : List AdmittedItem) (xs : List AdmittedItem) → 0 < limits.txns → IsPart table limits xs → Fits rest → IsCutFrom xs rest (cut_from xs rest)
  cut_well [] xs one part fits = record { whole = refl; parts = (part, tt); ends = tt; next = []; more = []; begins = ap (λ l. l ∷ []) (sym (append-nil xs)) }
  cut_well (x ∷ rest) xs one part fits =
      let f = fits_first x rest fits in
      by_case (closes xs x) refl (cut_well rest (x ∷ []) one (first_part x one f.0) f.1) (λ h. cut_well rest (xs ++ x ∷ []) one (part_push xs x part h) f.1)
    where
      by_case : (b : Bool) → closes xs x ≡ b → IsCutFrom (x ∷ []) rest (cut_from (x ∷ []) rest) → (closes xs x ≡ false → IsCutFrom (xs ++ x ∷ []) rest (cut_from (xs ++ x ∷ []) rest)) →
          IsCutFrom xs (x ∷ rest) (cond b (xs ∷ cut_from (x ∷ []) rest) (cut_from (xs ++ x ∷ []) rest))
      by_case true e a go = record {
        whole = ap (λ l. xs ++ l) a.whole;
        parts = (part, a.parts);
        ends = ends_after xs x (cut_from (x ∷ []) rest) a.more a.next a.begins e a.ends;
        next = [];
        more = cut_from (x ∷ []) rest;
        begins = ap (λ l. l ∷ cut_from (x ∷ []) rest) (sym (append-nil xs));
      }
      by_case false e a go =
          let r = go e in
          record {
            whole = r.whole ∙ append_assoc xs (x ∷ []) rest;
            parts = r.parts;
            ends = r.ends;
            next = x ∷ r.next;
            more = r.more;
            begins = r.begins ∙ ap (λ l. l ∷ r.more) (append_assoc xs (x ∷ []) r.next);
          }

  pub cut_all : (items : List AdmittedItem) → 0 < limits.txns → Fits items → (lists : List (List AdmittedItem)) × IsCutting table limits items lists
  cut_all [] one fits = ([], record { whole = refl; parts = tt; ends = tt })
  cut_all (x ∷ rest) one fits =
      let f = fits_first x rest fits in
      let r = cut_well rest (x ∷ []) one (first_part x one f.0) f.1 in
      (cut_from (x ∷ []) rest, record { whole = r.whole; parts = r.parts; ends = r.ends })
