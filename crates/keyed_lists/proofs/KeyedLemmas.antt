-- An item more at a key, as a map takes it.
use Rattle.std.specs.Prelude.{◌≡◌, Bool, true, false, cond, List, [], ◌∷◌, ◌++◌, Some, None, unwrap_or, refl}
use Rattle.std.specs.declared.cmp.Ordering.{Ordering}
use Rattle.std.specs.declared.cmp.Ordering.TheVariants.{Less, Equal, Greater}
use Rattle.std.specs.Ordering.{eq_by_cmp, is_eq, match_ordering}
use Rattle.std.specs.Map.{lookup, set_value}
use Rattle.std.specs.BTreeMap.{insert_entry}
use Rattle.std.proofs.Common.{sym, ◌∙◌, ap, subst}
use Rattle.std.proofs.lemmas.List.{append_assoc}
use Rattle.std.proofs.lemmas.Option.{none-some, same_Some}
use Rattle.keyed_lists.specs.Keyed.{IsPutAmong, IsPushed, items_of, list_at}

-- with more items in front
behind_more : {T : Type 0} (front xs : List T) (x : T) (ys : List T) → IsPutAmong xs x ys → IsPutAmong (front ++ xs) x (front ++ ys)
behind_more front xs x ys p = record {
  before = front ++ p.before;
  behind = p.behind;
  were = ap (λ zs. front ++ zs) p.were ∙ sym (append_assoc front p.before p.behind);
  are = ap (λ zs. front ++ zs) p.are ∙ sym (append_assoc front p.before (x ∷ p.behind));
}

-- where the key has a list
pub set_among : {K T : Type 0} (test : K → Bool) (lists : List (K × List T)) (list : List T) (x : T) → lookup test lists ≡ Some list → IsPutAmong (items_of lists) x (items_of (set_value test lists (list ++ x ∷ [])))
set_among test [] list x h = absurd (none-some list h)
set_among {K} {T} test (l ∷ rest) list x h = one (test l.0) h (set_among test rest list x)
  where
    one : (b : Bool) → cond b (Some l.1) (lookup test rest) ≡ Some list → (lookup test rest ≡ Some list → IsPutAmong (items_of rest) x (items_of (set_value test rest (list ++ x ∷ [])))) → IsPutAmong (l.1 ++ items_of rest) x (items_of (cond b ((l.0, list ++ x ∷ []) ∷ rest) (l ∷ set_value test rest (list ++ x ∷ []))))
    one true e more = record {
      before = list;
      behind = items_of rest;
      were = ap (λ zs. zs ++ items_of rest) (same_Some l.1 list e);
      are = append_assoc list (x ∷ []) (items_of rest);
    }
    one false e more = behind_more l.1 (items_of rest) x _ (more e)

-- where it has none
pub insert_among : {K T : Type 0} (cmp : K → K → Ordering) (lists : List (K × List T)) (key : K) (x : T) → lookup (eq_by_cmp cmp key) lists ≡ None → IsPutAmong (items_of lists) x (items_of (insert_entry cmp lists key (x ∷ [])))
insert_among cmp [] key x h = record { before = []; behind = []; were = refl; are = refl }
insert_among {K} {T} cmp (l ∷ rest) key x h = one (cmp key l.0) h (insert_among cmp rest key x)
  where
    one : (r : Ordering) → cond (is_eq r) (Some l.1) (lookup (eq_by_cmp cmp key) rest) ≡ None → (lookup (eq_by_cmp cmp key) rest ≡ None → IsPutAmong (items_of rest) x (items_of (insert_entry cmp rest key (x ∷ [])))) → IsPutAmong (l.1 ++ items_of rest) x (items_of (match_ordering r ((key, x ∷ []) ∷ l ∷ rest) ((l.0, x ∷ []) ∷ rest) (l ∷ insert_entry cmp rest key (x ∷ []))))
    one Less e more = record { before = []; behind = l.1 ++ items_of rest; were = refl; are = refl }
    one Equal e more = absurd (none-some l.1 (sym e))
    one Greater e more = behind_more l.1 (items_of rest) x _ (more e)

-- what stands at a key behind an update
at_more : {K T : Type 0} (cmp : K → K → Ordering) (old new : List (K × List T)) (key : K) (list : List T) → ((q : K) → lookup (eq_by_cmp cmp q) new ≡ cond (eq_by_cmp cmp key q) (Some list) (lookup (eq_by_cmp cmp q) old)) → (q : K) →
    list_at (eq_by_cmp cmp q) new ≡ cond (eq_by_cmp cmp key q) list (list_at (eq_by_cmp cmp q) old)
at_more {K} {T} cmp old new key list h q = ap (λ o. unwrap_or o []) (h q) ∙ one (eq_by_cmp cmp key q)
  where
    one : (b : Bool) → unwrap_or (cond b (Some list) (lookup (eq_by_cmp cmp q) old)) [] ≡ cond b list (list_at (eq_by_cmp cmp q) old)
    one true = refl
    one false = refl

-- an item behind those of a list that the key has
pub pushed_there : {K T : Type 0} (cmp : K → K → Ordering) (old new : List (K × List T)) (key : K) (list more : List T) (x : T) → lookup (eq_by_cmp cmp key) old ≡ Some list → more ≡ list ++ x ∷ [] → new ≡ set_value (eq_by_cmp cmp key) old more
    → ((q : K) → lookup (eq_by_cmp cmp q) new ≡ cond (eq_by_cmp cmp key q) (Some more) (lookup (eq_by_cmp cmp q) old)) → IsPushed cmp old key x new
pushed_there cmp old new key list more x found longer written looked = record {
  at = λ q. at_more cmp old new key more looked q ∙ ap (λ ys. cond (eq_by_cmp cmp key q) ys (list_at (eq_by_cmp cmp q) old)) (longer ∙ ap (λ o. unwrap_or o [] ++ x ∷ []) (sym found));
  among = subst (λ ls. IsPutAmong (items_of old) x (items_of ls)) (sym (written ∙ ap (set_value (eq_by_cmp cmp key) old) longer)) (set_among (eq_by_cmp cmp key) old list x found);
}

-- the first item at a key
pub pushed_first : {K T : Type 0} (cmp : K → K → Ordering) (old new : List (K × List T)) (key : K) (list : List T) (x : T) → lookup (eq_by_cmp cmp key) old ≡ None → list ≡ x ∷ [] → new ≡ insert_entry cmp old key list
    → ((q : K) → lookup (eq_by_cmp cmp q) new ≡ cond (eq_by_cmp cmp key q) (Some list) (lookup (eq_by_cmp cmp q) old)) → IsPushed cmp old key x new
pushed_first cmp old new key list x absent one put looked = record {
  at = λ q. at_more cmp old new key list looked q ∙ ap (λ ys. cond (eq_by_cmp cmp key q) ys (list_at (eq_by_cmp cmp q) old)) (one ∙ ap (λ o. unwrap_or o [] ++ x ∷ []) (sym absent));
  among = subst (λ ls. IsPutAmong (items_of old) x (items_of ls)) (sym (put ∙ ap (insert_entry cmp old key) one)) (insert_among cmp old key x absent);
}
