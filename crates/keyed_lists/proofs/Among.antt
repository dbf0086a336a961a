-- One item more among others.
use Rattle.std.specs.Prelude.{Bool, true, false, cond, List, [], ◌∷◌, ◌++◌, map, Some, unwrap_or, Contains}
use Rattle.std.specs.Map.{lookup}
use Rattle.std.specs.List.{All}
use Rattle.std.proofs.Common.{ap, subst, sym, ◌∙◌}
use Rattle.std.proofs.lemmas.List.{map-append}
use Rattle.std.proofs.lemmas.List.Elements.{All-cons, All-head, All-tail, Contains-append_left, Contains-append_right}
use Rattle.keyed_lists.specs.Keyed.{IsPutAmong, items_of, list_at}

-- what is read of each
pub among-map : {T U : Type 0} (f : T → U) (xs : List T) (x : T) (ys : List T) → IsPutAmong xs x ys → IsPutAmong (map f xs) (f x) (map f ys)
among-map f xs x ys p = record {
  before = map f p.before;
  behind = map f p.behind;
  were = ap (map f) p.were ∙ map-append f p.before p.behind;
  are = ap (map f) p.are ∙ map-append f p.before (x ∷ p.behind);
}

-- what stands at a key is one of all items
pub items_have : {K T : Type 0} (test : K → Bool) (lists : List (K × List T)) (x : T) → Contains (list_at test lists) x → Contains (items_of lists) x
items_have test [] x h = h
items_have {K} {T} test (l ∷ rest) x h = one (test l.0) h (items_have test rest x)
  where
    one : (b : Bool) → Contains (unwrap_or (cond b (Some l.1) (lookup test rest)) []) x → (Contains (list_at test rest) x → Contains (items_of rest) x) → Contains (items_of (l ∷ rest)) x
    one true k more = Contains-append_left l.1 (items_of rest) x k
    one false k more = Contains-append_right l.1 (items_of rest) x (more k)

-- what holds of the items and of the one more holds of all
pub All-among : {T : Type 0} (P : T → Type 0) (xs : List T) (x : T) (ys : List T) → IsPutAmong xs x ys → All P xs → P x → All P ys
All-among {T} P xs x ys p all one = subst (All P) (sym p.are) (put p.before (subst (All P) p.were all))
  where
    put : (before : List T) → All P (before ++ p.behind) → All P (before ++ x ∷ p.behind)
    put [] h = All-cons P x p.behind one h
    put (y ∷ rest) h = All-cons P y (rest ++ x ∷ p.behind) (All-head P y (rest ++ p.behind) h) (put rest (All-tail P y (rest ++ p.behind) h))
