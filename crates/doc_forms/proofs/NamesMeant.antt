-- A list of new names gives Ok exactly where its items are names that differ.
use Rattle.std.proofs.Common.{◌≡◌, ◌⊎◌, inl, inr, ℕ, Bool, true, false, ◌||◌, List, [], ◌∷◌, ◌++◌, Option, Some, Ok, Contains, refl, sym, ap, subst, ◌∙◌, append_assoc, append-nil}
use Rattle.std.specs.Bool.{Decides}
use Rattle.std.specs.List.{list_any}
use Rattle.std.specs.Str.{bytes_eq}
use Rattle.std.proofs.lemmas.Bool.Decides.{Decides-by_or, not_from_Decides}
use Rattle.std.proofs.lemmas.Slice.Eq.{bytes_eq-Decides}
use Rattle.std.proofs.lemmas.List.Elements.{Decides-contains, Contains-append_left, Contains-append_right, Contains-append_cases, Contains-push_cases}
use Rattle.serde_json.specs.Data.{Data, Members}
use Rattle.serde_json.specs.Find.{get_member}
use Rattle.oxii_defs.specs.NameLists.{AllDiffer}
use Rattle.doc_forms.specs.declared.fault.Which.{Which}
use Rattle.doc_forms.specs.Faults.{Double}
use Rattle.doc_forms.specs.Forms.{items, list_at, name, is_listed}
use Rattle.doc_forms.specs.Tables.{new_name}
use Rattle.doc_forms.specs.Meaning.{HasNames, HasList, SaysName}
use Rattle.doc_forms.proofs.Meant.{bind_ok, failed, same_ok, name_means, name_reads}
use Rattle.doc_forms.proofs.EachMeant.{IsStep, ListGave, AllFresh, at_end, all_at_end, items_mean, items_read, list_at_means, list_at_reads}
use Rattle.doc_forms.proofs.Listed.{listed_decides}
use Rattle.doc_forms.proofs.SortedOnce.{first_there, later_there, there_cases, none_there}

-- ---- names that differ

pub differ_at_end : (xs : List (List ℕ)) (x : List ℕ) → AllDiffer xs → ¬ Contains xs x → AllDiffer (xs ++ x ∷ [])
differ_at_end [] x h new = (none_there x, tt)
differ_at_end (y ∷ ys) x h new =
    (λ found. by_place (Contains-push_cases ys x y found), differ_at_end ys x h.1 (λ found. new (later_there y ys x found)))
  where
    by_place : Contains ys y ⊎ (x ≡ y) → ⊥
    by_place (inl found) = h.0 found
    by_place (inr same) = new (subst (Contains (y ∷ ys)) (sym same) (first_there y ys))

-- a name between others is not among those before it
pub differ_before : (xs : List (List ℕ)) (y : List ℕ) (ys : List (List ℕ)) → AllDiffer (xs ++ y ∷ ys) → ¬ Contains xs y
differ_before [] y ys h = none_there y
differ_before (x ∷ xs) y ys h = λ found. by_place (differ_before xs y ys h.1) (there_cases x xs y found)
  where
    by_place : ¬ Contains xs y → (x ≡ y) ⊎ Contains xs y → ⊥
    by_place before (inl same) = h.0 (subst (Contains (xs ++ y ∷ ys)) (sym same) (Contains-append_right xs (y ∷ ys) y (first_there y ys)))
    by_place before (inr found) = before found

-- ---- one new name

-- the name is neither among the taken ones nor among those before it
abbrev pub IsNewName : List (List ℕ) → List (List ℕ) → List ℕ → Type 0
IsNewName taken done x = (is_listed taken x || is_listed done x) ≡ false

neither : (a b : Bool) → (a || b) ≡ false → (a ≡ false) × (b ≡ false)
neither true b e = absurd cc
neither false b e = (refl, e)

no_true : (b : Bool) → ¬ (b ≡ true) → b ≡ false
no_true true h = absurd (h refl)
no_true false h = refl

pub new_is_absent : (taken done : List (List ℕ)) (x : List ℕ) → IsNewName taken done x → ¬ Contains (taken ++ done) x
new_is_absent taken done x new = λ found. by_place (Contains-append_cases taken done x found)
  where
    by_place : Contains taken x ⊎ Contains done x → ⊥
    by_place (inl found) = not_from_Decides _ (listed_decides taken x) (neither _ _ new).0 found
    by_place (inr found) = not_from_Decides _ (listed_decides done x) (neither _ _ new).1 found

pub absent_is_new : (taken done : List (List ℕ)) (x : List ℕ) → ¬ Contains (taken ++ done) x → IsNewName taken done x
absent_is_new taken done x absent =
    rw (no_true (is_listed taken x) (λ e. absent (Contains-append_left taken done x ((listed_decides taken x).0 e))))
    (no_true (is_listed done x) (λ e. absent (Contains-append_right taken done x ((listed_decides done x).0 e))))

-- what is done with one item
pub name_step : (taken : List (List ℕ)) → IsStep (new_name taken) SaysName at_end (IsNewName taken)
unfolding new_name
name_step taken = record {
  means = λ done more d e.
      let a = bind_ok (name (Some d)) _ more e in
      let f = failed (is_listed taken a.0 || is_listed done a.0) (Ok (done ++ a.0 ∷ [])) more (Double []) a.2 in
      (a.0, name_means (Some d) a.0 a.1, f.0, same_ok (done ++ a.0 ∷ []) more (Ok (done ++ a.0 ∷ [])) refl f.1);
  reads = λ done d x says new. rw (name_reads (Some d) x says, new) refl;
}

-- ---- the names of a list

added : (taken done : List (List ℕ)) (x : List ℕ) (xs : List (List ℕ)) → taken ++ (done ++ x ∷ xs) ≡ taken ++ ((done ++ x ∷ []) ++ xs)
added taken done x xs = ap (λ l. taken ++ l) (sym (append_assoc done (x ∷ []) xs))

new_differ : (taken done xs : List (List ℕ)) → AllDiffer (taken ++ done) → AllFresh at_end (IsNewName taken) done xs → AllDiffer (taken ++ (done ++ xs))
new_differ taken done [] h fresh = subst (λ l. AllDiffer (taken ++ l)) (sym (append-nil done)) h
new_differ taken done (x ∷ xs) h fresh =
    let one : AllDiffer (taken ++ (done ++ x ∷ [])) = subst AllDiffer (append_assoc taken done (x ∷ [])) (differ_at_end (taken ++ done) x h (new_is_absent taken done x fresh.0)) in
    subst AllDiffer (sym (added taken done x xs)) (new_differ taken (done ++ x ∷ []) xs one fresh.1)

differ_new : (taken done xs : List (List ℕ)) → AllDiffer (taken ++ (done ++ xs)) → AllFresh at_end (IsNewName taken) done xs
differ_new taken done [] h = tt
differ_new taken done (x ∷ xs) h = (
  absent_is_new taken done x (differ_before (taken ++ done) x xs (subst AllDiffer (sym (append_assoc taken done (x ∷ xs))) h)),
  differ_new taken (done ++ x ∷ []) xs (subst AllDiffer (added taken done x xs) h),
)

of_list : (taken : List (List ℕ)) (low high : ℕ) (v : Option Data) (names : List (List ℕ)) → AllDiffer taken → ListGave SaysName at_end (IsNewName taken) low high [] v names → HasNames taken low high v names
of_list taken low high v names taken_differ g =
    let is : g.xs ≡ names = sym (all_at_end [] g.xs) ∙ g.is in
    record {
      list = subst (HasList SaysName low high v) is g.list;
      differ = subst (λ l. AllDiffer (taken ++ l)) is (new_differ taken [] g.xs (subst AllDiffer (sym (append-nil taken)) taken_differ) g.fresh);
    }

pub names_mean : (taken : List (List ℕ)) (low high : ℕ) (w : Which) (v : Option Data) (names : List (List ℕ)) → AllDiffer taken → items low high w (new_name taken) [] v ≡ Ok names → HasNames taken low high v names
names_mean taken low high w v names taken_differ e = of_list taken low high v names taken_differ (items_mean (new_name taken) SaysName at_end (IsNewName taken) (name_step taken) low high w [] v names e)

pub names_read : (taken : List (List ℕ)) (low high : ℕ) (w : Which) (v : Option Data) (names : List (List ℕ)) → HasNames taken low high v names → items low high w (new_name taken) [] v ≡ Ok names
names_read taken low high w v names h = items_read (new_name taken) SaysName at_end (IsNewName taken) (name_step taken) low high w [] v names h.list (differ_new taken [] names h.differ) ∙ ap Ok (all_at_end [] names)

pub names_at_mean : (taken : List (List ℕ)) (k : List ℕ) (low high : ℕ) (w : Which) (ms : Members) (names : List (List ℕ)) → AllDiffer taken → list_at k low high w (new_name taken) [] ms ≡ Ok names → HasNames taken low high (get_member k ms) names
names_at_mean taken k low high w ms names taken_differ e =
    of_list taken low high (get_member k ms) names taken_differ (list_at_means (new_name taken) SaysName at_end (IsNewName taken) (name_step taken) k low high w [] ms names e)

pub names_at_read : (taken : List (List ℕ)) (k : List ℕ) (low high : ℕ) (w : Which) (ms : Members) (names : List (List ℕ)) → HasNames taken low high (get_member k ms) names → list_at k low high w (new_name taken) [] ms ≡ Ok names
names_at_read taken k low high w ms names h =
    list_at_reads (new_name taken) SaysName at_end (IsNewName taken) (name_step taken) k low high w [] ms names h.list (differ_new taken [] names h.differ) ∙ ap Ok (all_at_end [] names)
