-- A set gives Ok exactly where its items lead to these entries, each once.
use Rattle.std.proofs.Common.{◌≡◌, ◌≢◌, ◌⊎◌, inl, inr, ◌↔◌, ℕ, suc, ◌+◌, ◌<◌, ◌≤◌, Bool, true, false, not, ◌||◌, ◌&&◌, cond, nat_lt, ◌==◌, List, [], ◌∷◌, ◌++◌, length, map, take, drop, Option, Some, None, Ok, Contains, refl, sym, ap, subst, ◌∙◌, arith}
use Rattle.std.specs.Bool.{Decides}
use Rattle.std.specs.List.{All, list_any, count_by, insert}
use Rattle.std.proofs.lemmas.Bool.{ltb-true}
use Rattle.std.proofs.lemmas.Bool.Decides.{Decides-by_and, Decides-not, Decides-eqb, Decides-ltb}
use Rattle.std.proofs.lemmas.List.{take-append-drop}
use Rattle.std.proofs.lemmas.List.Edits.{length-insert}
use Rattle.std.proofs.lemmas.List.Sums.{sum_by-cons, count_by-le-length}
use Rattle.std.proofs.lemmas.List.Elements.{All-nil, All-cons, All-head, All-tail, All-append, All-take, All-drop, All-contains, All-weaker, Contains-append_left, Contains-append_right, Contains-append_cases}
use Rattle.serde_json.specs.Data.{Data, Items, no_items, item, Members}
use Rattle.serde_json.specs.Find.{get_member}
use Rattle.serde_json.specs.Events.{items_len}
use Rattle.txn_types.specs.Rising.{IsRising}
use Rattle.doc_forms.specs.declared.fault.Which.{Which}
use Rattle.doc_forms.specs.Faults.{Double}
use Rattle.doc_forms.specs.Forms.{items, list_at}
use Rattle.doc_forms.specs.Tables.{has_rank, count_below, put_in, reference, new_reference}
use Rattle.doc_forms.specs.Meaning.{HasSet, RanksDiffer, SaysEntry, EachSays}
use Rattle.doc_forms.proofs.Meant.{bind_ok, failed, same_ok, reference_means, reference_reads}
use Rattle.doc_forms.proofs.LookUps.{Finds}
use Rattle.doc_forms.proofs.EachMeant.{IsStep, ListGave, AllFresh, put_all, items_mean, items_read, list_at_means, list_at_reads}
use Rattle.doc_forms.proofs.SortedOnce.{SortedBy, IsAsymmetric, sorted_once, all_of, first_there, later_there, there_cases, none_there}

-- ---- an entry put into a list

pub inserted_there : {E : Type 0} (xs : List E) (i : ℕ) (e : E) → Contains (insert xs i e) e
inserted_there xs i e = Contains-append_right (take i xs) (e ∷ drop i xs) e (first_there e (drop i xs))

pub kept_there : {E : Type 0} (xs : List E) (i : ℕ) (e z : E) → Contains xs z → Contains (insert xs i e) z
kept_there xs i e z h = by_part (Contains-append_cases (take i xs) (drop i xs) z (subst (λ (l : _). Contains l z) (sym (take-append-drop i xs)) h))
  where
    by_part : Contains (take i xs) z ⊎ Contains (drop i xs) z → Contains (insert xs i e) z
    by_part (inl front) = Contains-append_left (take i xs) (e ∷ drop i xs) z front
    by_part (inr back) = Contains-append_right (take i xs) (e ∷ drop i xs) z (later_there e (drop i xs) z back)

pub insert_cases : {E : Type 0} (xs : List E) (i : ℕ) (e z : E) → Contains (insert xs i e) z → (e ≡ z) ⊎ Contains xs z
insert_cases xs i e z h = by_part (Contains-append_cases (take i xs) (e ∷ drop i xs) z h)
  where
    whole : Contains (take i xs ++ drop i xs) z → Contains xs z
    whole h = subst (λ (l : _). Contains l z) (take-append-drop i xs) h

    behind : (e ≡ z) ⊎ Contains (drop i xs) z → (e ≡ z) ⊎ Contains xs z
    behind (inl same) = inl same
    behind (inr back) = inr (whole (Contains-append_right (take i xs) (drop i xs) z back))

    by_part : Contains (take i xs) z ⊎ Contains (e ∷ drop i xs) z → (e ≡ z) ⊎ Contains xs z
    by_part (inl front) = inr (whole (Contains-append_left (take i xs) (drop i xs) z front))
    by_part (inr back) = behind (there_cases e (drop i xs) z back)

all_inserted : {E : Type 0} (P : E → Type 0) (xs : List E) (i : ℕ) (e : E) → P e → All P xs → All P (insert xs i e)
all_inserted P xs i e here all = All-append P (take i xs) (e ∷ drop i xs) (All-take P i xs all) (All-cons P e (drop i xs) here (All-drop P i xs all))

-- ---- ranks

-- one entry has a lower rank than the other
abbrev pub IsLower : {E : Type 0} → (E → ℕ) → E → E → Type 0
IsLower rank a b = rank a < rank b

pub lower_one_way : {E : Type 0} (rank : E → ℕ) → IsAsymmetric (IsLower rank)
lower_one_way rank a b h = λ back. absurd (omega (arith, h, back))

pub sorted_rises : {E : Type 0} (rank : E → ℕ) (xs : List E) → SortedBy (IsLower rank) xs → IsRising (map rank xs)
sorted_rises rank [] h = tt
sorted_rises rank (x ∷ []) h = tt
sorted_rises rank (x ∷ y ∷ ys) h = (All-head (IsLower rank x) y ys h.0, sorted_rises rank (y ∷ ys) h.1)

pub rising_sorted : {E : Type 0} (rank : E → ℕ) (xs : List E) → IsRising (map rank xs) → SortedBy (IsLower rank) xs
rising_sorted rank [] h = tt
rising_sorted rank (x ∷ []) h = (All-nil _, tt)
rising_sorted rank (x ∷ y ∷ ys) h =
    let rest = rising_sorted rank (y ∷ ys) h.1 in
    (All-cons (IsLower rank x) y ys h.0 (All-weaker (IsLower rank y) (IsLower rank x) (λ z above. omega (arith, above, h.0)) ys rest.0), rest)

-- no entry of the list has this one's rank
abbrev pub IsNewRank : {E : Type 0} → (E → ℕ) → List E → E → Type 0
IsNewRank rank done e = All (λ other. rank other ≢ rank e) done

neither_passes : (a b : Bool) → not (a || b) ≡ (not a && not b)
neither_passes true b = refl
neither_passes false b = refl

rank_decides : {E : Type 0} (rank : E → ℕ) (entries : List E) (e : E) → Decides (not (has_rank rank entries (rank e))) (IsNewRank rank entries e)
unfolding has_rank
rank_decides rank entries e =
    Decides-by_and (λ other. not (rank other == rank e)) (λ other. rank other ≢ rank e) (λ l. not (list_any (λ other. rank other == rank e) l)) (λ other. Decides-not _ (Decides-eqb (rank other) (rank e))) refl
    (λ x xs. neither_passes (rank x == rank e) (list_any (λ other. rank other == rank e) xs)) entries

not_true : (b : Bool) → not b ≡ true → b ≡ false
not_true true h = absurd cc
not_true false h = refl

pub new_rank : {E : Type 0} (rank : E → ℕ) (entries : List E) (e : E) → has_rank rank entries (rank e) ≡ false → IsNewRank rank entries e
new_rank rank entries e h = (rank_decides rank entries e).0 (ap not h)

pub told_new_rank : {E : Type 0} (rank : E → ℕ) (entries : List E) (e : E) → IsNewRank rank entries e → has_rank rank entries (rank e) ≡ false
told_new_rank rank entries e h = not_true _ ((rank_decides rank entries e).1 h)

-- ---- the place of a new entry

no_lower : {E : Type 0} (rank : E → ℕ) (n : ℕ) (xs : List E) → All (λ z. n ≤ rank z) xs → count_below rank xs n ≡ 0
unfolding count_below
no_lower rank n [] h = refl
no_lower rank n (x ∷ xs) h =
    let here : nat_lt (rank x) n ≡ false = by_test (nat_lt (rank x) n) (λ e. ltb-true (rank x) n e) (All-head (λ z. n ≤ rank z) x xs h) in
    sum_by-cons (λ z. cond (nat_lt (rank z) n) 1 0) x xs ∙ rw (here, no_lower rank n xs (All-tail (λ z. n ≤ rank z) x xs h)) refl
  where
    by_test : (b : Bool) → (b ≡ true → rank x < n) → n ≤ rank x → b ≡ false
    by_test true f h = absurd (omega (arith, f refl, h))
    by_test false f h = refl

put_first : {E : Type 0} (rank : E → ℕ) (e : E) → put_in rank [] e ≡ e ∷ []
unfolding count_below
put_first rank e = refl

put_before : {E : Type 0} (rank : E → ℕ) (e y : E) (ys : List E) → rank e < rank y → All (IsLower rank y) ys → put_in rank (y ∷ ys) e ≡ e ∷ y ∷ ys
put_before rank e y ys lt above =
    rw (no_lower rank (rank e) (y ∷ ys) (All-cons (λ z. rank e ≤ rank z) y ys (omega (arith, lt)) (All-weaker (IsLower rank y) (λ z. rank e ≤ rank z) (λ z over. omega (arith, over, lt)) ys above))) refl

one_more : {E : Type 0} (rank : E → ℕ) (n : ℕ) (y : E) (ys : List E) → rank y < n → count_below rank (y ∷ ys) n ≡ suc (count_below rank ys n)
unfolding count_below
one_more rank n y ys lt =
    let here : nat_lt (rank y) n ≡ true = (Decides-ltb (rank y) n).1 lt in
    sum_by-cons (λ z. cond (nat_lt (rank z) n) 1 0) y ys ∙ rw here (omega arith)

put_after : {E : Type 0} (rank : E → ℕ) (e y : E) (ys : List E) → rank y < rank e → put_in rank (y ∷ ys) e ≡ y ∷ put_in rank ys e
put_after rank e y ys lt = rw (one_more rank (rank e) y ys lt) refl

false_is_not_true : ◌≡◌ {A = Bool} false true → ⊥
false_is_not_true e = cc

other_order : (a b : ℕ) → ¬ (a < b) → a ≢ b → b < a
other_order a b above differs = omega (arith, above, differs)

pub put_sorted : {E : Type 0} (rank : E → ℕ) (xs : List E) (e : E) → SortedBy (IsLower rank) xs → IsNewRank rank xs e → SortedBy (IsLower rank) (put_in rank xs e)
put_sorted rank [] e h new = rw (put_first rank e) (All-nil _, tt)
put_sorted rank (y ∷ ys) e h new =
    by_test (nat_lt (rank y) (rank e)) (Decides-ltb (rank y) (rank e)) (put_sorted rank ys e h.1 (All-tail (λ other. rank other ≢ rank e) y ys new)) (All-head (λ other. rank other ≢ rank e) y ys new)
  where
    by_test : (b : Bool) → Decides b (rank y < rank e) → SortedBy (IsLower rank) (put_in rank ys e) → rank y ≢ rank e → SortedBy (IsLower rank) (put_in rank (y ∷ ys) e)
    by_test true d rest differs = rw (put_after rank e y ys (d.0 refl)) (all_inserted (IsLower rank y) ys _ e (d.0 refl) h.0, rest)
    by_test false d rest differs =
        let over : rank e < rank y = other_order (rank y) (rank e) (λ lt. false_is_not_true (d.1 lt)) differs in
        rw (put_before rank e y ys over h.0) (All-cons (IsLower rank e) y ys over (All-weaker (IsLower rank y) (IsLower rank e) (λ z above. omega (arith, above, over)) ys h.0), h)

-- ---- all entries of a list, each put in

pub all_put_sorted : {E : Type 0} (rank : E → ℕ) (done xs : List E) → SortedBy (IsLower rank) done → AllFresh (put_in rank) (IsNewRank rank) done xs → SortedBy (IsLower rank) (put_all (put_in rank) done xs)
all_put_sorted rank done [] h fresh = h
all_put_sorted rank done (x ∷ xs) h fresh = all_put_sorted rank (put_in rank done x) xs (put_sorted rank done x h fresh.0) fresh.1

pub put_kept : {E : Type 0} (rank : E → ℕ) (done xs : List E) (z : E) → Contains done z → Contains (put_all (put_in rank) done xs) z
put_kept rank done [] z h = h
put_kept rank done (x ∷ xs) z h = put_kept rank (put_in rank done x) xs z (kept_there done _ x z h)

pub put_there : {E : Type 0} (rank : E → ℕ) (done xs : List E) (z : E) → Contains xs z → Contains (put_all (put_in rank) done xs) z
put_there rank done [] z h = absurd (none_there z h)
put_there rank done (x ∷ xs) z h = by_place (put_there rank (put_in rank done x) xs z) (there_cases x xs z h)
  where
    by_place : (Contains xs z → Contains (put_all (put_in rank) (put_in rank done x) xs) z) → (x ≡ z) ⊎ Contains xs z → Contains (put_all (put_in rank) (put_in rank done x) xs) z
    by_place rest (inl same) = put_kept rank (put_in rank done x) xs z (subst (Contains (put_in rank done x)) same (inserted_there done _ x))
    by_place rest (inr later) = rest later

pub put_cases : {E : Type 0} (rank : E → ℕ) (done xs : List E) (z : E) → Contains (put_all (put_in rank) done xs) z → Contains done z ⊎ Contains xs z
put_cases rank done [] z h = inl h
put_cases rank done (x ∷ xs) z h = by_part (put_cases rank (put_in rank done x) xs z h)
  where
    by_place : (x ≡ z) ⊎ Contains done z → Contains done z ⊎ Contains (x ∷ xs) z
    by_place (inl same) = inr (subst (Contains (x ∷ xs)) same (first_there x xs))
    by_place (inr before) = inl before

    by_part : Contains (put_in rank done x) z ⊎ Contains xs z → Contains done z ⊎ Contains (x ∷ xs) z
    by_part (inl put) = by_place (insert_cases done _ x z put)
    by_part (inr later) = inr (later_there x xs z later)

put_from_none : {E : Type 0} (rank : E → ℕ) (xs : List E) (z : E) → Contains (put_all (put_in rank) [] xs) z → Contains xs z
put_from_none rank xs z h = by_part (put_cases rank [] xs z h)
  where
    by_part : Contains [] z ⊎ Contains xs z → Contains xs z
    by_part (inl none) = absurd (none_there z none)
    by_part (inr there) = there

pub length_of_put : {E : Type 0} (rank : E → ℕ) (done xs : List E) → length (put_all (put_in rank) done xs) ≡ length done + length xs
unfolding count_below
length_of_put rank done [] = omega arith
length_of_put rank done (x ∷ xs) =
    let one = length-insert done (count_by (λ other. nat_lt (rank other) (rank x)) done) x (count_by-le-length _ done) in
    length_of_put rank (put_in rank done x) xs ∙ omega (arith, one)

-- ---- new entries are those whose ranks differ

other_way : {E : Type 0} (rank : E → ℕ) (x : E) (xs : List E) → All (λ z. rank x ≢ rank z) xs → All (λ other. rank other ≢ rank x) xs
other_way rank x xs all = All-weaker (λ z. rank x ≢ rank z) (λ other. rank other ≢ rank x) (λ z differs same. differs (sym same)) xs all

new_apart : {E : Type 0} (rank : E → ℕ) (done xs : List E) → AllFresh (put_in rank) (IsNewRank rank) done xs → RanksDiffer rank xs × All (IsNewRank rank done) xs
new_apart rank done [] fresh = (tt, All-nil _)
new_apart rank done (x ∷ xs) fresh =
    let rest = new_apart rank (put_in rank done x) xs fresh.1 in
    let apart : (z : _) → Contains xs z → IsNewRank rank (put_in rank done x) z = λ z h. All-contains (IsNewRank rank (put_in rank done x)) xs z rest.1 h in (
      (other_way rank x xs (all_of (λ z. rank x ≢ rank z) xs (λ z h. All-contains (λ other. rank other ≢ rank z) (put_in rank done x) x (apart z h) (inserted_there done _ x))), rest.0),
      All-cons (IsNewRank rank done) x xs fresh.0 (all_of (IsNewRank rank done) xs (λ z h. all_of (λ other. rank other ≢ rank z) done (λ d before. All-contains (λ other. rank other ≢ rank z) (put_in rank done x) d (apart z h) (kept_there done _ x d before)))),
    )

apart_new : {E : Type 0} (rank : E → ℕ) (done xs : List E) → RanksDiffer rank xs → All (IsNewRank rank done) xs → AllFresh (put_in rank) (IsNewRank rank) done xs
apart_new rank done [] differ new = tt
apart_new rank done (x ∷ xs) differ new = (
  All-head (IsNewRank rank done) x xs new,
  apart_new rank (put_in rank done x) xs differ.1 (all_of (IsNewRank rank (put_in rank done x)) xs (λ z h.
      all_inserted (λ other. rank other ≢ rank z) done _ x (λ same. All-contains (λ other. rank other ≢ rank x) xs z differ.0 h (sym same))
      (All-contains (IsNewRank rank done) xs z (All-tail (IsNewRank rank done) x xs new) h))),
)

-- what is done with one item
pub reference_step : {E : Type 0} (rank : E → ℕ) (lookup : List ℕ → Option E) (Names : List ℕ → E → Type 0) → Finds lookup Names → IsStep (new_reference rank lookup) (SaysEntry Names) (put_in rank) (IsNewRank rank)
unfolding new_reference
reference_step rank lookup Names is = record {
  means = λ done more d e.
      let a = bind_ok (reference lookup (Some d)) _ more e in
      let f = failed (has_rank rank done (rank a.0)) (Ok (put_in rank done a.0)) more (Double []) a.2 in
      (a.0, reference_means lookup Names is (Some d) a.0 a.1, new_rank rank done a.0 f.0, same_ok (put_in rank done a.0) more (Ok (put_in rank done a.0)) refl f.1);
  reads = λ done d x says new. rw (reference_reads lookup Names is (Some d) x says, told_new_rank rank done x new) refl;
}

-- ---- the entries of a set

of_set : {E : Type 0} (rank : E → ℕ) (Names : List ℕ → E → Type 0) (low high : ℕ) (v : Option Data) (entries : List E) → ListGave (SaysEntry Names) (put_in rank) (IsNewRank rank) low high [] v entries
    → HasSet rank Names low high v entries
of_set rank Names low high v entries g = record {
  named = g.xs;
  list = g.list;
  differ = (new_apart rank [] g.xs g.fresh).0;
  rising = subst (λ (l : _). IsRising (map rank l)) g.is (sorted_rises rank _ (all_put_sorted rank [] g.xs tt g.fresh));
  same = λ e. subst (λ (l : _). Contains l e ↔ Contains g.xs e) g.is (λ h. put_from_none rank g.xs e h, λ h. put_there rank [] g.xs e h);
}

set_fresh : {E : Type 0} (rank : E → ℕ) (Names : List ℕ → E → Type 0) (low high : ℕ) (v : Option Data) (entries : List E) (s : HasSet rank Names low high v entries) → AllFresh (put_in rank) (IsNewRank rank) [] s.named
set_fresh rank Names low high v entries s = apart_new rank [] s.named s.differ (all_of (IsNewRank rank []) s.named (λ z h. All-nil _))

set_put : {E : Type 0} (rank : E → ℕ) (Names : List ℕ → E → Type 0) (low high : ℕ) (v : Option Data) (entries : List E) (s : HasSet rank Names low high v entries) → put_all (put_in rank) [] s.named ≡ entries
set_put rank Names low high v entries s =
    sorted_once (IsLower rank) (lower_one_way rank) (put_all (put_in rank) [] s.named) entries (all_put_sorted rank [] s.named tt (set_fresh rank Names low high v entries s)) (rising_sorted rank entries s.rising)
    (λ e. (λ h. (s.same e).1 (put_from_none rank s.named e h), λ h. put_there rank [] s.named e ((s.same e).0 h)))

pub set_means : {E : Type 0} (rank : E → ℕ) (lookup : List ℕ → Option E) (Names : List ℕ → E → Type 0) → Finds lookup Names → (low high : ℕ) (w : Which) (v : Option Data) (entries : List E) → items low high w (new_reference rank lookup) [] v ≡ Ok entries → HasSet rank Names low high v entries
set_means rank lookup Names is low high w v entries e =
    of_set rank Names low high v entries (items_mean (new_reference rank lookup) (SaysEntry Names) (put_in rank) (IsNewRank rank) (reference_step rank lookup Names is) low high w [] v entries e)

pub set_reads : {E : Type 0} (rank : E → ℕ) (lookup : List ℕ → Option E) (Names : List ℕ → E → Type 0) → Finds lookup Names → (low high : ℕ) (w : Which) (v : Option Data) (entries : List E) → HasSet rank Names low high v entries → items low high w (new_reference rank lookup) [] v ≡ Ok entries
set_reads rank lookup Names is low high w v entries s =
    items_read (new_reference rank lookup) (SaysEntry Names) (put_in rank) (IsNewRank rank) (reference_step rank lookup Names is) low high w [] v s.named s.list (set_fresh rank Names low high v entries s)
    ∙ ap Ok (set_put rank Names low high v entries s)

pub set_at_means : {E : Type 0} (rank : E → ℕ) (lookup : List ℕ → Option E) (Names : List ℕ → E → Type 0) → Finds lookup Names → (k : List ℕ) (low high : ℕ) (w : Which) (ms : Members) (entries : List E) → list_at k low high w (new_reference rank lookup) [] ms ≡ Ok entries
    → HasSet rank Names low high (get_member k ms) entries
set_at_means rank lookup Names is k low high w ms entries e =
    of_set rank Names low high (get_member k ms) entries (list_at_means (new_reference rank lookup) (SaysEntry Names) (put_in rank) (IsNewRank rank) (reference_step rank lookup Names is) k low high w [] ms entries e)

pub set_at_reads : {E : Type 0} (rank : E → ℕ) (lookup : List ℕ → Option E) (Names : List ℕ → E → Type 0) → Finds lookup Names → (k : List ℕ) (low high : ℕ) (w : Which) (ms : Members) (entries : List E) → HasSet rank Names low high (get_member k ms) entries
    → list_at k low high w (new_reference rank lookup) [] ms ≡ Ok entries
set_at_reads rank lookup Names is k low high w ms entries s =
    list_at_reads (new_reference rank lookup) (SaysEntry Names) (put_in rank) (IsNewRank rank) (reference_step rank lookup Names is) k low high w [] ms s.named s.list (set_fresh rank Names low high (get_member k ms) entries s)
    ∙ ap Ok (set_put rank Names low high (get_member k ms) entries s)

-- ---- what follows

pub length_of_said : {X : Type 0} (Says : Data → X → Type 0) (ds : Items) (xs : List X) → EachSays Says ds xs → length xs ≡ items_len ds
length_of_said Says no_items [] h = refl
length_of_said Says no_items (x ∷ xs) h = absurd h
length_of_said Says (item d ds) [] h = absurd h
length_of_said Says (item d ds) (x ∷ xs) h = ap suc (length_of_said Says ds xs h.1)

pub said_of : {X : Type 0} (Says : Data → X → Type 0) (ds : Items) (xs : List X) (x : X) → EachSays Says ds xs → Contains xs x → (d : Data) × Says d x
said_of Says no_items [] x h found = absurd (none_there x found)
said_of Says no_items (y ∷ ys) x h found = absurd h
said_of Says (item d ds) [] x h found = absurd h
said_of {X} Says (item d ds) (y ∷ ys) x h found = by_place (λ later. said_of Says ds ys x h.1 later) (there_cases y ys x found)
  where
    by_place : (Contains ys x → (d : Data) × Says d x) → (y ≡ x) ⊎ Contains ys x → (d : Data) × Says d x
    by_place rest (inl same) = (d, subst (Says d) same h.0)
    by_place rest (inr later) = rest later

pub set_count : {E : Type 0} (rank : E → ℕ) (Names : List ℕ → E → Type 0) (low high : ℕ) (v : Option Data) (entries : List E) → HasSet rank Names low high v entries → (low ≤ length entries) × (length entries ≤ high)
set_count rank Names low high v entries s =
    let put : length (put_all (put_in rank) [] s.named) ≡ length entries = ap length (set_put rank Names low high v entries s) in
    let count = length_of_put rank [] s.named in
    let said = length_of_said (SaysEntry Names) s.list.items s.named s.list.each in
    (omega (arith, put, count, said, s.list.least), omega (arith, put, count, said, s.list.most))

pub set_found : {E : Type 0} (rank : E → ℕ) (Names : List ℕ → E → Type 0) (low high : ℕ) (v : Option Data) (entries : List E) → HasSet rank Names low high v entries → All (λ e. (text : List ℕ) × Names text e) entries
set_found rank Names low high v entries s =
    all_of (λ e. (text : List ℕ) × Names text e) entries (λ e h.
    let said = said_of (SaysEntry Names) s.list.items s.named e s.list.each ((s.same e).0 h) in
    (said.1.0, said.1.2))
