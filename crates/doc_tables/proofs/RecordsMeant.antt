-- The reading of records gives Ok exactly where the document says them.
use Rattle.std.proofs.Common.{◌≡◌, ◌⊎◌, inl, inr, ◌↔◌, ℕ, suc, ◌+◌, ◌≤◌, ◌==◌, cond, codes, List, [], ◌∷◌, ◌++◌, length, map, Option, Some, None, Ok, Err, Contains, refl, sym, ap, subst, ◌∙◌, arith, append_assoc, append-nil}
use Rattle.std.specs.Prelude.{⊤}
use Rattle.std.specs.List.{All, insert, zip}
use Rattle.std.proofs.lemmas.List.{map-append}
use Rattle.std.proofs.lemmas.Bool.Decides.{nat_tests}
use Rattle.std.proofs.lemmas.List.Edits.{length-insert}
use Rattle.std.proofs.lemmas.List.Elements.{All-nil, All-cons, All-head, All-tail, Contains-append_cases, Contains-append_left, Contains-append_right}
use Rattle.std.proofs.lemmas.Slice.Zip.{firsts-zip, seconds-zip}
use Rattle.serde_json.specs.Data.{Data, null, boolean, number, string, array, object, Items, no_items, item, Members}
use Rattle.serde_json.specs.Find.{as_array, get_member}
use Rattle.serde_json.specs.Find as find
use Rattle.serde_json.specs.Events.{items_len}
use Rattle.txn_types.specs.Names.{IsName}
use Rattle.txn_types.specs.Values.{max_value, IsValue, AreValues}
use Rattle.oxii_defs.specs.NameLists.{AllDiffer}
use Rattle.doc_forms.specs.declared.fault.Which.TheVariants as word
use Rattle.doc_forms.specs.Faults.{Field}
use Rattle.doc_forms.specs.Forms.{name, number_in}
use Rattle.doc_forms.specs.Tables.{place_of}
use Rattle.doc_forms.specs.Sorted.{gap_of}
use Rattle.doc_forms.proofs.Meant.{bind_ok, passed, same_ok, name_means, name_reads, number_means, number_reads}
use Rattle.doc_forms.proofs.EachMeant.{IsStep, AllFresh, put_all, list_at_means, list_at_reads}
use Rattle.doc_forms.proofs.SortedOnce.{SortedBy, IsAsymmetric, sorted_once, all_of, first_there, later_there, there_cases, none_there}
use Rattle.doc_forms.proofs.NamesMeant.{differ_at_end, differ_before}
use Rattle.doc_forms.proofs.SetsMeant.{inserted_there, kept_there, insert_cases, length_of_said, said_of}
use Rattle.doc_tables.specs.Records.{pair, no_place, with_record, next_record, records}
use Rattle.doc_tables.specs.RecordsMeaning.{Valued, SaysRecord, SaysRecords}
use Rattle.doc_tables.proofs.RecordsKept.{lengths_after}
use Rattle.doc_tables.proofs.RecordsSorted.{lower, one_way, sorted_in_order, in_order_sorted, is_absent, not_found, gap_sorted, gap_within, zip_inserted}

-- a name and a value
abbrev Given : Type 0
Given = List ℕ × ℕ

-- ---- one record

abbrev put : Valued → Given → Valued
put before given = with_record before given.0 given.1

abbrev Fresh : Valued → Given → Type 0
Fresh before given = place_of before.names given.0 ≡ None

two_items : (ds : Items) (u : ⊤) → cond (items_len ds == 2) (Ok tt) (Err (Field [])) ≡ Ok u → (a : Data) × (b : Data) × (ds ≡ item a (item b no_items))
two_items no_items u e = absurd cc
two_items (item a no_items) u e = absurd cc
two_items (item a (item b no_items)) u e = (a, b, refl)
two_items (item a (item b (item c ds))) u e = let two = passed (suc (suc (suc (items_len ds))) == 2) tt u _ e in absurd (grind (arith, nat_tests, two.0))

pair_means : (d : Data) (u : ⊤) → pair d ≡ Ok u → (a : Data) × (b : Data) × (d ≡ array (item a (item b no_items)))
unfolding pair
pair_means null u e = absurd cc
pair_means (boolean b) u e = absurd cc
pair_means (number n) u e = absurd cc
pair_means (string s) u e = absurd cc
pair_means (array ds) u e = let two = two_items ds u e in (two.0, two.1, ap array two.2)
pair_means (object ms) u e = absurd cc

no_place_ok : (o : Option ℕ) (u : ⊤) → no_place o ≡ Ok u → o ≡ None
no_place_ok None u e = refl
no_place_ok (Some i) u e = absurd cc

record_means : (before more : Valued) (d : Data) → next_record before d ≡ Ok more → (given : Given) × SaysRecord d given × Fresh before given × (put before given ≡ more)
unfolding next_record
record_means before more d e =
    let two = bind_ok (pair d) _ more e in
    let text = bind_ok (name (find.at 0 d)) _ more two.2 in
    let new = bind_ok (no_place (place_of before.names text.0)) _ more text.2 in
    let n = bind_ok (number_in 0 max_value word.Value (find.at 1 d)) _ more new.2 in
    let is = pair_means d two.0 two.1 in (
      (text.0, n.0),
      record {
        first = is.0;
        second = is.1;
        is = is.2;
        named = name_means (Some is.0) text.0 (subst (λ z. name (find.at 0 z) ≡ Ok text.0) is.2 text.1);
        valued = number_means 0 max_value word.Value (Some is.1) n.0 (subst (λ z. number_in 0 max_value word.Value (find.at 1 z) ≡ Ok n.0) is.2 n.1);
      },
      no_place_ok (place_of before.names text.0) new.0 new.1,
      same_ok (with_record before text.0 n.0) more (Ok (with_record before text.0 n.0)) refl n.2,
    )

record_reads : (before : Valued) (d : Data) (given : Given) → SaysRecord d given → Fresh before given → next_record before d ≡ Ok (put before given)
unfolding next_record pair
record_reads before d given says fresh = rw (says.is, name_reads (Some says.first) given.0 says.named, fresh, number_reads 0 max_value word.Value (Some says.second) given.1 says.valued) refl

record_step : IsStep next_record SaysRecord put Fresh
record_step = record { means = record_means; reads = record_reads }

-- ---- names of pairs

abbrev firsts : List Given → List (List ℕ)
firsts pairs = map (λ pair. pair.0) pairs

first_of : (pairs : List Given) (given : Given) → Contains pairs given → Contains (firsts pairs) given.0
first_of [] given found = absurd (none_there given found)
first_of (p ∷ pairs) given found = by_place (there_cases p pairs given found) (λ later. first_of pairs given later)
  where
    by_place : (p ≡ given) ⊎ Contains pairs given → (Contains pairs given → Contains (firsts pairs) given.0) → Contains (p.0 ∷ firsts pairs) given.0
    by_place (inl same) rest = subst (λ q. Contains (p.0 ∷ firsts pairs) q.0) same (first_there p.0 (firsts pairs))
    by_place (inr later) rest = later_there p.0 (firsts pairs) given.0 (rest later)

-- a part that is there is a pair's
part_of : {B : Type 0} (part : Given → B) (pairs : List Given) (x : B) → Contains (map part pairs) x → (given : Given) × Contains pairs given × (part given ≡ x)
part_of part [] x found = absurd (none_there x found)
part_of {B} part (p ∷ pairs) x found = by_place (there_cases (part p) (map part pairs) x found) (λ later. part_of part pairs x later)
  where
    by_place : (part p ≡ x) ⊎ Contains (map part pairs) x → (Contains (map part pairs) x → (given : Given) × Contains pairs given × (part given ≡ x)) → (given : Given) × Contains (p ∷ pairs) given × (part given ≡ x)
    by_place (inl same) rest = (p, first_there p pairs, same)
    by_place (inr later) rest = let more = rest later in (more.0, later_there p pairs more.0 more.1, more.2)

-- ---- what the records are after some pairs

record Stands (pairs : List Given) (r : Valued) : Type 0 where
  sorted : SortedBy lower r.names
  count : length r.values ≡ length r.names
  same : (given : Given) → Contains (zip r.names r.values) given ↔ Contains pairs given

-- before the first one
abbrev none : Valued
none = record { names = []; values = [] }

none_stands : Stands [] none
none_stands = record { sorted = tt; count = refl; same = λ given. (λ h. h, λ h. h) }

module _ (pairs : List Given) (r : Valued) (s : Stands pairs r) where
  is_given : (t : List ℕ) → Contains r.names t → Contains (firsts pairs) t
  is_given t found =
      let one = part_of (λ pair. pair.0) (zip r.names r.values) t (subst (λ names. Contains names t) (sym (firsts-zip r.names r.values s.count)) found) in
      subst (Contains (firsts pairs)) one.2 (first_of pairs one.0 ((s.same one.0).0 one.1))

  is_kept : (t : List ℕ) → Contains (firsts pairs) t → Contains r.names t
  is_kept t found =
      let one = part_of (λ pair. pair.0) pairs t found in
      let there = first_of (zip r.names r.values) one.0 ((s.same one.0).1 one.1) in
      subst (Contains r.names) one.2 (subst (λ names. Contains names one.0.0) (firsts-zip r.names r.values s.count) there)

  put_same : (given z : Given) → Contains (zip (put r given).names (put r given).values) z ↔ Contains (pairs ++ given ∷ []) z
  put_same given z = subst (λ l. Contains l z ↔ Contains (pairs ++ given ∷ []) z) (sym (zip_inserted r.names r.values (gap_of r.names given.0) given.0 given.1 s.count)) (
    λ h. into (insert_cases zipped (gap_of r.names given.0) given z h),
    λ h. from (Contains-append_cases pairs (given ∷ []) z h),
  )
    where
      zipped : List Given
      zipped = zip r.names r.values

      into : (given ≡ z) ⊎ Contains zipped z → Contains (pairs ++ given ∷ []) z
      into (inl is) = Contains-append_right pairs (given ∷ []) z (subst (Contains (given ∷ [])) is (first_there given []))
      into (inr there) = Contains-append_left pairs (given ∷ []) z ((s.same z).0 there)

      at_last : (given ≡ z) ⊎ Contains [] z → Contains (insert zipped (gap_of r.names given.0) given) z
      at_last (inl is) = subst (Contains (insert zipped (gap_of r.names given.0) given)) is (inserted_there zipped (gap_of r.names given.0) given)
      at_last (inr there) = absurd (none_there z there)

      from : Contains pairs z ⊎ Contains (given ∷ []) z → Contains (insert zipped (gap_of r.names given.0) given) z
      from (inl there) = kept_there zipped (gap_of r.names given.0) given z ((s.same z).1 there)
      from (inr last) = at_last (there_cases given [] z last)

  put_stands : (given : Given) → Fresh r given → Stands (pairs ++ given ∷ []) (put r given)
  put_stands given fresh = record {
    sorted = gap_sorted r.names given.0 s.sorted (is_absent r.names given.0 fresh);
    count = lengths_after r.names r.values (gap_of r.names given.0) given.0 given.1 s.count (gap_within r.names given.0);
    same = put_same given;
  }

  put_differ : (given : Given) → Fresh r given → AllDiffer (firsts pairs) → AllDiffer (firsts (pairs ++ given ∷ []))
  put_differ given fresh differ = rw (map-append (λ pair. pair.0) pairs (given ∷ [])) (differ_at_end (firsts pairs) given.0 differ (λ found. is_absent r.names given.0 fresh (is_kept given.0 found)))

  is_fresh : (given : Given) (rest : List Given) → AllDiffer (firsts (pairs ++ given ∷ rest)) → Fresh r given
  is_fresh given rest differ = not_found r.names given.0 (λ found. differ_before (firsts pairs) given.0 (firsts rest) (rw (map-append (λ pair. pair.0) pairs (given ∷ rest)) at differ) (is_given given.0 found))

-- ---- all pairs

further : (pairs : List Given) (given : Given) (rest : List Given) → (pairs ++ given ∷ []) ++ rest ≡ pairs ++ given ∷ rest
further pairs given rest = append_assoc pairs (given ∷ []) rest

all_stand : (pairs rest : List Given) (r : Valued) → Stands pairs r → AllFresh put Fresh r rest → Stands (pairs ++ rest) (put_all put r rest)
all_stand pairs [] r s fresh = subst (λ l. Stands l r) (sym (append-nil pairs)) s
all_stand pairs (given ∷ rest) r s fresh =
    subst (λ l. Stands l (put_all put (put r given) rest)) (further pairs given rest) (all_stand (pairs ++ given ∷ []) rest (put r given) (put_stands pairs r s given fresh.0) fresh.1)

all_differ : (pairs rest : List Given) (r : Valued) → Stands pairs r → AllFresh put Fresh r rest → AllDiffer (firsts pairs) → AllDiffer (firsts (pairs ++ rest))
all_differ pairs [] r s fresh differ = subst (λ l. AllDiffer (firsts l)) (sym (append-nil pairs)) differ
all_differ pairs (given ∷ rest) r s fresh differ =
    subst (λ l. AllDiffer (firsts l)) (further pairs given rest) (all_differ (pairs ++ given ∷ []) rest (put r given) (put_stands pairs r s given fresh.0) fresh.1 (put_differ pairs r s given fresh.0 differ))

all_fresh : (pairs rest : List Given) (r : Valued) → Stands pairs r → AllDiffer (firsts (pairs ++ rest)) → AllFresh put Fresh r rest
all_fresh pairs [] r s differ = tt
all_fresh pairs (given ∷ rest) r s differ =
    let fresh = is_fresh pairs r s given rest differ in
    (fresh, all_fresh (pairs ++ given ∷ []) rest (put r given) (put_stands pairs r s given fresh) (subst (λ l. AllDiffer (firsts l)) (sym (further pairs given rest)) differ))

-- ---- both directions

pub records_mean : (ms : Members) (r : Valued) → records ms ≡ Ok r → SaysRecords ms r
unfolding records
records_mean ms r e =
    let gave = list_at_means next_record SaysRecord put Fresh record_step (codes "records") 0 4096 word.Records none ms r e in
    let stands = subst (Stands gave.xs) gave.is (all_stand [] gave.xs none none_stands gave.fresh) in
    record { given = gave.xs; list = gave.list; differ = all_differ [] gave.xs none none_stands gave.fresh tt; order = sorted_in_order r.names stands.sorted; count = stands.count; same = stands.same }

-- names in order, of which one is below the other where its pair is
abbrev lower_pair : Given → Given → Type 0
lower_pair p q = lower p.0 q.0

pairs_one_way : IsAsymmetric lower_pair
pairs_one_way p q h = one_way p.0 q.0 h

all_lower : (p : Given) (pairs : List Given) → All (lower p.0) (firsts pairs) → All (lower_pair p) pairs
all_lower p [] h = All-nil _
all_lower p (q ∷ pairs) h = All-cons (lower_pair p) q pairs (All-head (lower p.0) q.0 (firsts pairs) h) (all_lower p pairs (All-tail (lower p.0) q.0 (firsts pairs) h))

pairs_sorted : (pairs : List Given) → SortedBy lower (firsts pairs) → SortedBy lower_pair pairs
pairs_sorted [] h = tt
pairs_sorted (p ∷ pairs) h = (all_lower p pairs h.0, pairs_sorted pairs h.1)

zip_sorted : (r : Valued) → length r.values ≡ length r.names → SortedBy lower r.names → SortedBy lower_pair (zip r.names r.values)
zip_sorted r count h = pairs_sorted (zip r.names r.values) (subst (SortedBy lower) (sym (firsts-zip r.names r.values count)) h)

-- records with the same pairs are the same
stands_once : (pairs : List Given) (r q : Valued) → Stands pairs r → Stands pairs q → r ≡ q
stands_once pairs r q s t =
    let zipped = sorted_once lower_pair pairs_one_way (zip r.names r.values) (zip q.names q.values) (zip_sorted r s.count s.sorted) (zip_sorted q t.count t.sorted)
    (λ given. (λ h. (t.same given).1 ((s.same given).0 h), λ h. (s.same given).1 ((t.same given).0 h))) in
    let names : r.names ≡ q.names = sym (firsts-zip r.names r.values s.count) ∙ ap firsts zipped ∙ firsts-zip q.names q.values t.count in
    let values : r.values ≡ q.values = sym (seconds-zip r.names r.values s.count) ∙ ap (λ l. map (λ p. p.1) l) zipped ∙ seconds-zip q.names q.values t.count in
    ap (λ l. record { names = l; values = r.values }) names ∙ ap (λ l. record { names = q.names; values = l }) values

pub records_read : (ms : Members) (r : Valued) → SaysRecords ms r → records ms ≡ Ok r
unfolding records
records_read ms r h =
    let fresh = all_fresh [] h.given none none_stands h.differ in
    let stands = all_stand [] h.given none none_stands fresh in
    let as_said : Stands h.given r = record { sorted = in_order_sorted r.names h.order; count = h.count; same = h.same } in
    list_at_reads next_record SaysRecord put Fresh record_step (codes "records") 0 4096 word.Records none ms h.given h.list fresh
    ∙ ap Ok (stands_once h.given (put_all put none h.given) r stands as_said)

-- ---- what follows

counted : (r : Valued) (rest : List Given) → length (put_all put r rest).names ≡ length r.names + length rest
counted r [] = omega arith
counted r (given ∷ rest) =
    let more = counted (put r given) rest in
    let one = length-insert r.names (gap_of r.names given.0) given.0 (gap_within r.names given.0) in
    omega (arith, more, one)

module _ (ms : Members) (r : Valued) (says : SaysRecords ms r) where
  names_there : (t : List ℕ) → Contains r.names t → IsName t
  names_there t found =
      let one = part_of (λ pair. pair.0) (zip r.names r.values) t (subst (λ names. Contains names t) (sym (firsts-zip r.names r.values says.count)) found) in
      let said = said_of SaysRecord says.list.items says.given one.0 says.list.each ((says.same one.0).0 one.1) in
      subst IsName one.2 said.1.named.1

  values_there : (n : ℕ) → Contains r.values n → IsValue n
  values_there n found =
      let one = part_of (λ pair. pair.1) (zip r.names r.values) n (subst (λ values. Contains values n) (sym (seconds-zip r.names r.values says.count)) found) in
      let said = said_of SaysRecord says.list.items says.given one.0 says.list.each ((says.same one.0).0 one.1) in
      subst IsValue one.2 said.1.valued.2

-- at most 4096 names, each with a value
pub records_kept : (ms : Members) (r : Valued) → records ms ≡ Ok r → (length r.names ≤ 4096) × All IsName r.names × AreValues r.values × (length r.values ≡ length r.names)
unfolding records
records_kept ms r e =
    let gave = list_at_means next_record SaysRecord put Fresh record_step (codes "records") 0 4096 word.Records none ms r e in
    let said = length_of_said SaysRecord gave.list.items gave.xs gave.list.each in
    let whole : length (put_all put none gave.xs).names ≡ length r.names = ap (λ q. length q.names) gave.is in
    let count = counted none gave.xs in
    let says = records_mean ms r e in
    (omega (arith, said, whole, count, gave.list.most), all_of IsName r.names (names_there ms r says), all_of IsValue r.values (values_there ms r says), says.count)
