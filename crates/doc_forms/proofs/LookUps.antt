-- Look-ups find an entry exactly where a name is that of it.
use Rattle.std.proofs.Common.{◌≡◌, ◌≢◌, ◌⊎◌, inl, inr, ℕ, zero, suc, ◌<◌, ◌≤◌, Bool, true, false, cond, nat_lt, List, [], ◌∷◌, ◌++◌, length, get_or, Option, Some, None, Contains, refl, sym, subst, ◌∙◌, arith}
use Rattle.std.specs.Prelude.{option_and_then, option_map, slice_get}
use Rattle.std.specs.Option.{option_or}
use Rattle.std.specs.Str.{bytes_eq}
use Rattle.std.proofs.lemmas.Bool.{ltb-true}
use Rattle.std.proofs.lemmas.Bool.Decides.{nat_tests, not_from_Decides}
use Rattle.std.proofs.lemmas.Slice.Eq.{bytes_eq-Decides}
use Rattle.std.proofs.lemmas.Option.{slice_get_read, slice_get_within, get_or_from_slice_get}
use Rattle.std.proofs.lemmas.List.Quantifiers.{position-Some}
use Rattle.std.proofs.lemmas.List.Sums.{position_or_len_is}
use Rattle.std.proofs.lemmas.List.Elements.{Contains-get_or, Contains-append_left, Contains-append_right}
use Rattle.txn_types.specs.declared.message.Node.{Node}
use Rattle.txn_types.specs.declared.message.Node.TheVariants.{Peer, Orderer}
use Rattle.oxii_defs.specs.NameLists.{AllDiffer}
use Rattle.doc_forms.specs.Tables.{place_of, place_below, below, node_named}
use Rattle.doc_forms.specs.Meaning.{IsNameAt, IsNodeName}
use Rattle.doc_forms.proofs.SortedOnce.{there_cases, none_there}

-- a look-up that finds an entry exactly where the name is that of it
pub record Finds {E : Type 0} (lookup : List ℕ → Option E) (Names : List ℕ → E → Type 0) : Type 0 where
  pub found : (text : List ℕ) (e : E) → lookup text ≡ Some e → Names text e
  pub finds : (text : List ℕ) (e : E) → Names text e → lookup text ≡ Some e

-- names that differ, no more than numbers below the bound
pub record AreNumbered (bound : ℕ) (names : List (List ℕ)) : Type 0 where
  pub differ : AllDiffer names
  pub few : length names ≤ bound

-- orderers and peers whose names all differ, no more than a byte numbers
pub record NodesDiffer (orderers peers : List (List ℕ)) : Type 0 where
  pub differ : AllDiffer (orderers ++ peers)
  pub few_orderers : length orderers ≤ 256
  pub few_peers : length peers ≤ 256

-- ---- the place of a name

option_is : {A : Type 0} (a b : A) → ◌≡◌ {A = Option A} (Some a) (Some b) → a ≡ b
option_is a b e = cc

below_bound : (bound n i : ℕ) → below bound n ≡ Some i → (n ≡ i) × (i < bound)
below_bound bound n i e = by_test (nat_lt n bound) (λ t. ltb-true n bound t) e
  where
    by_test : (b : Bool) → (b ≡ true → n < bound) → cond b (Some n) None ≡ Some i → (n ≡ i) × (i < bound)
    by_test true f e = (option_is _ _ e, subst (λ j. j < bound) (option_is _ _ e) (f refl))
    by_test false f e = absurd cc

below_is : (bound n : ℕ) → n < bound → below bound n ≡ Some n
below_is bound n lt = grind (arith, nat_tests)

named_at : (names : List (List ℕ)) (text : List ℕ) (n : ℕ) → place_of names text ≡ Some n → IsNameAt names text n
unfolding place_of
named_at names text n e =
    let at = position-Some (λ other. bytes_eq other text) names n text e in
    slice_get_read names (length names) n text refl at.0 (sym ((bytes_eq-Decides (get_or names n text) text).0 at.1))

pub place_names : (bound : ℕ) (names : List (List ℕ)) (text : List ℕ) (i : ℕ) → place_below bound names text ≡ Some i → IsNameAt names text i
unfolding place_below
place_names bound names text i e = of_place (place_of names text) (λ n h. named_at names text n h) e
  where
    of_place : (o : Option ℕ) → ((n : ℕ) → o ≡ Some n → IsNameAt names text n) → option_and_then (below bound) o ≡ Some i → IsNameAt names text i
    of_place None f e = absurd cc
    of_place (Some n) f e = subst (IsNameAt names text) (below_bound bound n i e).0 (f n refl)

-- a name stands at one place only
apart : (names : List (List ℕ)) (k i : ℕ) (d : List ℕ) → AllDiffer names → k < i → i < length names → get_or names k d ≢ get_or names i d
apart [] k i d h below lt = absurd (omega (arith, lt))
apart (x ∷ names) k zero d h below lt = absurd (omega (arith, below))
apart (x ∷ names) zero (suc i) d h below lt = λ same. h.0 (subst (Contains names) (sym same) (Contains-get_or names i d (omega (arith, lt))))
apart (x ∷ names) (suc k) (suc i) d h below lt = apart names k i d h.1 (omega (arith, below)) (omega (arith, lt))

place_found : (names : List (List ℕ)) (text : List ℕ) (i : ℕ) → AllDiffer names → IsNameAt names text i → place_of names text ≡ Some i
unfolding place_of
place_found names text i differ at =
    let lt = slice_get_within names i text at in
    let here : get_or names i text ≡ text = get_or_from_slice_get names i text text at in
    let before : (k : ℕ) → k < i → bytes_eq (get_or names k text) text ≡ false = λ k below. not_true _ (λ t. apart names k i text differ below lt ((bytes_eq-Decides (get_or names k text) text).0 t ∙ sym here)) in
    let is = position_or_len_is (λ other. bytes_eq other text) names i text (omega (arith, lt)) before (λ _. (bytes_eq-Decides (get_or names i text) text).1 here) in
    rw is (grind (arith, nat_tests, lt))
  where
    not_true : (b : Bool) → ¬ (b ≡ true) → b ≡ false
    not_true true h = absurd (h refl)
    not_true false h = refl

pub place_finds : (bound : ℕ) (names : List (List ℕ)) → AreNumbered bound names → Finds (place_below bound names) (IsNameAt names)
unfolding place_below
place_finds bound names h = record {
  found = place_names bound names;
  finds = λ text i at.
      let lt = slice_get_within names i text at in
      rw (place_found names text i h.differ at) (below_is bound i (omega (arith, lt, h.few)));
}

-- ---- the node of a name

there : (names : List (List ℕ)) (text : List ℕ) (i : ℕ) → IsNameAt names text i → Contains names text
there names text i at = (i, slice_get_within names i text at, get_or_from_slice_get names i text text at)

pub differ_at_start : (xs ys : List (List ℕ)) → AllDiffer (xs ++ ys) → AllDiffer xs
differ_at_start [] ys h = tt
differ_at_start (x ∷ xs) ys h = (λ found. h.0 (Contains-append_left xs ys x found), differ_at_start xs ys h.1)

pub differ_at_the_end : (xs ys : List (List ℕ)) → AllDiffer (xs ++ ys) → AllDiffer ys
differ_at_the_end [] ys h = h
differ_at_the_end (x ∷ xs) ys h = differ_at_the_end xs ys h.1

in_one : (xs ys : List (List ℕ)) (text : List ℕ) → AllDiffer (xs ++ ys) → Contains xs text → ¬ Contains ys text
in_one [] ys text h left = absurd (none_there text left)
in_one (x ∷ xs) ys text h left = λ right. by_place (λ later. in_one xs ys text h.1 later) (there_cases x xs text left) right
  where
    by_place : (Contains xs text → ¬ Contains ys text) → (x ≡ text) ⊎ Contains xs text → Contains ys text → ⊥
    by_place rest (inl same) right = h.0 (subst (Contains (xs ++ ys)) (sym same) (Contains-append_right xs ys text right))
    by_place rest (inr later) right = rest later right

abbrev node_of : Option ℕ → Option ℕ → Option Node
node_of peer orderer = option_or (option_map Peer peer) (option_map Orderer orderer)

node_found : (orderers peers : List (List ℕ)) (text : List ℕ) (peer orderer : Option ℕ) → ((p : ℕ) → peer ≡ Some p → IsNameAt peers text p) → ((o : ℕ) → orderer ≡ Some o → IsNameAt orderers text o)
    → (node : Node) → node_of peer orderer ≡ Some node → IsNodeName orderers peers text node
node_found orderers peers text (Some p) orderer of_peer of_orderer node e = subst (IsNodeName orderers peers text) (option_is (Peer p) node e) (of_peer p refl)
node_found orderers peers text None (Some o) of_peer of_orderer node e = subst (IsNodeName orderers peers text) (option_is (Orderer o) node e) (of_orderer o refl)
node_found orderers peers text None None of_peer of_orderer node e = absurd cc

no_peer : (orderers peers : List (List ℕ)) (text : List ℕ) (o : ℕ) → NodesDiffer orderers peers → IsNameAt orderers text o → (peer : Option ℕ) → ((p : ℕ) → peer ≡ Some p → IsNameAt peers text p) → peer ≡ None
no_peer orderers peers text o h at None of_peer = refl
no_peer orderers peers text o h at (Some p) of_peer = absurd (in_one orderers peers text h.differ (there orderers text o at) (there peers text p (of_peer p refl)))

node_finds : (orderers peers : List (List ℕ)) → NodesDiffer orderers peers → (text : List ℕ) (node : Node) → IsNodeName orderers peers text node → node_named orderers peers text ≡ Some node
unfolding node_named
node_finds orderers peers h text (Peer p) at =
    rw ((place_finds 256 peers (record { differ = differ_at_the_end orderers peers h.differ; few = h.few_peers })).finds text p at) refl
node_finds orderers peers h text (Orderer o) at =
    rw (no_peer orderers peers text o h at (place_below 256 peers text) (place_names 256 peers text), (place_finds 256 orderers (record { differ = differ_at_start orderers peers h.differ; few = h.few_orderers })).finds text o at) refl

pub node_names : (orderers peers : List (List ℕ)) (text : List ℕ) (node : Node) → node_named orderers peers text ≡ Some node → IsNodeName orderers peers text node
unfolding node_named
node_names orderers peers text node e = node_found orderers peers text (place_below 256 peers text) (place_below 256 orderers text) (place_names 256 peers text) (place_names 256 orderers text) node e

pub nodes_find : (orderers peers : List (List ℕ)) → NodesDiffer orderers peers → Finds (node_named orderers peers) (IsNodeName orderers peers)
nodes_find orderers peers h = record { found = node_names orderers peers; finds = node_finds orderers peers h }

-- ---- a look-up for itself

pub finds_itself : {E : Type 0} (lookup : List ℕ → Option E) → Finds lookup (λ text e. lookup text ≡ Some e)
finds_itself lookup = record { found = λ text e h. h; finds = λ text e h. h }
