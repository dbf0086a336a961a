-- The keys of a `block` event are read exactly where they say it.
use Rattle.std.proofs.Common.{◌≡◌, ℕ, ◌+◌, ◌≤◌, ◌==◌, ◌&&◌, ltb, Bool, true, false, cond, List, [], ◌∷◌, length, map, Option, Some, None, Result, Ok, Err, refl, sym, ap, subst, ◌∙◌, arith}
use Rattle.std.specs.Prelude.{codes, slice_get}
use Rattle.std.specs.Str.{bytes_eq}
use Rattle.std.proofs.lemmas.Bool.{eqb-true}
use Rattle.std.proofs.lemmas.List.{length-map}
use Rattle.std.proofs.lemmas.Slice.Eq.{bytes_eq-Decides}
use Rattle.serde_json.specs.Data.{Data, string, array, Items, no_items, item, Members}
use Rattle.serde_json.specs.Find.{get_member, as_array, as_str}
use Rattle.serde_json.specs.Events.{items_len}
use Rattle.hex.specs.Hex.{decode_sized, encode_lower, IsBytes}
use Rattle.hex.specs.declared.error.FromHexError.{FromHexError}
use Rattle.hex.proofs.HexLemmas.{decode_sized-ok, decode_sized-twice, decode_of-ok, decode_sized-encode_lower}
use Rattle.txn_types.specs.declared.stream.Piece.{Piece}
use Rattle.doc_forms.specs.declared.fault.Step.TheVariants.{Key}
use Rattle.doc_forms.specs.declared.fault.Which.TheVariants as word
use Rattle.doc_forms.specs.Faults.{Fault}
use Rattle.doc_forms.specs.Forms as form
use Rattle.doc_forms.specs.Forms.{wanted, list_in}
use Rattle.doc_forms.specs.Meaning.{HasOnly, EachSays, HasList}
use Rattle.doc_forms.proofs.Meant.{bind_ok, within_ok, wanted_ok, text_is, array_is, failed, both, same_ok, only_means, only_reads, passed}
use Rattle.doc_forms.proofs.EachMeant.{IsStep, at_end, any, list_in_means, list_in_reads}
use Rattle.doc_forms.proofs.SetsMeant.{length_of_said}
use Rattle.doc_schedule.specs.declared.tables.ItemRole.{ItemRole}
use Rattle.doc_schedule.specs.Places.{place_in}
use Rattle.doc_schedule.specs.Hashes.{if_lower, hash_of, prev, prev_at}
use Rattle.doc_schedule.specs.Blocks.{may_stand, next_txn, txns_within, txns_of, txns_at, next_pred, next_preds, are_arrays, lists_of, preds, count_of, preds_at, links_at}
use Rattle.doc_schedule.specs.Tables.{role_of}
use Rattle.node_defs.specs.Sayings.{txns_named}
use Rattle.doc_schedule.specs.ScheduleMeaning.{HasPlace, MayHave, SaysNamedItem, SaysHash, SaysPred, SaysPreds, SaysGraph}
use Rattle.doc_schedule.proofs.TablesMeant.{eqb-same}
use Rattle.doc_schedule.proofs.RolesMeant.{may_stand_means, may_stand_reads, AreNamedAmong, count_is}
use Rattle.doc_schedule.proofs.EndsMeant.{gives, not_above, test_above, each_end_means, each_end_reads, list_end_means, list_end_reads, place_means, place_reads}

-- ---- items

-- the number of an item that may stand, as the test tells
abbrev pub Stands : List ItemRole → Bool → Data → ℕ → Type 0
Stands roles alone d i = HasPlace (length roles) (Some d) i × (may_stand alone (slice_get roles i) ≡ true)

next_txn_means : (roles : List ItemRole) (alone : Bool) (before after : List ℕ) (d : Data) → next_txn roles alone before d ≡ Ok after → (i : ℕ) × Stands roles alone d i × any before i × (at_end before i ≡ after)
unfolding next_txn
next_txn_means roles alone before after d e =
    let i = bind_ok (place_in (length roles) word.Item (Some d)) _ after e in
    let p = passed (may_stand alone (slice_get roles i.0)) (at_end before i.0) after _ i.2 in
    (i.0, (place_means (length roles) word.Item (Some d) i.0 i.1, p.0), tt, p.1)

next_txn_reads : (roles : List ItemRole) (alone : Bool) (before : List ℕ) (d : Data) (i : ℕ) → Stands roles alone d i → any before i → next_txn roles alone before d ≡ Ok (at_end before i)
unfolding next_txn
next_txn_reads roles alone before d i h u = rw (place_reads (length roles) word.Item (Some d) i h.0, h.1) refl

pub txn_step : (roles : List ItemRole) (alone : Bool) → IsStep (next_txn roles alone) (Stands roles alone) at_end any
txn_step roles alone = record { means = next_txn_means roles alone; reads = next_txn_reads roles alone }

-- what each item says, in other words
each_said : {X : Type 0} (P Q : Data → X → Type 0) → ((d : Data) (x : X) → P d x → Q d x) → (ds : Items) (xs : List X) → EachSays P ds xs → EachSays Q ds xs
each_said P Q f no_items [] h = tt
each_said P Q f no_items (x ∷ xs) h = absurd h
each_said P Q f (item d ds) [] h = absurd h
each_said P Q f (item d ds) (x ∷ xs) h = (f d x h.0, each_said P Q f ds xs h.1)

-- an item as a test over roles tells it, and as its piece does
stands_means : (pieces : List (Option Piece)) (count : ℕ) (d : Data) (i : ℕ) → Stands (map role_of pieces) (count == 1) d i → SaysNamedItem pieces count d i
stands_means pieces count d i h = (subst (λ n. HasPlace n (Some d) i) (length-map pieces role_of) h.0, may_stand_means count pieces i h.1)

stands_reads : (pieces : List (Option Piece)) (count : ℕ) (d : Data) (i : ℕ) → SaysNamedItem pieces count d i → Stands (map role_of pieces) (count == 1) d i
stands_reads pieces count d i h = (subst (λ n. HasPlace n (Some d) i) (sym (length-map pieces role_of)) h.0, may_stand_reads count pieces i h.1)

items_mean : (pieces : List (Option Piece)) (total : ℕ) (v : Option Data) (items : List ℕ) → txns_of (map role_of pieces) total v ≡ Ok items → HasList (SaysNamedItem pieces (length items)) 1 256 v items × (total + length items ≤ 16384)
unfolding txns_of txns_within
items_mean pieces total v items e =
    let roles = map role_of pieces in
    let ds = bind_ok (list_in 1 256 word.Txns v) _ items e in
    let l = list_in_means 1 256 word.Txns v ds.0 ds.1 in
    let t = failed (ltb 16384 (total + items_len ds.0)) _ items _ ds.2 in
    let say = each_end_means (next_txn roles (items_len ds.0 == 1)) (Stands roles (items_len ds.0 == 1)) (txn_step roles (items_len ds.0 == 1)) ds.0 items t.1 in
    let count = length_of_said (Stands roles (items_len ds.0 == 1)) ds.0 items say in
    let told = each_said (Stands roles (items_len ds.0 == 1)) (SaysNamedItem pieces (items_len ds.0)) (stands_means pieces (items_len ds.0)) ds.0 items say in
    let few = not_above 16384 (total + items_len ds.0) t.0 in
    (record { items = ds.0; is = l.0; least = l.1; most = l.2; each = subst (λ n. EachSays (SaysNamedItem pieces n) ds.0 items) (sym count) told }, omega (arith, few, count))

items_read : (pieces : List (Option Piece)) (total : ℕ) (v : Option Data) (items : List ℕ) → HasList (SaysNamedItem pieces (length items)) 1 256 v items → total + length items ≤ 16384 → txns_of (map role_of pieces) total v ≡ Ok items
unfolding txns_of txns_within
items_read pieces total v items h few =
    let roles = map role_of pieces in
    let count = length_of_said (SaysNamedItem pieces (length items)) h.items items h.each in
    let say = subst (λ n. EachSays (SaysNamedItem pieces n) h.items items) count h.each in
    let told = each_said (SaysNamedItem pieces (items_len h.items)) (Stands roles (items_len h.items == 1)) (stands_reads pieces (items_len h.items)) h.items items say in
    let test = test_above 16384 (total + items_len h.items) (omega (arith, few, count)) in
    rw (list_in_reads 1 256 word.Txns v h.items h.is h.least h.most, test)
    (each_end_reads (next_txn roles (items_len h.items == 1)) (Stands roles (items_len h.items == 1)) (txn_step roles (items_len h.items == 1)) h.items items told)

pub txns_at_mean : (pieces : List (Option Piece)) (total : ℕ) (ms : Members) (items : List ℕ) → txns_at (map role_of pieces) total ms ≡ Ok items → HasList (SaysNamedItem pieces (length items)) 1 256 (get_member (codes "txns") ms) items × (total + length items ≤ 16384)
unfolding txns_at
txns_at_mean pieces total ms items e = items_mean pieces total (get_member (codes "txns") ms) items (within_ok (Key (codes "txns")) (txns_of (map role_of pieces) total (get_member (codes "txns") ms)) items e)

pub txns_at_read : (pieces : List (Option Piece)) (total : ℕ) (ms : Members) (items : List ℕ) → HasList (SaysNamedItem pieces (length items)) 1 256 (get_member (codes "txns") ms) items → total + length items ≤ 16384 → txns_at (map role_of pieces) total ms ≡ Ok items
unfolding txns_at
txns_at_read pieces total ms items h few = rw (items_read pieces total (get_member (codes "txns") ms) items h few) refl

-- ---- how many transactions the items carry

said_named : (pieces : List (Option Piece)) (count : ℕ) (ds : Items) (items : List ℕ) → EachSays (SaysNamedItem pieces count) ds items → AreNamedAmong pieces count items
said_named pieces count no_items [] h = tt
said_named pieces count no_items (i ∷ items) h = absurd h
said_named pieces count (item d ds) [] h = absurd h
said_named pieces count (item d ds) (i ∷ items) h = (h.0.1, said_named pieces count ds items h.1)

pub count_said : (pieces : List (Option Piece)) (v : Option Data) (items : List ℕ) → HasList (SaysNamedItem pieces (length items)) 1 256 v items → count_of (map role_of pieces) items ≡ length (txns_named pieces items)
count_said pieces v items h = count_is pieces items (said_named pieces (length items) h.items items h.each)

-- ---- the previous hash

abbrev some_of : {A : Type 0} → A → Option A
some_of x = Some x

same_some : {A : Type 0} (x y : A) → some_of x ≡ some_of y → x ≡ y
same_some x y e = cc

-- a choice that is made
taken : {A : Type 0} (b : Bool) (x y : A) → cond b (Some x) None ≡ Some y → (b ≡ true) × (x ≡ y)
taken true x y e = (refl, same_some x y e)
taken false x y e = absurd cc

abbrev IsHash : List ℕ → List ℕ → Type 0
IsHash text bytes = (text ≡ encode_lower bytes) × (length bytes ≡ 32) × IsBytes bytes

decoded_means : (text bytes : List ℕ) (r : Result (List ℕ) FromHexError) → decode_sized text 32 ≡ r → if_lower text r ≡ Some bytes → IsHash text bytes
decoded_means text bytes (Ok b) is e =
    let t = taken (bytes_eq (encode_lower b) text) b bytes e in
    let size = decode_sized-ok text 32 b is in
    let parts = decode_of-ok text b (sym (decode_sized-twice text 32 size) ∙ is) in
    let long = parts.2 in
    subst (IsHash text) t.1 (sym ((bytes_eq-Decides (encode_lower b) text).0 t.0), omega (arith, size, long), parts.3)
decoded_means text bytes (Err f) is e = absurd cc

hash_means : (text bytes : List ℕ) → hash_of text ≡ Some bytes → IsHash text bytes
unfolding hash_of
hash_means text bytes e = decoded_means text bytes (decode_sized text 32) refl e

hash_reads : (bytes : List ℕ) → length bytes ≡ 32 → IsBytes bytes → hash_of (encode_lower bytes) ≡ Some bytes
unfolding hash_of
hash_reads bytes size fit = rw (decode_sized-encode_lower bytes 32 size fit, (bytes_eq-Decides (encode_lower bytes) (encode_lower bytes)).1 refl) refl

prev_means : (v : Option Data) (o : Option (List ℕ)) → prev v ≡ Ok o → MayHave SaysHash v o
unfolding prev
prev_means None o e = subst (MayHave SaysHash None) (same_ok None o (gives None) refl e) tt
prev_means (Some d) o e =
    let text = bind_ok (wanted (as_str d)) _ o e in
    let bytes = bind_ok (wanted (hash_of text.0)) _ o text.2 in
    let h = hash_means text.0 bytes.0 (wanted_ok _ _ bytes.1) in
    subst (MayHave SaysHash (Some d)) (same_ok (Some bytes.0) o (gives (Some bytes.0)) refl bytes.2)
    (text_is (Some d) text.0 (wanted_ok _ _ text.1) ∙ ap (λ t. Some (string t)) h.0, h.1, h.2)

prev_reads : (v : Option Data) (o : Option (List ℕ)) → MayHave SaysHash v o → prev v ≡ Ok o
unfolding prev
prev_reads None None h = refl
prev_reads None (Some bytes) h = absurd h
prev_reads (Some d) None h = absurd h
prev_reads (Some d) (Some bytes) h = rw (same_some d (string (encode_lower bytes)) h.0) (rw (hash_reads bytes h.1 h.2) refl)

-- ---- the graph

next_pred_means : (before after : List ℕ) (d : Data) → next_pred before d ≡ Ok after → (p : ℕ) × SaysPred d p × any before p × (at_end before p ≡ after)
unfolding next_pred
next_pred_means before after d e =
    let p = bind_ok (place_in 256 word.Preds (Some d)) _ after e in
    (p.0, place_means 256 word.Preds (Some d) p.0 p.1, tt, same_ok _ after (gives (at_end before p.0)) refl p.2)

next_pred_reads : (before : List ℕ) (d : Data) (p : ℕ) → SaysPred d p → any before p → next_pred before d ≡ Ok (at_end before p)
unfolding next_pred
next_pred_reads before d p h u = rw (place_reads 256 word.Preds (Some d) p h) refl

pred_step : IsStep next_pred SaysPred at_end any
pred_step = record { means = next_pred_means; reads = next_pred_reads }

next_preds_mean : (before after : List (List ℕ)) (d : Data) → next_preds before d ≡ Ok after → (ps : List ℕ) × SaysPreds d ps × any before ps × (at_end before ps ≡ after)
unfolding next_preds
next_preds_mean before after d e =
    let ps = bind_ok (form.items 0 256 word.Preds next_pred [] (Some d)) _ after e in
    (ps.0, list_end_means next_pred SaysPred pred_step 0 256 word.Preds (Some d) ps.0 ps.1, tt, same_ok _ after (gives (at_end before ps.0)) refl ps.2)

next_preds_read : (before : List (List ℕ)) (d : Data) (ps : List ℕ) → SaysPreds d ps → any before ps → next_preds before d ≡ Ok (at_end before ps)
unfolding next_preds
next_preds_read before d ps h u = rw (list_end_reads next_pred SaysPred pred_step 0 256 word.Preds (Some d) ps h) refl

preds_step : IsStep next_preds SaysPreds at_end any
preds_step = record { means = next_preds_mean; reads = next_preds_read }

-- a check that is made only where a test passes
allowed : {A : Type 0} (b : Bool) (r : Result A Fault) (y : A) (f : Fault) → cond b r (Err f) ≡ Ok y → (b ≡ true) × (r ≡ Ok y)
allowed true r y f e = (refl, e)
allowed false r y f e = absurd cc

said_arrays : (ds : Items) (preds : List (List ℕ)) → EachSays SaysPreds ds preds → are_arrays ds ≡ true
unfolding are_arrays
said_arrays no_items [] h = refl
said_arrays no_items (ps ∷ rest) h = absurd h
said_arrays (item d ds) [] h = absurd h
said_arrays (item d ds) (ps ∷ rest) h =
    let list = h.0 in
    let is : d ≡ array list.items = same_some d (array list.items) list.is in
    rw (is, said_arrays ds rest h.1) refl

graph_means : (count : ℕ) (d : Data) (ds : Items) (gs : List (List ℕ)) → Option.Some d ≡ Some (array ds) → lists_of count ds ≡ Ok gs → SaysGraph count d gs
unfolding lists_of
graph_means count d ds gs is e =
    let t = allowed ((items_len ds == count) && are_arrays ds) _ gs _ e in
    let same = eqb-true (items_len ds) count (both (items_len ds == count) (are_arrays ds) t.0).0 in
    record { items = ds; is = is; least = omega (arith, same); most = omega (arith, same); each = each_end_means next_preds SaysPreds preds_step ds gs t.1 }

graph_reads : (count : ℕ) (d : Data) (gs : List (List ℕ)) (h : SaysGraph count d gs) → lists_of count h.items ≡ Ok gs
unfolding lists_of
graph_reads count d gs h =
    let low = h.least in
    let high = h.most in
    let same : items_len h.items ≡ count = omega (arith, low, high) in
    rw (same, eqb-same count, said_arrays h.items gs h.each) (each_end_reads next_preds SaysPreds preds_step h.items gs h.each)

preds_mean : (count : ℕ) (v : Option Data) (o : Option (List (List ℕ))) → preds count v ≡ Ok o → MayHave (SaysGraph count) v o
unfolding preds
preds_mean count None o e = subst (MayHave (SaysGraph count) None) (same_ok None o (gives None) refl e) tt
preds_mean count (Some d) o e =
    let ds = bind_ok (wanted (as_array d)) _ o e in
    let gs = bind_ok (lists_of count ds.0) _ o ds.2 in
    subst (MayHave (SaysGraph count) (Some d)) (same_ok (Some gs.0) o (gives (Some gs.0)) refl gs.2)
    (graph_means count d ds.0 gs.0 (array_is (Some d) ds.0 (wanted_ok _ _ ds.1)) gs.1)

preds_read : (count : ℕ) (v : Option Data) (o : Option (List (List ℕ))) → MayHave (SaysGraph count) v o → preds count v ≡ Ok o
unfolding preds
preds_read count None None h = refl
preds_read count None (Some gs) h = absurd h
preds_read count (Some d) None h = absurd h
preds_read count (Some d) (Some gs) h =
    let list = h in
    let is : d ≡ array list.items = same_some d (array list.items) list.is in
    let array : as_array d ≡ Some list.items = ap as_array is in
    rw array (rw (graph_reads count d gs h) refl)

-- ---- both

-- no other keys
abbrev pub BlockOnly : Members → Type 0
BlockOnly ms = HasOnly (codes "do" ∷ codes "from" ∷ codes "number" ∷ codes "txns" ∷ codes "prev" ∷ codes "preds" ∷ []) ms

pub links_mean : (roles : List ItemRole) (items : List ℕ) (ms : Members) (links : Option (List ℕ) × Option (List (List ℕ))) → links_at roles items ms ≡ Ok links
    → MayHave SaysHash (get_member (codes "prev") ms) links.0 × MayHave (SaysGraph (count_of roles items)) (get_member (codes "preds") ms) links.1 × BlockOnly ms
unfolding links_at prev_at preds_at
links_mean roles items ms links e =
    let hash = bind_ok (prev_at ms) _ links e in
    let graph = bind_ok (preds_at roles items ms) _ links hash.2 in
    let end = bind_ok (form.only _ ms) _ links graph.2 in
    let is = same_ok (hash.0, graph.0) links (gives (hash.0, graph.0)) refl end.2 in
    subst (λ (l : Option (List ℕ) × Option (List (List ℕ))). MayHave SaysHash (get_member (codes "prev") ms) l.0 × MayHave (SaysGraph (count_of roles items)) (get_member (codes "preds") ms) l.1 × BlockOnly ms) is (
      prev_means _ hash.0 (within_ok (Key (codes "prev")) (prev (get_member (codes "prev") ms)) hash.0 hash.1),
      preds_mean (count_of roles items) _ graph.0 (within_ok (Key (codes "preds")) (preds (count_of roles items) (get_member (codes "preds") ms)) graph.0 graph.1),
      only_means _ ms end.0 end.1,
    )

pub links_read : (roles : List ItemRole) (items : List ℕ) (ms : Members) (hash : Option (List ℕ)) (graph : Option (List (List ℕ)))
    → MayHave SaysHash (get_member (codes "prev") ms) hash → MayHave (SaysGraph (count_of roles items)) (get_member (codes "preds") ms) graph → BlockOnly ms → links_at roles items ms ≡ Ok (hash, graph)
unfolding links_at prev_at preds_at
links_read roles items ms hash graph p g only =
    rw (prev_reads (get_member (codes "prev") ms) hash p, preds_read (count_of roles items) (get_member (codes "preds") ms) graph g, only_reads _ ms only) refl
