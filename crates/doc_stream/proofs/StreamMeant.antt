-- The stream is read exactly where the document says it.
use Rattle.std.proofs.Common.{◌≡◌, ℕ, ◌<◌, false, leb, List, Option, Some, None, Result, Ok, refl, sym, ap, subst, ◌∙◌, arith}
use Rattle.std.proofs.lemmas.Bool.Decides.{nat_tests}
use Rattle.std.proofs.lemmas.Slice.Eq.{bytes_eq-Decides}
use Rattle.std.specs.Prelude.{codes}
use Rattle.std.specs.Str.{bytes_eq}
use Rattle.serde_json.specs.Data.{Data, null, boolean, number, string, array, object, Members}
use Rattle.serde_json.specs.Find.{get_member}
use Rattle.txn_types.specs.declared.stream.Item.{Item}
use Rattle.txn_types.specs.declared.stream.Item.TheVariants as item
use Rattle.doc_forms.specs.declared.fault.Which.TheVariants as word
use Rattle.doc_forms.specs.Faults.{Fault}
use Rattle.doc_forms.specs.Forms.{list_at}
use Rattle.doc_forms.proofs.LookUps.{AreNumbered}
use Rattle.doc_forms.proofs.Meant.{bind_ok, passed, failed}
use Rattle.doc_forms.proofs.EachMeant.{IsStep, list_at_means, list_at_reads}
use Rattle.doc_stream.specs.declared.reading.Made.{Made}
use Rattle.doc_stream.specs.Requests.{stream_request}
use Rattle.doc_stream.specs.Configs.{stream_config}
use Rattle.doc_stream.specs.Stream.{no_items_yet, add_mark, add_request, add_config, add_object, add_text, by_key, next_item, stream}
use Rattle.doc_stream.specs.StreamMeaning.{SaysItem, mark, ask, change, SaysStream}
use Rattle.doc_stream.proofs.RequestsMeant.{request_means, request_reads}
use Rattle.doc_stream.proofs.ConfigsMeant.{config_means, config_reads}
use Rattle.doc_stream.proofs.Counts.{put, IsBelow, items_are, requests_few, configs_few, few_below}

-- the tables that a stream refers to have names that differ, no more than their numbers
pub record AreTables (records apps peers : List (List ℕ)) : Type 0 where
  pub of_records : AreNumbered 65536 records
  pub of_apps : AreNumbered 256 apps
  pub of_peers : AreNumbered 256 peers

abbrev made_is : Made → Result Made Fault
made_is made = Ok made

same_made : (a b : Made) → made_is a ≡ made_is b → a ≡ b
same_made a b h = cc

below_limit : (n k : ℕ) → leb n k ≡ false → k < n
below_limit n k e = grind (arith, nat_tests)

test_below : (n k : ℕ) → k < n → leb n k ≡ false
test_below n k h = grind (arith, nat_tests)

-- an item that is said, and put where it may come
abbrev Puts : List (List ℕ) → List (List ℕ) → List (List ℕ) → Made → Data → Made → Type 0
Puts records apps peers made d more = (x : Item) × SaysItem records apps peers d x × IsBelow made x × (put made x ≡ more)

request_puts : (records apps peers : List (List ℕ)) → AreTables records apps peers → (made more : Made) (ms : Members) → get_member (codes "config") ms ≡ None → add_request records made ms ≡ Ok more → Puts records apps peers made (object ms) more
unfolding add_request
request_puts records apps peers tables made more ms none e =
    let t = failed (leb 4096 made.requests) _ more _ e in
    let r = bind_ok (stream_request records ms) _ more t.1 in
    (item.Ask r.0, ask none (request_means records tables.of_records ms r.0 r.1), below_limit 4096 made.requests t.0, same_made _ _ r.2)

config_puts : (records apps peers : List (List ℕ)) → AreTables records apps peers → (made more : Made) (ms : Members) (d : Data) → get_member (codes "config") ms ≡ Some d → add_config apps peers made ms ≡ Ok more → Puts records apps peers made (object ms) more
unfolding add_config
config_puts records apps peers tables made more ms d some e =
    let t = failed (leb 256 made.configs) _ more _ e in
    let c = bind_ok (stream_config apps peers ms) _ more t.1 in
    (item.Config c.0, change some (config_means apps peers tables.of_apps tables.of_peers ms c.0 c.1), below_limit 256 made.configs t.0, same_made _ _ c.2)

key_puts : (records apps peers : List (List ℕ)) → AreTables records apps peers → (made more : Made) (ms : Members) (o : Option Data) → get_member (codes "config") ms ≡ o → by_key records apps peers made ms o ≡ Ok more → Puts records apps peers made (object ms) more
key_puts records apps peers tables made more ms (Some d) is e = config_puts records apps peers tables made more ms d is e
key_puts records apps peers tables made more ms None is e = request_puts records apps peers tables made more ms is e

mark_puts : (records apps peers : List (List ℕ)) (made more : Made) (text : List ℕ) → add_text made text ≡ Ok more → Puts records apps peers made (string text) more
unfolding add_text
mark_puts records apps peers made more text e =
    let t = passed (bytes_eq text (codes "cut")) (add_mark made) more _ e in
    let is : text ≡ codes "cut" = (bytes_eq-Decides text (codes "cut")).0 t.0 in
    rw is (item.Mark, mark, tt, t.1)

item_puts : (records apps peers : List (List ℕ)) → AreTables records apps peers → (made more : Made) (d : Data) → next_item records apps peers made d ≡ Ok more → Puts records apps peers made d more
unfolding next_item add_object
item_puts records apps peers tables made more null e = absurd cc
item_puts records apps peers tables made more (boolean b) e = absurd cc
item_puts records apps peers tables made more (number n) e = absurd cc
item_puts records apps peers tables made more (string text) e = mark_puts records apps peers made more text e
item_puts records apps peers tables made more (array ds) e = absurd cc
item_puts records apps peers tables made more (object ms) e = key_puts records apps peers tables made more ms (get_member (codes "config") ms) refl e

item_put : (records apps peers : List (List ℕ)) → AreTables records apps peers → (made : Made) (d : Data) (x : Item) → SaysItem records apps peers d x → IsBelow made x → next_item records apps peers made d ≡ Ok (put made x)
unfolding next_item add_object add_text add_request add_config
item_put records apps peers tables made d x mark below = refl
item_put records apps peers tables made d x (ask {ms = ms} {r = r} none says) below = rw none (rw (test_below 4096 made.requests below, request_reads records tables.of_records ms r says) refl)
item_put records apps peers tables made d x (change {ms = ms} {c = c} some says) below = rw some (rw (test_below 256 made.configs below, config_reads apps peers tables.of_apps tables.of_peers ms c says) refl)

is_step : (records apps peers : List (List ℕ)) → AreTables records apps peers → IsStep (next_item records apps peers) (SaysItem records apps peers) put IsBelow
is_step records apps peers tables = record { means = item_puts records apps peers tables; reads = item_put records apps peers tables }

abbrev items_as : List Item → Result (List Item) Fault
items_as items = Ok items

same_items : (a b : List Item) → items_as a ≡ items_as b → a ≡ b
same_items a b h = cc

pub stream_means : (records apps peers : List (List ℕ)) → AreTables records apps peers → (ms : Members) (items : List Item) → stream records apps peers ms ≡ Ok items → SaysStream records apps peers ms items
unfolding stream
stream_means records apps peers tables ms items e =
    let made = bind_ok (list_at (codes "stream") 0 8192 word.Items (next_item records apps peers) no_items_yet ms) _ items e in
    let gave = list_at_means (next_item records apps peers) (SaysItem records apps peers) put IsBelow (is_step records apps peers tables) (codes "stream") 0 8192 word.Items no_items_yet ms made.0 made.1 in
    let is : gave.xs ≡ items = sym (items_are gave.xs) ∙ ap (λ (m : Made). m.items) gave.is ∙ same_items made.0.items items made.2 in
    subst (SaysStream records apps peers ms) is (record {
      list = gave.list;
      requests = requests_few gave.xs gave.fresh;
      configs = configs_few gave.xs gave.fresh;
    })

pub stream_reads : (records apps peers : List (List ℕ)) → AreTables records apps peers → (ms : Members) (items : List Item) → SaysStream records apps peers ms items → stream records apps peers ms ≡ Ok items
unfolding stream
stream_reads records apps peers tables ms items h =
    rw (list_at_reads (next_item records apps peers) (SaysItem records apps peers) put IsBelow (is_step records apps peers tables) (codes "stream") 0 8192 word.Items no_items_yet ms items h.list (few_below items h.requests h.configs))
    (ap items_as (items_are items))
