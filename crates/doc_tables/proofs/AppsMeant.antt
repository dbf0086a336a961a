-- The applications are read exactly where the document says them.
use Rattle.std.proofs.Common.{◌≡◌, ◌≤◌, ℕ, Bool, true, false, cond, leb, List, [], ◌∷◌, ◌++◌, length, map, codes, Option, Some, option_and_then, Ok, Err, Contains, refl, sym, ap, subst, ◌∙◌, append_assoc, append-nil, arith}
use Rattle.std.proofs.lemmas.Bool.{leb-true, le-leb}
use Rattle.std.proofs.lemmas.Bool.Decides.{not_from_Decides}
use Rattle.std.proofs.lemmas.List.{map-append}
use Rattle.serde_json.specs.Data.{Data, object, Members}
use Rattle.serde_json.specs.Find.{get_member, as_str}
use Rattle.oxii_defs.specs.Syntax.{Op}
use Rattle.oxii_defs.specs.NameLists.{AllDiffer}
use Rattle.oxii_defs.specs.Table.{App}
use Rattle.contract_text.specs.Verdict.{verdict}
use Rattle.contract_text.specs.TextFaults.{Verdict, accepted, syntax_fault, limit_fault, flawed}
use Rattle.contract_text.proofs.Judged.{contract_of, accepted_of}
use Rattle.doc_forms.specs.declared.fault.Step.TheVariants.{Key}
use Rattle.doc_forms.specs.declared.fault.Which.TheVariants as word
use Rattle.doc_forms.specs.Faults.{Limit, Double}
use Rattle.doc_forms.specs.Forms as form
use Rattle.doc_forms.specs.Forms.{wanted, is_listed, list_at, only}
use Rattle.doc_forms.specs.Tables.{new_name}
use Rattle.doc_forms.specs.Meaning.{HasName, HasList}
use Rattle.doc_forms.specs.Agents.{agents_and_tau}
use Rattle.doc_forms.proofs.Meant.{bind_ok, within_ok, wanted_ok, failed, same_ok, text_is, name_means, name_reads, only_means, only_reads, members_are}
use Rattle.doc_forms.proofs.EachMeant.{IsStep, AllFresh, at_end, all_at_end, items_mean, items_read}
use Rattle.doc_forms.proofs.Listed.{listed_decides}
use Rattle.doc_forms.proofs.LookUps.{AreNumbered}
use Rattle.doc_forms.proofs.NamesMeant.{absent_is_new, differ_at_end, differ_before, names_at_mean, names_at_read}
use Rattle.doc_forms.proofs.AgentsMeant.{agents_mean, agents_read}
use Rattle.doc_tables.specs.Apps.{unused, unused_at, ops_told, text_read, contract, contract_at, only_app_keys, application, app_in, next_app, apps_in, apps}
use Rattle.doc_tables.specs.AppsMeaning.{app_names, HasContract, SaysApp, SaysApps}

-- ---- the contract

-- what is told of a text is the verdict on it
told_accepts : (app : ℕ) (v : Verdict) (ops : List Op) → ops_told app v ≡ Ok ops → v ≡ accepted ops
told_accepts app (accepted os) ops e = ap accepted (same_ok os ops (Ok os) refl e)
told_accepts app (syntax_fault at) ops e = absurd cc
told_accepts app (limit_fault at) ops e = absurd cc
told_accepts app (flawed f) ops e = absurd cc

text_accepted : (app : ℕ) (text : List ℕ) (ops : List Op) → text_read verdict app text ≡ Ok ops → (length text ≤ 65536) × (verdict text ≡ accepted ops)
unfolding text_read
text_accepted app text ops e = by_test (leb (length text) 65536) (λ t. leb-true (length text) 65536 t) e
  where
    by_test : (b : Bool) → (b ≡ true → length text ≤ 65536) → cond b (ops_told app (verdict text)) (Err (Limit word.Contract 65536)) ≡ Ok ops → (length text ≤ 65536) × (verdict text ≡ accepted ops)
    by_test true f e = (f refl, told_accepts app (verdict text) ops e)
    by_test false f e = absurd cc

pub contract_means : (app : ℕ) (v : Option Data) (ops : List Op) → contract verdict app v ≡ Ok ops → HasContract v ops
unfolding contract
contract_means app v ops e =
    let a = bind_ok (wanted (option_and_then as_str v)) _ ops e in
    let t = text_accepted app a.0 ops a.2 in
    record { text = a.0; is = text_is v a.0 (wanted_ok _ _ a.1); short = t.0; is_contract = contract_of a.0 ops t.1 }

pub contract_reads : (app : ℕ) (v : Option Data) (ops : List Op) → HasContract v ops → contract verdict app v ≡ Ok ops
unfolding contract text_read
contract_reads app v ops h = rw (h.is, le-leb (length h.text) 65536 h.short, accepted_of h.text ops h.is_contract) refl

-- ---- the name

-- no application before it has its name
abbrev pub IsUnused : List App → App → Type 0
IsUnused before app = ¬ Contains (app_names before) app.name

unused_means : (before : List App) (v : Option Data) (text : List ℕ) → unused before v ≡ Ok text → HasName v text × ¬ Contains (app_names before) text
unfolding unused
unused_means before v text e =
    let a = bind_ok (form.name v) _ text e in
    let f = failed (is_listed (app_names before) a.0) (Ok a.0) text (Double []) a.2 in
    let is : a.0 ≡ text = same_ok a.0 text (Ok a.0) refl f.1 in
    (subst (HasName v) is (name_means v a.0 a.1), subst (λ t. ¬ Contains (app_names before) t) is (not_from_Decides _ (listed_decides (app_names before) a.0) f.0))

not_named : (names : List (List ℕ)) (text : List ℕ) → ¬ Contains names text → is_listed names text ≡ false
unfolding is_listed
not_named names text absent = absent_is_new [] names text absent

unused_reads : (before : List App) (v : Option Data) (text : List ℕ) → HasName v text → ¬ Contains (app_names before) text → unused before v ≡ Ok text
unfolding unused
unused_reads before v text h new = rw (name_reads v text h, not_named (app_names before) text new) refl

-- ---- an application

application_means : (peers : List (List ℕ)) → AreNumbered 256 peers → (before : List App) (d : Data) (ms : Members) (app : App) → d ≡ object ms → application verdict peers before ms ≡ Ok app → SaysApp peers d app × IsUnused before app
unfolding application unused_at contract_at only_app_keys
application_means peers numbered before d ms app is e =
    let called = bind_ok (unused_at (codes "name") before ms) _ app e in
    let who = bind_ok (agents_and_tau peers ms) _ app called.2 in
    let clients = bind_ok (list_at (codes "clients") 0 64 word.Clients (new_name []) [] ms) _ app who.2 in
    let ops = bind_ok (contract_at verdict (codes "contract") (length before) ms) _ app clients.2 in
    let rest = bind_ok (only_app_keys ms) _ app ops.2 in
    let made : record { name = called.0; agents = who.0.agents; tau = who.0.tau; clients = clients.0; ops = ops.0 } ≡ app = same_ok _ app (Ok _) refl rest.2 in
    let name = unused_means before (get_member (codes "name") ms) called.0 (within_ok (Key (codes "name")) (unused before (get_member (codes "name") ms)) called.0 called.1) in
    subst (λ a. SaysApp peers d a × IsUnused before a) made (
      record {
        members = ms;
        is = is;
        name = name.0;
        agents = agents_mean peers numbered ms who.0 who.1;
        clients = names_at_mean [] (codes "clients") 0 64 word.Clients ms clients.0 tt clients.1;
        contract = contract_means (length before) (get_member (codes "contract") ms) ops.0 (within_ok (Key (codes "contract")) (contract verdict (length before) (get_member (codes "contract") ms)) ops.0 ops.1);
        only = only_means _ ms rest.0 rest.1;
      },
      name.1,
    )

application_reads : (peers : List (List ℕ)) → AreNumbered 256 peers → (before : List App) (d : Data) (app : App) (s : SaysApp peers d app) → IsUnused before app → application verdict peers before s.members ≡ Ok app
unfolding application unused_at contract_at only_app_keys
application_reads peers numbered before d app s new =
    rw (
      unused_reads before (get_member (codes "name") s.members) app.name s.name new,
      agents_read peers numbered s.members app.agents app.tau s.agents,
      names_at_read [] (codes "clients") 0 64 word.Clients s.members app.clients s.clients,
      contract_reads (length before) (get_member (codes "contract") s.members) app.ops s.contract,
      only_reads _ s.members s.only,
    )
    refl

-- what is done with one item
app_step : (peers : List (List ℕ)) → AreNumbered 256 peers → IsStep (next_app verdict peers) (SaysApp peers) at_end IsUnused
unfolding next_app app_in
app_step peers numbered = record {
  means = λ before more d e.
      let app = bind_ok (app_in verdict peers before d) _ more e in
      let ms = bind_ok (form.object (Some d)) _ app.0 app.1 in
      let said = application_means peers numbered before d ms.0 app.0 (object_of d ms.0 (members_are (Some d) ms.0 ms.1)) ms.2 in
      (app.0, said.0, said.1, same_ok (before ++ app.0 ∷ []) more (Ok (before ++ app.0 ∷ [])) refl app.2);
  reads = λ before d app says new. rw (says.is, application_reads peers numbered before d app says new) refl;
}
  where
    object_of : (d : Data) (ms : Members) → ◌≡◌ {A = Option Data} (Some d) (Some (object ms)) → d ≡ object ms
    object_of d ms e = cc

-- ---- the applications

added : (before : List App) (app : App) → app_names (before ++ app ∷ []) ≡ app_names before ++ app.name ∷ []
added before app = map-append (λ a. a.name) before (app ∷ [])

unused_differ : (before xs : List App) → AllDiffer (app_names before) → AllFresh at_end IsUnused before xs → AllDiffer (app_names (before ++ xs))
unused_differ before [] h new = subst (λ l. AllDiffer (app_names l)) (sym (append-nil before)) h
unused_differ before (x ∷ xs) h new =
    let one : AllDiffer (app_names (before ++ x ∷ [])) = subst AllDiffer (sym (added before x)) (differ_at_end (app_names before) x.name h new.0) in
    subst (λ l. AllDiffer (app_names l)) (append_assoc before (x ∷ []) xs) (unused_differ (before ++ x ∷ []) xs one new.1)

differ_unused : (before xs : List App) → AllDiffer (app_names (before ++ xs)) → AllFresh at_end IsUnused before xs
differ_unused before [] h = tt
differ_unused before (x ∷ xs) h = (
  differ_before (app_names before) x.name (app_names xs) (subst AllDiffer (map-append (λ a. a.name) before (x ∷ xs)) h),
  differ_unused (before ++ x ∷ []) xs (subst (λ l. AllDiffer (app_names l)) (sym (append_assoc before (x ∷ []) xs)) h),
)

pub apps_mean : (peers : List (List ℕ)) → AreNumbered 256 peers → (ms : Members) (list : List App) → apps verdict peers ms ≡ Ok list → SaysApps peers ms list
unfolding apps apps_in
apps_mean peers numbered ms list e =
    let inside = within_ok (Key (codes "apps")) (apps_in verdict peers (get_member (codes "apps") ms)) list e in
    let g = items_mean (next_app verdict peers) (SaysApp peers) at_end IsUnused (app_step peers numbered) 1 16 word.Apps [] (get_member (codes "apps") ms) list inside in
    let is : g.xs ≡ list = sym (all_at_end [] g.xs) ∙ g.is in
    record { list = subst (HasList (SaysApp peers) 1 16 (get_member (codes "apps") ms)) is g.list; differ = subst (λ l. AllDiffer (app_names l)) is (unused_differ [] g.xs tt g.fresh) }

pub apps_read : (peers : List (List ℕ)) → AreNumbered 256 peers → (ms : Members) (list : List App) → SaysApps peers ms list → apps verdict peers ms ≡ Ok list
unfolding apps apps_in
apps_read peers numbered ms list s =
    let inside = items_read (next_app verdict peers) (SaysApp peers) at_end IsUnused (app_step peers numbered) 1 16 word.Apps [] (get_member (codes "apps") ms) list s.list (differ_unused [] list s.differ) in
    rw (inside, all_at_end [] list) refl
