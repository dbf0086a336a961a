-- A configuration is read exactly where an object says it.
use Rattle.std.proofs.Common.{◌≡◌, ℕ, List, Result, Ok, refl, subst}
use Rattle.std.specs.Prelude.{codes}
use Rattle.serde_json.specs.Data.{Members}
use Rattle.serde_json.specs.Find.{get_member}
use Rattle.txn_types.specs.declared.block.Config.{Config}
use Rattle.doc_forms.specs.declared.fault.Step.TheVariants.{Key}
use Rattle.doc_forms.specs.Faults.{Fault}
use Rattle.doc_forms.specs.Forms as form
use Rattle.doc_forms.specs.Tables.{place_below}
use Rattle.doc_forms.specs.Meaning.{IsNameAt, HasReference}
use Rattle.doc_forms.specs.Agents.{agents_and_tau}
use Rattle.doc_forms.proofs.LookUps.{AreNumbered, place_finds}
use Rattle.doc_forms.proofs.Meant.{bind_ok, within_ok, only_means, only_reads, reference_means, reference_reads}
use Rattle.doc_forms.proofs.AgentsMeant.{agents_mean, agents_read}
use Rattle.doc_stream.specs.Configs.{app_at, stream_config}
use Rattle.doc_stream.specs.StreamMeaning.{SaysConfig}

app_means : (apps : List (List ℕ)) → AreNumbered 256 apps → (ms : Members) (app : ℕ) → app_at apps ms ≡ Ok app → HasReference (IsNameAt apps) (get_member (codes "config") ms) app
unfolding app_at
app_means apps numbered ms app e = reference_means (place_below 256 apps) (IsNameAt apps) (place_finds 256 apps numbered) _ app (within_ok (Key (codes "config")) _ app e)

app_reads : (apps : List (List ℕ)) → AreNumbered 256 apps → (ms : Members) (app : ℕ) → HasReference (IsNameAt apps) (get_member (codes "config") ms) app → app_at apps ms ≡ Ok app
unfolding app_at
app_reads apps numbered ms app h = rw (reference_reads (place_below 256 apps) (IsNameAt apps) (place_finds 256 apps numbered) _ app h) refl

abbrev config_is : Config → Result Config Fault
config_is c = Ok c

same_config : (a b : Config) → config_is a ≡ config_is b → a ≡ b
same_config a b h = cc

pub config_means : (apps peers : List (List ℕ)) → AreNumbered 256 apps → AreNumbered 256 peers → (ms : Members) (c : Config) → stream_config apps peers ms ≡ Ok c → SaysConfig apps peers ms c
unfolding stream_config
config_means apps peers few_apps few_peers ms c e =
    let app = bind_ok (app_at apps ms) _ c e in
    let who = bind_ok (agents_and_tau peers ms) _ c app.2 in
    let end = bind_ok (form.only _ ms) _ c who.2 in
    subst (SaysConfig apps peers ms) (same_config (record { app = app.0; agents = who.0.agents; tau = who.0.tau }) c end.2) (record {
      app = app_means apps few_apps ms app.0 app.1;
      agents = agents_mean peers few_peers ms who.0 who.1;
      only = only_means _ ms end.0 end.1;
    })

pub config_reads : (apps peers : List (List ℕ)) → AreNumbered 256 apps → AreNumbered 256 peers → (ms : Members) (c : Config) → SaysConfig apps peers ms c → stream_config apps peers ms ≡ Ok c
unfolding stream_config
config_reads apps peers few_apps few_peers ms c h =
    rw (app_reads apps few_apps ms c.app h.app, agents_read peers few_peers ms c.agents c.tau h.agents, only_reads _ ms h.only) refl
