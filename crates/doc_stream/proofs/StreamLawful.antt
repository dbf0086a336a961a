-- What a stream says is lawful for the table whose names it refers to.
use Rattle.std.proofs.Common.{◌≤◌, ◌<◌, ℕ, List, [], ◌∷◌, length, map, Option, subst, arith}
use Rattle.std.specs.List.{All}
use Rattle.std.proofs.lemmas.Option.{slice_get_within}
use Rattle.std.proofs.lemmas.List.{length-map}
use Rattle.std.proofs.lemmas.List.Elements.{All-nil, All-cons}
use Rattle.serde_json.specs.Data.{Data, Items, no_items, item, Members}
use Rattle.txn_types.specs.declared.txn.Arg.{Arg}
use Rattle.txn_types.specs.declared.txn.Arg.TheVariants.{Rec, Num}
use Rattle.txn_types.specs.declared.block.Config.{Config}
use Rattle.txn_types.specs.declared.stream.Request.{Request}
use Rattle.txn_types.specs.declared.stream.Item.{Item}
use Rattle.oxii_defs.specs.Table.{Table}
use Rattle.oxii_defs.specs.Lawful.{IsLawfulConfig}
use Rattle.node_defs.specs.LawfulItems.{IsLawfulItem, IsLawfulRequest, IsRequestSet, IsRequestArg}
use Rattle.doc_forms.specs.Meaning.{EachSays, IsNameAt, HasSet}
use Rattle.doc_stream.specs.StreamMeaning.{SaysArg, SaysRequest, SaysConfig, SaysItem, mark, ask, change, SaysStream}
use Rattle.doc_forms.proofs.SetsMeant.{length_of_said}
use Rattle.doc_forms.proofs.AgentsMeant.{set_exists, set_rises, agents_lawful}

-- what holds of whatever an item says holds of all
each_holds : {X : Type 0} (Says : Data → X → Type 0) (P : X → Type 0) → ((d : Data) (x : X) → Says d x → P x) → (ds : Items) (xs : List X) → EachSays Says ds xs → All P xs
each_holds Says P h no_items [] say = All-nil P
each_holds Says P h no_items (x ∷ xs) say = absurd say
each_holds Says P h (item d ds) [] say = absurd say
each_holds Says P h (item d ds) (x ∷ xs) say = All-cons P x xs (h d x say.0) (each_holds Says P h ds xs say.1)

arg_lawful : (table : Table) (d : Data) (a : Arg) → SaysArg table.records d a → IsRequestArg table a
arg_lawful table d (Rec r) says = slice_get_within table.records r says.0 says.2
arg_lawful table d (Num n) says = says.2

set_lawful : (table : Table) (v : Option Data) (set : List ℕ) → HasSet (λ r. r) (IsNameAt table.records) 0 64 v set → IsRequestSet table set
set_lawful table v set says = record {
  rising = set_rises table.records 0 64 v set says;
  known = set_exists table.records 0 64 v set says;
}

request_lawful : (table : Table) (ms : Members) (r : Request) → SaysRequest table.records ms r → IsLawfulRequest table r
request_lawful table ms r says = record {
  args = each_holds (SaysArg table.records) (IsRequestArg table) (arg_lawful table) says.args.items r.args says.args.each;
  reads = set_lawful table _ r.reads says.reads;
  writes = set_lawful table _ r.writes says.writes;
}

config_lawful : (table : Table) (ms : Members) (c : Config) → SaysConfig (map (λ app. app.name) table.apps) table.peers ms c → IsLawfulConfig table c
config_lawful table ms c says = record {
  app = subst (λ (n : ℕ). c.app < n) (length-map table.apps (λ app. app.name)) (slice_get_within (map (λ app. app.name) table.apps) c.app says.app.0 says.app.2);
  agents = agents_lawful table ms c.agents c.tau says.agents;
}

item_lawful : (table : Table) (d : Data) (x : Item) → SaysItem table.records (map (λ app. app.name) table.apps) table.peers d x → IsLawfulItem table x
item_lawful table d x mark = tt
item_lawful table d x (ask {ms = ms} {r = r} none says) = request_lawful table ms r says
item_lawful table d x (change {ms = ms} {c = c} some says) = config_lawful table ms c says

-- each item is lawful, and there are at most 8,192
pub stream_lawful : (table : Table) (ms : Members) (items : List Item) → SaysStream table.records (map (λ app. app.name) table.apps) table.peers ms items → All (IsLawfulItem table) items × (length items ≤ 8192)
stream_lawful table ms items says =
    let Says = SaysItem table.records (map (λ app. app.name) table.apps) table.peers in
    let count = length_of_said Says says.list.items items says.list.each in
    (each_holds Says (IsLawfulItem table) (item_lawful table) says.list.items items says.list.each, omega (arith, count, says.list.most))
