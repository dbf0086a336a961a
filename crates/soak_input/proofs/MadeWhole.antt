-- The made input, from its parts.
use Rattle.std.proofs.Common.{◌≡◌, ℕ, List, [], ◌∷◌, replicate, ap, ◌∙◌}
use Rattle.txn_types.specs.declared.event.Event.{Event}
use Rattle.txn_types.specs.declared.event.Event.TheVariants as event
use Rattle.txn_types.specs.declared.message.Node.{Node}
use Rattle.txn_types.specs.declared.stream.Item.{Item}
use Rattle.oxii_defs.specs.Table.{Table}
use Rattle.input_doc.specs.Inputs.{Input}
use Rattle.soak_input.specs.Generator.{IsSoakInput, stream_behind, table_of}
use Rattle.soak_input.specs.Laws.{pay}
use Rattle.soak_input.proofs.PayMeant.{pay_contract}

abbrev with_parts : Table → List ℕ → List Item → List Node → List Event → Input
with_parts table genesis items faulty schedule =
    record { table = table; genesis = genesis; items = items; limits = record { txns = 256; bytes = 1048576 }; faulty = faulty; schedule = schedule }

pub made_of : (table : Table) (genesis : List ℕ) (items : List Item) (faulty : List Node) (schedule : List Event) (seed txns : ℕ) →
    table ≡ table_of (pay ∷ []) → genesis ≡ replicate 256 1000 → items ≡ stream_behind seed txns → faulty ≡ [] → schedule ≡ event.All ∷ [] →
    IsSoakInput seed txns (with_parts table genesis items faulty schedule)
made_of table genesis items faulty schedule seed txns e1 e2 e3 e4 e5 = record {
  ops = pay ∷ [];
  contract = pay_contract;
  is =
      ap (λ x. with_parts x genesis items faulty schedule) e1
      ∙ ap (λ x. with_parts (table_of (pay ∷ [])) x items faulty schedule) e2
      ∙ ap (λ x. with_parts (table_of (pay ∷ [])) (replicate 256 1000) x faulty schedule) e3
      ∙ ap (λ x. with_parts (table_of (pay ∷ [])) (replicate 256 1000) (stream_behind seed txns) x schedule) e4
      ∙ ap (λ x. with_parts (table_of (pay ∷ [])) (replicate 256 1000) (stream_behind seed txns) [] x) e5;
}
