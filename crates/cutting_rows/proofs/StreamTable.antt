-- The table of the tests: the bank with 18 records and two peers, whose operation does nothing.
use Rattle.std.proofs.Common.{◌≡◌, ℕ, zero, suc, ◌+◌, ◌<◌, ◌≤◌, List, [], ◌∷◌, ◌++◌, map, refl, sym, subst, inl, arith, rules}
use Rattle.std.specs.Prelude.{codes}
use Rattle.std.specs.List.{All, AllByRecursion, range_with_len}
use Rattle.std.proofs.lemmas.List.Elements.{All-cons, All-nil, All-from_recursion}
use Rattle.txn_types.specs.declared.txn.Kind.TheVariants.{Full}
use Rattle.txn_types.specs.Names.{IsName, IsNameByte}
use Rattle.oxii_defs.specs.Syntax.{Done, Name, Op}
use Rattle.oxii_defs.specs.WellFormed.{IsWellFormed}
use Rattle.oxii_defs.specs.Table.{App, Table}
use Rattle.oxii_defs.specs.Lawful.{AreAgents, IsLawfulApp, IsLawfulTable}
use Rattle.oxii_defs.specs.Transfers.{transfer_op, bank}
use Rattle.txn_core.proofs.CheckLemmas.{differ_decides}

abbrev pub still_op : Op
still_op = record transfer_op { body = Done }

abbrev pub still_bank : App
still_bank = record bank { ops = still_op ∷ [] }

abbrev pub stream_table : Table
stream_table = record {
  kind = Full;
  records = map (λ k. k ∷ []) (range_with_len 97 18);
  orderers = codes "o1" ∷ [];
  quorum = 1;
  peers = codes "p1" ∷ codes "p2" ∷ [];
  apps = still_bank ∷ [];
}

all_one : {X : Type 0} (P : X → Type 0) (x : X) → P x → All P (x ∷ [])
all_one P x p = All-cons P x [] p (All-nil P)

letters_named : (a n : ℕ) → 97 ≤ a → a + n ≤ 123 → AllByRecursion IsName (map (λ k. k ∷ []) (range_with_len a n))
letters_named a zero from to = tt
letters_named a (suc n) from to =
    ((omega arith, (from, omega arith), all_one IsNameByte a (inl (from, omega arith))), letters_named (a + 1) n (omega arith) (omega arith))

name_o1 : IsName (codes "o1")
name_o1 = search rules

name_p1 : IsName (codes "p1")
name_p1 = search rules

name_p2 : IsName (codes "p2")
name_p2 = search rules

name_c1 : IsName (codes "c1")
name_c1 = search rules

name_bank : IsName (codes "bank")
name_bank = search rules

name_transfer : IsName (codes "transfer")
name_transfer = search rules

op_well_formed : IsWellFormed still_op
op_well_formed = record { count = omega arith; names = (differ_decides (map (λ p. p.name) still_op.params)).0 refl; body = tt }

lawful_agents : AreAgents stream_table (0 ∷ []) 1
lawful_agents = record { count = (omega arith, omega arith); peers = all_one (λ p. p < 2) 0 (omega arith); rising = tt; votes = (omega arith, omega arith) }

lawful_app : IsLawfulApp stream_table still_bank
lawful_app = record {
  named = name_bank;
  agents = lawful_agents;
  clients = omega arith;
  clients_named = all_one IsName (codes "c1") name_c1;
  client_names = (differ_decides still_bank.clients).0 refl;
  ops = (omega arith, omega arith);
  ops_named = all_one (λ (op : Op). IsName op.name) still_op name_transfer;
  op_names = (differ_decides (still_op.name ∷ [])).0 refl;
  well_formed = all_one IsWellFormed still_op op_well_formed;
}

pub stream_table_lawful : IsLawfulTable stream_table
stream_table_lawful = record {
  records = omega arith;
  records_named = All-from_recursion IsName stream_table.records (letters_named 97 18 (omega arith) (omega arith));
  record_names = (refl, (refl, (refl, (refl, (refl, (refl, (refl, (refl, (refl, (refl, (refl, (refl, (refl, (refl, (refl, (refl, (refl, tt)))))))))))))))));
  orderers = (omega arith, omega arith);
  orderers_named = all_one IsName (codes "o1") name_o1;
  quorum = (omega arith, omega arith);
  peers = (omega arith, omega arith);
  peers_named = All-cons IsName (codes "p1") (codes "p2" ∷ []) name_p1 (all_one IsName (codes "p2") name_p2);
  node_names = (differ_decides (stream_table.orderers ++ stream_table.peers)).0 refl;
  apps = (omega arith, omega arith);
  app_names = (differ_decides (still_bank.name ∷ [])).0 refl;
  lawful_apps = all_one (IsLawfulApp stream_table) still_bank lawful_app;
}

-- a table of these parts is lawful
pub lawful_parts : (records orderers peers : List Name) (apps : List App) → records ≡ stream_table.records → orderers ≡ stream_table.orderers → peers ≡ stream_table.peers → apps ≡ stream_table.apps →
    IsLawfulTable (record { kind = Full; records = records; orderers = orderers; quorum = 1; peers = peers; apps = apps })
lawful_parts records orderers peers apps p q r s =
    let same : stream_table ≡ record { kind = Full; records = records; orderers = orderers; quorum = 1; peers = peers; apps = apps } =
    λ i. record { kind = Full; records = sym p i; orderers = sym q i; quorum = 1; peers = sym r i; apps = sym s i } in
    subst IsLawfulTable same stream_table_lawful
