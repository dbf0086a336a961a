-- The bank of the worked rows: two records, one orderer, one peer, and transfers from a to b.
use Rattle.std.specs.Prelude.{ℕ, [], ◌∷◌, codes}
use Rattle.txn_types.specs.declared.txn.Arg.TheVariants as arg
use Rattle.txn_types.specs.declared.txn.Txn.{Txn}
use Rattle.txn_types.specs.declared.txn.Kind.{Kind}
use Rattle.oxii_defs.specs.Syntax.{Sub, Add, Param, Rec, Calc, SetRec, Done, Then, RecKind, NumKind, Op}
use Rattle.oxii_defs.specs.Table.{App, Table}

-- `from=from-n;to=to+n;`
abbrev pub transfer_op : Op
transfer_op = record {
  name = codes "transfer";
  params = record { name = codes "from"; kind = RecKind } ∷ record { name = codes "to"; kind = RecKind } ∷ record { name = codes "n"; kind = NumKind } ∷ [];
  body = Then (SetRec 0 (Calc Sub (Rec 0) (Param 2))) (Then (SetRec 1 (Calc Add (Rec 1) (Param 2))) Done);
}

abbrev pub bank : App
bank = record { name = codes "bank"; agents = 0 ∷ []; tau = 1; clients = codes "c1" ∷ []; ops = transfer_op ∷ [] }

-- the table of the transfer document, with this kind of graphs
abbrev pub bank_table : Kind → Table
bank_table kind = record {
  kind = kind;
  records = codes "a" ∷ codes "b" ∷ [];
  orderers = codes "o1" ∷ [];
  quorum = 1;
  peers = codes "p1" ∷ [];
  apps = bank ∷ [];
}

-- a transfer from a to b
abbrev pub transfer_txn : ℕ → Txn
transfer_txn amount = record {
  app = 0;
  op = 0;
  args = arg.Rec 0 ∷ arg.Rec 1 ∷ arg.Num amount ∷ [];
  reads = 0 ∷ 1 ∷ [];
  writes = 0 ∷ 1 ∷ [];
}
