-- The table of the serial rows: one record, and one operation that sets it.
use Rattle.std.specs.Prelude.{ℕ, [], ◌∷◌, codes}
use Rattle.txn_types.specs.declared.txn.Arg.TheVariants as arg
use Rattle.txn_types.specs.declared.txn.Txn.{Txn}
use Rattle.txn_types.specs.declared.txn.Kind.TheVariants.{Full}
use Rattle.oxii_defs.specs.Syntax.{Param, SetRec, Done, Then, RecKind, NumKind, Op}
use Rattle.oxii_defs.specs.Table.{App, Table}

-- `r=n;`
abbrev pub set_op : Op
set_op = record {
  name = codes "set";
  params = record { name = codes "r"; kind = RecKind } ∷ record { name = codes "n"; kind = NumKind } ∷ [];
  body = Then (SetRec 0 (Param 1)) Done;
}

abbrev pub set_app : App
set_app = record { name = codes "stock"; agents = 0 ∷ []; tau = 1; clients = []; ops = set_op ∷ [] }

abbrev pub set_table : Table
set_table = record { kind = Full; records = codes "a" ∷ []; orderers = codes "o1" ∷ []; quorum = 1; peers = codes "p1" ∷ []; apps = set_app ∷ [] }

-- a call that sets the record to n
abbrev pub set_txn : ℕ → Txn
set_txn n = record { app = 0; op = 0; args = arg.Rec 0 ∷ arg.Num n ∷ []; reads = []; writes = 0 ∷ [] }
