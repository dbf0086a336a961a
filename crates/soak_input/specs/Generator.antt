-- The input that a seed makes.
use Rattle.std.specs.Prelude.{◌≡◌, ℕ, zero, suc, ◌+◌, ◌*◌, ◌/◌, ◌%◌, ◌==◌, nat_lt, if◌then◌else◌, List, [], ◌∷◌, ◌++◌, map, replicate, codes}
use Rattle.std.specs.List.{range_with_len}
use Rattle.txn_types.specs.declared.txn.Arg.TheVariants as arg
use Rattle.txn_types.specs.declared.txn.Kind.TheVariants.{Full}
use Rattle.txn_types.specs.declared.stream.Item.{Item}
use Rattle.txn_types.specs.declared.stream.Item.TheVariants as item
use Rattle.txn_types.specs.declared.stream.Request.{Request}
use Rattle.txn_types.specs.declared.event.Event.TheVariants as event
use Rattle.oxii_defs.specs.Syntax.{Name, Op}
use Rattle.oxii_defs.specs.Table.{App, Table}
use Rattle.contract_text.specs.TextMeaning.{IsContract}
use Rattle.input_doc.specs.Inputs.{Input}

-- DRAWS

-- the draw that follows x, which is the draw before it, or the seed
abbrev pub next_draw : ℕ → ℕ
next_draw x = (75 * x + 74) % 65537

-- NAMES

-- the byte of a digit
abbrev pub digit : ℕ → ℕ
digit d = 48 + d

-- `r` and the three digits of the record's number
abbrev pub record_name : ℕ → Name
record_name r = codes "r" ++ digit (r / 100) ∷ digit (r / 10 % 10) ∷ digit (r % 10) ∷ []

-- a letter and a digit
abbrev pub numbered : (letter : List ℕ) → ℕ → Name
numbered letter n = letter ++ digit n ∷ []

-- applications are numbered from 1 on
abbrev pub app_name : ℕ → Name
app_name i = numbered (codes "a") i

-- THE TABLE

-- the text of each application's contract
abbrev pub pay_text : List ℕ
pay_text = codes "op pay(from:record,to:record,n:number){require from>=n;from=from-n;to=to+n;}"

-- an application with these two agents, who must agree
abbrev pub app_of : List Op → ℕ → List ℕ → App
app_of ops i agents = record { name = app_name i; agents = agents; tau = 2; clients = codes "c1" ∷ []; ops = ops }

-- application i has the agents pi and pj, where j is i + 1, or 1 for i = 4; peers are numbered from 0, and sets rise
abbrev pub apps_of : List Op → List App
apps_of ops = app_of ops 1 (0 ∷ 1 ∷ []) ∷ app_of ops 2 (1 ∷ 2 ∷ []) ∷ app_of ops 3 (2 ∷ 3 ∷ []) ∷ app_of ops 4 (0 ∷ 3 ∷ []) ∷ []

-- 256 records, three orderers, four peers and four applications, whose contract has these operations
abbrev pub table_of : List Op → Table
table_of ops = record {
  kind = Full;
  records = map record_name (range_with_len 0 256);
  orderers = codes "o1" ∷ codes "o2" ∷ codes "o3" ∷ [];
  quorum = 2;
  peers = codes "p1" ∷ codes "p2" ∷ codes "p3" ∷ codes "p4" ∷ [];
  apps = apps_of ops;
}

-- THE STREAM

-- the set of two records, rising: one record where both are the same
abbrev pub pair_set : ℕ → ℕ → List ℕ
pair_set r q = if r == q then r ∷ [] else (if nat_lt r q then r ∷ q ∷ [] else q ∷ r ∷ [])

-- a payment of an amount from one record to another, which it reads and writes, by the client of an application
abbrev pub payment : (app from to amount : ℕ) → Request
payment app from to amount = record {
  client = codes "c1";
  app = app_name app;
  op = codes "pay";
  args = arg.Rec from ∷ arg.Rec to ∷ arg.Num amount ∷ [];
  reads = pair_set from to;
  writes = pair_set from to;
}

-- the payment of four draws: they give the application, the two records and the amount
abbrev pub drawn : (d1 d2 d3 d4 : ℕ) → Request
drawn d1 d2 d3 d4 = payment (1 + d1 % 4) (d2 % 256) (d3 % 256) (1 + d4 % 100)

-- the payment of the four draws that follow x
abbrev pub drawn_behind : ℕ → Request
drawn_behind x = drawn (next_draw x) (next_draw (next_draw x)) (next_draw (next_draw (next_draw x))) (next_draw (next_draw (next_draw (next_draw x))))

-- so many payments, of which each takes the next four draws
abbrev pub stream_behind : ℕ → ℕ → List Item
stream_behind x zero = []
stream_behind x (suc more) = item.Ask (drawn_behind x) ∷ stream_behind (next_draw (next_draw (next_draw (next_draw x)))) more

-- THE INPUT

-- the input of a seed and a count of transactions, whose contracts have these operations: each record begins with 1000, no node is faulty, and each message comes to each peer
abbrev pub input_with : List Op → (seed txns : ℕ) → Input
input_with ops seed txns = record {
  table = table_of ops;
  genesis = replicate 256 1000;
  items = stream_behind seed txns;
  limits = record { txns = 256; bytes = 1048576 };
  faulty = [];
  schedule = event.All ∷ [];
}

-- what the program `soak` runs for a seed and a count of transactions
pub record IsSoakInput (seed txns : ℕ) (input : Input) : Type 0 where
  pub ops : List Op
  -- the operations of the contract are those that its text means
  pub contract : IsContract pay_text ops
  pub is : input ≡ input_with ops seed txns
