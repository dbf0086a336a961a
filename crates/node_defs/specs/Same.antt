-- Tests of equality for the flat data.
use Rattle.std.specs.Prelude.{ℕ, ◌==◌, Bool, true, false, ◌&&◌, List, [], ◌∷◌, Option, Some, None}
use Rattle.txn_types.specs.declared.txn.Reason.{Reason}
use Rattle.txn_types.specs.declared.txn.Reason.TheVariants.{Require, Overflow, Underflow, ZeroDivisor, Undeclared}
use Rattle.txn_types.specs.declared.txn.Arg.{Arg}
use Rattle.txn_types.specs.declared.txn.Arg.TheVariants.{Rec, Num}
use Rattle.txn_types.specs.declared.txn.Outcome.{Outcome}
use Rattle.txn_types.specs.declared.txn.Outcome.TheVariants.{Commit, Abort}
use Rattle.txn_types.specs.declared.txn.Txn.{Txn}
use Rattle.txn_types.specs.declared.block.Config.{Config}
use Rattle.txn_types.specs.declared.block.Block.{Block}
use Rattle.txn_types.specs.declared.message.Node.{Node}
use Rattle.txn_types.specs.declared.message.Node.TheVariants.{Peer, Orderer}

-- equal numbers
abbrev pub same_number : ℕ → ℕ → Bool
same_number x y = x == y

-- both are none, or equal
abbrev pub same_option : {A : Type 0} → (A → A → Bool) → Option A → Option A → Bool
same_option same None None = true
same_option same (Some x) (Some y) = same x y
same_option same _ _ = false

-- as long, and equal at each position
abbrev pub same_list : {A : Type 0} → (A → A → Bool) → List A → List A → Bool
same_list same [] [] = true
same_list same (x ∷ xs) (y ∷ ys) = same x y && same_list same xs ys
same_list same _ _ = false

-- the same reason
abbrev pub same_reason : Reason → Reason → Bool
same_reason Require Require = true
same_reason Overflow Overflow = true
same_reason Underflow Underflow = true
same_reason ZeroDivisor ZeroDivisor = true
same_reason Undeclared Undeclared = true
same_reason _ _ = false

-- commits with equal entries, or aborts with one reason
abbrev pub same_outcome : Outcome → Outcome → Bool
same_outcome (Commit u) (Commit v) = same_list (same_option same_number) u v
same_outcome (Abort r) (Abort s) = same_reason r s
same_outcome _ _ = false

-- the same record, or the same number
abbrev pub same_arg : Arg → Arg → Bool
same_arg (Rec r) (Rec s) = r == s
same_arg (Num m) (Num n) = m == n
same_arg _ _ = false

-- equal in each field
abbrev pub same_txn : Txn → Txn → Bool
same_txn a b =
    (a.app == b.app) && (a.op == b.op) && same_list same_arg a.args b.args
    && same_list same_number a.reads b.reads && same_list same_number a.writes b.writes

-- equal in each field
abbrev pub same_config : Config → Config → Bool
same_config a b = (a.app == b.app) && same_list same_number a.agents b.agents && (a.tau == b.tau)

-- equal contents: number, previous hash, transactions and configuration
abbrev pub same_block : Block → Block → Bool
same_block a b =
    (a.number == b.number) && same_list same_number a.prev b.prev
    && same_list same_txn a.txns b.txns && same_option same_config a.config b.config

-- the same peer or orderer
abbrev pub same_node : Node → Node → Bool
same_node (Peer p) (Peer q) = p == q
same_node (Orderer o) (Orderer q) = o == q
same_node _ _ = false
