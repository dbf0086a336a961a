-- The tests of `Same` hold exactly of equal values, and `==` of code answers by them.
use Rattle.std.specs.Prelude.{ℕ, ◌≡◌, ◌==◌, Bool, true, ◌&&◌, List, Option, Some, None, refl}
use Rattle.std.specs.Bool.{Decides}
use Rattle.std.specs.Cmp.Lexicographic.{pointwise, pointwise_decides}
use Rattle.std.proofs.Common.{◌∙◌, ap, subst}
use Rattle.std.proofs.lemmas.Bool.{and_parts, and_from, false≢true}
use Rattle.std.proofs.Math.Bool.{and_assoc}
use Rattle.std.proofs.lemmas.Bool.Decides.{Decides-eqb}
use Rattle.txn_types.specs.declared.txn.Reason.{Reason}
use Rattle.txn_types.specs.declared.txn.Reason.TheVariants.{Require, Overflow, Underflow, ZeroDivisor, Undeclared}
use Rattle.txn_types.specs.declared.txn.Arg.{Arg}
use Rattle.txn_types.specs.declared.txn.Arg.TheVariants.{Rec, Num}
use Rattle.txn_types.specs.declared.txn.Outcome.{Outcome}
use Rattle.txn_types.specs.declared.txn.Outcome.TheVariants.{Commit, Abort}
use Rattle.txn_types.specs.declared.txn.Txn.{Txn}
use Rattle.txn_types.specs.declared.block.Config.{Config}
use Rattle.txn_types.specs.declared.block.Block.{Block}
use Rattle.txn_types.specs.declared.message.Node.{Node}
use Rattle.txn_types.specs.declared.message.Node.TheVariants.{Peer, Orderer}
use Rattle.txn_types.specs.contracts.txn.ArgPartialEq.TheImpl as arg_impl
use Rattle.txn_types.specs.contracts.txn.ReasonPartialEq.TheImpl as reason_impl
use Rattle.txn_types.specs.contracts.txn.OutcomePartialEq.TheImpl as outcome_impl
use Rattle.txn_types.specs.contracts.txn.TxnPartialEq.TheImpl as txn_impl
use Rattle.txn_types.specs.contracts.block.ConfigPartialEq.TheImpl as config_impl
use Rattle.txn_types.specs.contracts.block.BlockPartialEq.TheImpl as block_impl
use Rattle.txn_types.specs.contracts.message.NodePartialEq.TheImpl as node_impl
use Rattle.node_defs.specs.Same.{same_number, same_option, same_list, same_reason, same_outcome, same_arg, same_txn, same_config, same_block, same_node}

-- a test that holds of each value and itself, and of equal values alone
decides : {A : Type 0} (same : A → A → Bool) → ((x : A) → same x x ≡ true) → ((x y : A) → same x y ≡ true → x ≡ y) → (x y : A) → Decides (same x y) (x ≡ y)
decides {A} same own equal x y = let P : A → Type 0 = λ z. same x z ≡ true in (equal x y, λ e. subst P e (own x))

-- numbers, options and lists
pub same_number_decides : (x y : ℕ) → Decides (same_number x y) (x ≡ y)
same_number_decides = Decides-eqb

module _ {A : Type 0} {same : A → A → Bool} (each : (x y : A) → Decides (same x y) (x ≡ y)) where
  pub same_list_decides : (xs ys : List A) → Decides (same_list same xs ys) (xs ≡ ys)
  same_list_decides = pointwise_decides each

  option_own : (x : Option A) → same_option same x x ≡ true
  option_own None = refl
  option_own (Some x) = (each x x).1 refl

  option_equal : (x y : Option A) → same_option same x y ≡ true → x ≡ y
  option_equal None None h = refl
  option_equal None (Some y) h = absurd (false≢true h)
  option_equal (Some x) None h = absurd (false≢true h)
  option_equal (Some x) (Some y) h = ap Some ((each x y).0 h)

  pub same_option_decides : (x y : Option A) → Decides (same_option same x y) (x ≡ y)
  same_option_decides = decides (same_option same) option_own option_equal

-- `==` of lists is `same_list`
pub pointwise-same_list : {A : Type 0} (same : A → A → Bool) (xs ys : List A) → pointwise same xs ys ≡ same_list same xs ys
pointwise-same_list same xs ys = refl

-- reasons
reason_own : (r : Reason) → same_reason r r ≡ true
reason_own Require = refl
reason_own Overflow = refl
reason_own Underflow = refl
reason_own ZeroDivisor = refl
reason_own Undeclared = refl

reason_equal : (r s : Reason) → same_reason r s ≡ true → r ≡ s
reason_equal Require Require h = refl
reason_equal Overflow Overflow h = refl
reason_equal Underflow Underflow h = refl
reason_equal ZeroDivisor ZeroDivisor h = refl
reason_equal Undeclared Undeclared h = refl
reason_equal _ _ h = absurd (false≢true h)

pub same_reason_decides : (r s : Reason) → Decides (same_reason r s) (r ≡ s)
same_reason_decides = decides same_reason reason_own reason_equal

-- outcomes
entries_decide : (u v : List (Option ℕ)) → Decides (same_list (same_option same_number) u v) (u ≡ v)
entries_decide = same_list_decides (same_option_decides same_number_decides)

outcome_own : (o : Outcome) → same_outcome o o ≡ true
outcome_own (Commit u) = (entries_decide u u).1 refl
outcome_own (Abort r) = reason_own r

outcome_equal : (o p : Outcome) → same_outcome o p ≡ true → o ≡ p
outcome_equal (Commit u) (Commit v) h = ap Commit ((entries_decide u v).0 h)
outcome_equal (Commit u) (Abort s) h = absurd (false≢true h)
outcome_equal (Abort r) (Commit v) h = absurd (false≢true h)
outcome_equal (Abort r) (Abort s) h = ap Abort (reason_equal r s h)

pub same_outcome_decides : (o p : Outcome) → Decides (same_outcome o p) (o ≡ p)
same_outcome_decides = decides same_outcome outcome_own outcome_equal

-- arguments
arg_own : (a : Arg) → same_arg a a ≡ true
arg_own (Rec r) = (Decides-eqb r r).1 refl
arg_own (Num n) = (Decides-eqb n n).1 refl

arg_equal : (a b : Arg) → same_arg a b ≡ true → a ≡ b
arg_equal (Rec r) (Rec s) h = ap Rec ((Decides-eqb r s).0 h)
arg_equal (Rec r) (Num n) h = absurd (false≢true h)
arg_equal (Num m) (Rec s) h = absurd (false≢true h)
arg_equal (Num m) (Num n) h = ap Num ((Decides-eqb m n).0 h)

pub same_arg_decides : (a b : Arg) → Decides (same_arg a b) (a ≡ b)
same_arg_decides = decides same_arg arg_own arg_equal

-- nodes
node_own : (a : Node) → same_node a a ≡ true
node_own (Peer p) = (Decides-eqb p p).1 refl
node_own (Orderer o) = (Decides-eqb o o).1 refl

node_equal : (a b : Node) → same_node a b ≡ true → a ≡ b
node_equal (Peer p) (Peer q) h = ap Peer ((Decides-eqb p q).0 h)
node_equal (Peer p) (Orderer q) h = absurd (false≢true h)
node_equal (Orderer o) (Peer q) h = absurd (false≢true h)
node_equal (Orderer o) (Orderer q) h = ap Orderer ((Decides-eqb o q).0 h)

pub same_node_decides : (a b : Node) → Decides (same_node a b) (a ≡ b)
same_node_decides = decides same_node node_own node_equal

-- lists of numbers
numbers_decide : (xs ys : List ℕ) → Decides (same_list same_number xs ys) (xs ≡ ys)
numbers_decide = same_list_decides same_number_decides

-- a conjunction decides what its parts decide together
both_decide : {s t : Bool} {P Q : Type 0} → Decides s P → Decides t Q → Decides (s && t) (P × Q)
both_decide {s} {t} p q = (λ h. let parts = and_parts s t h in (p.0 parts.0, q.0 parts.1), λ h. and_from s t (p.1 h.0) (q.1 h.1))

-- transactions
txn_fields : (a b : Txn) → Decides (same_txn a b) (((((a.app ≡ b.app) × (a.op ≡ b.op)) × (a.args ≡ b.args)) × (a.reads ≡ b.reads)) × (a.writes ≡ b.writes))
txn_fields a b =
    let numbers = both_decide (Decides-eqb a.app b.app) (Decides-eqb a.op b.op) in
    let call = both_decide numbers (same_list_decides same_arg_decides a.args b.args) in
    both_decide (both_decide call (numbers_decide a.reads b.reads)) (numbers_decide a.writes b.writes)

pub same_txn_decides : (a b : Txn) → Decides (same_txn a b) (a ≡ b)
same_txn_decides =
    let own : (a : Txn) → same_txn a a ≡ true = λ a. (txn_fields a a).1 ((((refl, refl), refl), refl), refl) in
    decides same_txn own (λ a b h.
    let f = (txn_fields a b).0 h in
    λ i. record { app = f.0.0.0.0 i; op = f.0.0.0.1 i; args = f.0.0.1 i; reads = f.0.1 i; writes = f.1 i })

-- configurations
config_fields : (a b : Config) → Decides (same_config a b) (((a.app ≡ b.app) × (a.agents ≡ b.agents)) × (a.tau ≡ b.tau))
config_fields a b = both_decide (both_decide (Decides-eqb a.app b.app) (numbers_decide a.agents b.agents)) (Decides-eqb a.tau b.tau)

pub same_config_decides : (a b : Config) → Decides (same_config a b) (a ≡ b)
same_config_decides =
    let own : (a : Config) → same_config a a ≡ true = λ a. (config_fields a a).1 ((refl, refl), refl) in
    decides same_config own (λ a b h.
    let f = (config_fields a b).0 h in
    λ i. record { app = f.0.0 i; agents = f.0.1 i; tau = f.1 i })

-- blocks
block_fields : (a b : Block) → Decides (same_block a b) ((((a.number ≡ b.number) × (a.prev ≡ b.prev)) × (a.txns ≡ b.txns)) × (a.config ≡ b.config))
block_fields a b =
    let link = both_decide (Decides-eqb a.number b.number) (numbers_decide a.prev b.prev) in
    both_decide (both_decide link (same_list_decides same_txn_decides a.txns b.txns)) (same_option_decides same_config_decides a.config b.config)

pub same_block_decides : (a b : Block) → Decides (same_block a b) (a ≡ b)
same_block_decides =
    let own : (a : Block) → same_block a a ≡ true = λ a. (block_fields a a).1 (((refl, refl), refl), refl) in
    decides same_block own (λ a b h.
    let f = (block_fields a b).0 h in
    λ i. record { number = f.0.0.0 i; prev = f.0.0.1 i; txns = f.0.1 i; config = f.1 i })

-- what `==` answers at each of these types
pub arg_eq : (a b : Arg) → same_arg a b ≡ (arg_impl.ghosts).eq a b
arg_eq (Rec r) (Rec s) = refl
arg_eq (Rec r) (Num n) = refl
arg_eq (Num m) (Rec s) = refl
arg_eq (Num m) (Num n) = refl

pub node_eq : (a b : Node) → same_node a b ≡ (node_impl.ghosts).eq a b
node_eq (Peer p) (Peer q) = refl
node_eq (Peer p) (Orderer q) = refl
node_eq (Orderer o) (Peer q) = refl
node_eq (Orderer o) (Orderer q) = refl

reason_eq : (r s : Reason) → same_reason r s ≡ (reason_impl.ghosts).eq r s
reason_eq Require Require = refl
reason_eq Overflow Overflow = refl
reason_eq Underflow Underflow = refl
reason_eq ZeroDivisor ZeroDivisor = refl
reason_eq Undeclared Undeclared = refl
reason_eq _ _ = refl

pub outcome_eq : (o p : Outcome) → same_outcome o p ≡ (outcome_impl.ghosts).eq o p
outcome_eq (Commit u) (Commit v) = refl
outcome_eq (Commit u) (Abort s) = refl
outcome_eq (Abort r) (Commit v) = refl
outcome_eq (Abort r) (Abort s) = reason_eq r s

pub txn_eq : (a b : Txn) → same_txn a b ≡ (txn_impl.ghosts).eq a b
txn_eq a b =
    let parts : same_txn a b ≡ ((a.app == b.app) && (a.op == b.op) && pointwise (arg_impl.ghosts).eq a.args b.args && pointwise same_number a.reads b.reads && pointwise same_number a.writes b.writes) =
    λ i. (a.app == b.app) && (a.op == b.op) && same_list (λ x y. arg_eq x y i) a.args b.args && same_list same_number a.reads b.reads && same_list same_number a.writes b.writes in
    parts ∙ simp and_assoc refl

pub config_eq : (a b : Config) → same_config a b ≡ (config_impl.ghosts).eq a b
config_eq a b = simp and_assoc refl

pub block_eq : (a b : Block) → same_block a b ≡ (block_impl.ghosts).eq a b
block_eq a b =
    let parts : same_block a b ≡ ((a.number == b.number) && same_list same_number a.prev b.prev && pointwise (txn_impl.ghosts).eq a.txns b.txns && same_option (config_impl.ghosts).eq a.config b.config) =
    λ i. (a.number == b.number) && same_list same_number a.prev b.prev && same_list (λ x y. txn_eq x y i) a.txns b.txns && same_option (λ x y. config_eq x y i) a.config b.config in
    parts ∙ simp and_assoc refl
