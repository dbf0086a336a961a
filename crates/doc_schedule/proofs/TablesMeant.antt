-- A faulty node is found by its name exactly where the name is that of one.
use Rattle.std.proofs.Common.{◌≡◌, ℕ, ◌⊎◌, inl, inr, Bool, true, false, cond, ◌||◌, ◌==◌, List, [], ◌∷◌, Option, Some, None, option_and_then, Ok, refl, ap, subst, arith}
use Rattle.std.specs.Prelude.{codes}
use Rattle.std.specs.List.{Contains}
use Rattle.std.proofs.lemmas.Bool.Decides.{nat_tests}
use Rattle.std.proofs.lemmas.Map.Views.{Contains-from_any}
use Rattle.serde_json.specs.Data.{Members}
use Rattle.serde_json.specs.Find.{get_member}
use Rattle.txn_types.specs.declared.message.Node.{Node}
use Rattle.node_defs.specs.Same.{same_node}
use Rattle.node_defs.proofs.SameLemmas.{same_node_decides}
use Rattle.doc_forms.specs.declared.fault.Step.TheVariants.{Key}
use Rattle.doc_forms.specs.Tables.{node_named, reference}
use Rattle.doc_forms.specs.Meaning.{IsNodeName}
use Rattle.doc_forms.proofs.LookUps.{Finds, NodesDiffer, nodes_find}
use Rattle.doc_forms.proofs.Meant.{within_ok, reference_means, reference_reads}
use Rattle.doc_forms.proofs.SortedOnce.{none_there, there_cases}
use Rattle.doc_schedule.specs.Tables.{is_among, if_faulty, faulty_named, faulty_at}
use Rattle.doc_schedule.specs.ScheduleMeaning.{HasFaulty}

pub eqb-same : (n : ℕ) → (n == n) ≡ true
eqb-same n = grind (arith, nat_tests)

pub among_there : (nodes : List Node) (node : Node) → Contains nodes node → is_among nodes node ≡ true
among_there [] node h = absurd (none_there node h)
among_there (other ∷ rest) node h = by_place (among_there rest node) (there_cases other rest node h)
  where
    or_true : (b : Bool) → (b || true) ≡ true
    or_true true = refl
    or_true false = refl

    by_place : (Contains rest node → is_among rest node ≡ true) → (other ≡ node) ⊎ Contains rest node → (same_node node other || is_among rest node) ≡ true
    by_place later (inl same) = rw (same, (same_node_decides node node).1 refl) refl
    by_place later (inr there) = rw (later there) (or_true (same_node node other))

abbrev some_node : Node → Option Node
some_node node = Some node

same_some : (a b : Node) → some_node a ≡ some_node b → a ≡ b
same_some a b e = cc

faulty_found : (faulty : List Node) (o : Option Node) (node : Node) → option_and_then (if_faulty faulty) o ≡ Some node → (o ≡ Some node) × Contains faulty node
faulty_found faulty None node e = absurd cc
faulty_found faulty (Some n) node e = by_test (is_among faulty n) (Contains-from_any (λ a b. (same_node_decides a b).0) n faulty) e
  where
    by_test : (b : Bool) → (b ≡ true → Contains faulty n) → cond b (Some n) None ≡ Some node → (Option.Some n ≡ Some node) × Contains faulty node
    by_test true there e = (e, subst (Contains faulty) (same_some n node e) (there refl))
    by_test false there e = absurd cc

faulty_kept : (faulty : List Node) (o : Option Node) (node : Node) → o ≡ Some node → Contains faulty node → option_and_then (if_faulty faulty) o ≡ Some node
faulty_kept faulty o node is there = rw (is, among_there faulty node there) refl

-- a name is that of a faulty node
abbrev IsFaultyName : List (List ℕ) → List (List ℕ) → List Node → List ℕ → Node → Type 0
IsFaultyName orderers peers faulty text node = IsNodeName orderers peers text node × Contains faulty node

faulty_finds : (orderers peers : List (List ℕ)) (faulty : List Node) → NodesDiffer orderers peers → Finds (faulty_named orderers peers faulty) (IsFaultyName orderers peers faulty)
unfolding faulty_named
faulty_finds orderers peers faulty differ =
    let nodes = nodes_find orderers peers differ in
    record {
      found = λ text node e.
          let is = faulty_found faulty (node_named orderers peers text) node e in
          (nodes.found text node is.0, is.1);
      finds = λ text node h. faulty_kept faulty (node_named orderers peers text) node (nodes.finds text node h.0) h.1;
    }

pub faulty_at_means : (orderers peers : List (List ℕ)) (faulty : List Node) → NodesDiffer orderers peers → (ms : Members) (node : Node) → faulty_at orderers peers faulty ms ≡ Ok node → HasFaulty orderers peers faulty (get_member (codes "from") ms) node
unfolding faulty_at
faulty_at_means orderers peers faulty differ ms node e =
    let checked = within_ok (Key (codes "from")) (reference (faulty_named orderers peers faulty) (get_member (codes "from") ms)) node e in
    let r = reference_means (faulty_named orderers peers faulty) (IsFaultyName orderers peers faulty) (faulty_finds orderers peers faulty differ) _ node checked in
    ((r.0, r.1, r.2.0), r.2.1)

pub faulty_at_reads : (orderers peers : List (List ℕ)) (faulty : List Node) → NodesDiffer orderers peers → (ms : Members) (node : Node) → HasFaulty orderers peers faulty (get_member (codes "from") ms) node → faulty_at orderers peers faulty ms ≡ Ok node
unfolding faulty_at
faulty_at_reads orderers peers faulty differ ms node h =
    rw (reference_reads (faulty_named orderers peers faulty) (IsFaultyName orderers peers faulty) (faulty_finds orderers peers faulty differ) (get_member (codes "from") ms) node (h.0.0, h.0.1, (h.0.2, h.1))) refl
