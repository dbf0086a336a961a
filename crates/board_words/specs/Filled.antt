-- What a board is made of, and what a plan fills in.
use Rattle.std.specs.Prelude.{◌≡◌, ◌≢◌, ◌+◌, ◌<◌, ◌≤◌, ℕ, true, false, List, [], length, slice_index, slice_index_or, Option, None, is_some}
use Rattle.txn_types.specs.declared.txn.Outcome.{Outcome}
use Rattle.oxii_defs.specs.Dependency.{graph_of}
use Rattle.oxii_defs.specs.State.{value_in}
use Rattle.known_defs.specs.Known.{after_known}
use Rattle.board_defs.specs.Closure.{Plan, IsLawfulPlan, known_at}
use Rattle.board_core.specs.Counts.{times}
use Rattle.board_core.specs.Words.{part, part_at, value, value_place}
use Rattle.board_work.specs.declared.plan.Plan as declared
use Rattle.board_work.specs.Plans.{plan_of}
use Rattle.board_work.specs.declared.layout.Layout.{Layout}
use Rattle.board_work.specs.Scripts.{script, writes_at, word_of, has_values}
use Rattle.script_laws.specs.Laws.{IsPlanFor}

-- a lawful plan and its graph
pub record IsGraphed (p : declared.Plan) : Type 0 where
  pub lawful : IsLawfulPlan (plan_of p)
  pub graph : p.graph.now.preds ≡ graph_of p.table.now.kind p.block.now.txns

-- a lawful plan, of kind full where the words keep the value of each record, its graph, and a value for each record
pub record IsBoardPlan (layout : Layout) (p : declared.Plan) : Type 0 where
  pub lawful : IsPlanFor layout (plan_of p)
  pub graph : p.graph.now.preds ≡ graph_of p.table.now.kind p.block.now.txns
  pub values : length p.base.now ≡ length p.table.now.records

-- the own positions that wait for each position
pub record AreRows (plan : Plan) (rows : List (List ℕ)) : Type 0 where
  pub long : length rows ≡ length plan.txns
  pub short : (s : ℕ) → length (slice_index_or rows s []) ≤ 256
  pub edges : (s y : ℕ) → s < length plan.txns → times y (slice_index_or rows s []) ≡ (script plan).edge s y

-- as many, and none so far
pub record AreEmpty (plan : Plan) (outcomes : List (Option Outcome)) : Type 0 where
  pub long : length outcomes ≡ length plan.txns
  pub none : (t : ℕ) → slice_index_or outcomes t None ≡ None

-- the position of a version word of a known position
abbrev pub IsEarlyVersion : Plan → ℕ → ℕ → Type 0
IsEarlyVersion plan t j = (is_some (known_at plan t) ≡ true) × (j < length (writes_at plan t))

-- the words hold what is known: the value of each record after the known outcomes, or the versions of the known writers, and all else is as before
pub record IsFilled (layout : Layout) (plan : Plan) (before after : List ℕ) : Type 0 where
  pub same : length after ≡ length before
  pub values : has_values layout ≡ true → (r : ℕ) → r < length plan.table.records → value after r ≡ value_in (after_known plan.base plan.txns plan.known) r
  pub versions : has_values layout ≡ false → (t j : ℕ) → IsEarlyVersion plan t j → part after t (j + 1) ≡ word_of (known_at plan t) (j + 1)
  pub others : (i : ℕ) → ((r : ℕ) → i ≢ value_place r) → ((t j : ℕ) → IsEarlyVersion plan t j → i ≢ part_at t (j + 1)) → slice_index after i ≡ slice_index before i
