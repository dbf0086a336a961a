-- The kinds of step with their conditions: each keeps the rule, whatever the other passes did before.
use Rattle.std.specs.Prelude.{◌≡◌, ℕ, true, ◌⊎◌, ◌+◌, ◌-◌, ◌%◌, ◌^◌, ◌<◌, Some}
use mathlib.Core.Option.{none, some}
use lib.ListN.{get_elem?}
use Rattle.atomic_table.specs.Table.{State, Me, step, Allows, Splits, Joins}
use Rattle.board_core.specs.declared.view.View.{View}
use Rattle.board_core.specs.Counts.{times, times_pair, times_first}
use Rattle.board_core.specs.Words.{need_at, turn_at, part_at, value_place, value}
use Rattle.board_core.specs.Script.{Script, IsOwn, Uses, Gives, serial_value}
use Rattle.board_core.specs.Rule.{Holds, IsLive, spent}
use Rattle.board_core.specs.Steps.{counted_down, publishing, writing, splitting, newcomer, joined, Tells, Loads, Swaps, Begins, Finishes, LoadsValue, Sets, Puts}
use Rattle.board_core.specs.Passes.{IsHeld}

-- InputsAreSerial: what a position that is held and has written nothing finds in the records that it uses are their serial values
abbrev pub InputsAreSerial : Type 0
InputsAreSerial = (p : Script) (s : State ℕ View) (id : ℕ) (v : View) (t r : ℕ) → Holds p s → get_elem? s.views id ≡ some v → IsHeld v t → times_first t v.written ≡ 0 → Uses p t r → value s.words r ≡ serial_value p t r

-- where the acting pass isn't the spent one and meets the condition, the step keeps the rule and says what it says
pub record StepsKeepTheRule (p : Script) : Type 0 where
  pub load_need : (slots id : ℕ) (me : Me ℕ View) (t : ℕ) → IsLive me.0 → IsOwn p t → Allows (Holds p) slots id me (need_at t) (λ n. n) (Loads t (step slots (need_at t) 0 0 none) me)
  -- t is noted as ready
  pub swap_turn : (slots id : ℕ) (me : Me ℕ View) (t : ℕ) → IsLive me.0 → 0 < times t me.0.ready → Allows (Holds p) slots id me (turn_at t) (λ _. 1) (Swaps t (step slots (turn_at t) 1 0 none) me)
  -- t is taken and has no begin stamp
  pub begin_stamp : (slots id : ℕ) (me : Me ℕ View) (t : ℕ) → IsLive me.0 → 0 < times t me.0.taken → times_first t me.0.begins ≡ 0
      → Allows (Holds p) slots id me 0 (λ n. (n + 1) % 2 ^ 64) (Begins p t (step slots 0 1 0 none) me)
  -- t is held and has written nothing
  pub load_value : (slots id : ℕ) (me : Me ℕ View) (t r : ℕ) → IsLive me.0 → 0 < times_first t me.0.begins → times_first t me.0.finishes ≡ 0 → times_first t me.0.written ≡ 0 → Uses p t r
      → Allows (Holds p) slots id me (value_place r) (λ n. n) (LoadsValue (serial_value p t r) (step slots (value_place r) 0 0 none) me)
  -- t has begun, and the word is one that is set at the start or that of a position which t waited for
  pub load_part : (slots id : ℕ) (me : Me ℕ View) (x t k : ℕ) → IsLive me.0 → 0 < times_first t me.0.begins → k < p.parts x → (p.fixed x k ≡ true) ⊎ (0 < p.edge x t)
      → Allows (Holds p) slots id me (part_at x k) (λ n. n) (LoadsValue (p.meant x k) (step slots (part_at x k) 0 0 none) me)
  -- t is held, this word of it isn't published, and it is set as meant: it was 0, whatever the other passes did
  pub publish : (slots id : ℕ) (me : Me ℕ View) (t k : ℕ) → IsLive me.0 → 0 < times_first t me.0.begins → times_first t me.0.finishes ≡ 0 → k < p.parts t → times_pair t k me.0.published ≡ 0
      → Allows (Holds p) slots id me (part_at t k) (λ _. p.meant t k) (Sets (publishing t k) (step slots (part_at t k) (p.meant t k) 0 none) me)
  -- t is held, all its words are published, and its outcome gives the record this value
  pub write_value : (slots id : ℕ) (me : Me ℕ View) (t r n : ℕ) → IsLive me.0 → 0 < times_first t me.0.begins → times_first t me.0.finishes ≡ 0 → ((k : ℕ) → k < p.parts t → 0 < times_pair t k me.0.published) → p.effect t r ≡ Some n
      → Allows (Holds p) slots id me (value_place r) (λ _. n) (Puts (writing t r) (step slots (value_place r) n 0 none) me)
  -- t is held, and all its parts are published and written
  pub finish_stamp : (slots id : ℕ) (me : Me ℕ View) (t begin : ℕ) → IsLive me.0 → 0 < times_first t me.0.begins → times_first t me.0.finishes ≡ 0
      → ((k : ℕ) → k < p.parts t → 0 < times_pair t k me.0.published) → ((r : ℕ) → Gives p t r → 0 < times_pair t r me.0.written)
      → Allows (Holds p) slots id me 0 (λ n. (n + 1) % 2 ^ 64) (Finishes t begin (step slots 0 1 0 none) me)
  -- s is finished, and the edge from s to t is of the graph and isn't counted
  pub count_down : (slots id : ℕ) (me : Me ℕ View) (s t : ℕ) → IsLive me.0 → 0 < times_first s me.0.finishes → 0 < p.edge s t → times_pair s t me.0.counted ≡ 0
      → Allows (Holds p) slots id me (need_at t) (λ n. (n + (2 ^ 64 - 1)) % 2 ^ 64) (Tells (counted_down s t) (step slots (need_at t) 1 0 none) me)
  -- fewer than 16 passes were made
  pub split_seat : (id : ℕ) (v : View) → IsLive v → v.passes < 16 → Splits (Holds p) id v (splitting v) (newcomer v.passes)
  pub join_seat : (id other : ℕ) (v u : View) → IsLive v → Joins (Holds p) id v other u (joined v u) spent
