-- Positions, which a document numbers from 1.
use Rattle.std.specs.Prelude.{ℕ, ◌-◌, Option, Result, Ok}
use Rattle.serde_json.specs.Data.{Data}
use Rattle.doc_forms.specs.declared.fault.Which.{Which}
use Rattle.doc_forms.specs.Faults.{Fault}
use Rattle.doc_forms.specs.Check.{◌>>=◌}
use Rattle.doc_forms.specs.Forms.{number_in}

-- a number from 1 on, as a position from 0
unfoldable pub place_in : ℕ → Which → Option Data → Result ℕ Fault
place_in high which v = do
  n ← number_in 1 high which v
  Ok (n - 1)
