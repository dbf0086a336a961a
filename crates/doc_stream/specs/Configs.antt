-- A configuration, with its first fault.
use Rattle.std.specs.Prelude.{ℕ, List, [], ◌∷◌, codes, Result, Ok}
use Rattle.serde_json.specs.Data.{Members}
use Rattle.txn_types.specs.declared.block.Config.{Config}
use Rattle.doc_forms.specs.Faults.{Fault}
use Rattle.doc_forms.specs.Check.{◌>>=◌}
use Rattle.doc_forms.specs.Forms.{at, only}
use Rattle.doc_forms.specs.Tables.{place_below, reference}
use Rattle.doc_forms.specs.Agents.{agents_and_tau}

-- the application at the key `config`
unfoldable pub app_at : List (List ℕ) → Members → Result ℕ Fault
app_at apps ms = at (codes "config") ms (reference (place_below 256 apps))

-- the keys of a configuration, in this order
unfoldable pub stream_config : List (List ℕ) → List (List ℕ) → Members → Result Config Fault
stream_config apps peers ms = do
  app ← app_at apps ms
  who ← agents_and_tau peers ms
  end ← only (codes "config" ∷ codes "agents" ∷ codes "tau" ∷ []) ms
  Ok (record { app = app; agents = who.agents; tau = who.tau })
