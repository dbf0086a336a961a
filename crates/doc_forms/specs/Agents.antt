-- Agents, and how many of them have to agree, with their first fault.
use Rattle.std.specs.Prelude.{ℕ, List, [], codes, length, Result, Ok}
use Rattle.serde_json.specs.Data.{Members}
use Rattle.doc_forms.specs.declared.agents.AgentsAndTau.{AgentsAndTau}
use Rattle.doc_forms.specs.declared.fault.Which.TheVariants as word
use Rattle.doc_forms.specs.Faults.{Fault}
use Rattle.doc_forms.specs.Check.{◌>>=◌}
use Rattle.doc_forms.specs.Forms.{number_at, list_at}
use Rattle.doc_forms.specs.Tables.{place_below, new_reference}

-- a set of peers
unfoldable pub agents_at : List (List ℕ) → Members → Result (List ℕ) Fault
agents_at peers ms = list_at (codes "agents") 1 16 word.Agents (new_reference (λ p. p) (place_below 256 peers)) [] ms

-- the agents, and then how many of so many have to agree
unfoldable pub agents_and_tau : List (List ℕ) → Members → Result AgentsAndTau Fault
agents_and_tau peers ms = do
  agents ← agents_at peers ms
  tau ← number_at (codes "tau") 1 (length agents) word.Tau ms
  Ok (record { agents = agents; tau = tau })
