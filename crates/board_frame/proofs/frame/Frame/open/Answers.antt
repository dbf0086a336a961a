-- What the check of `Frame::open` leaves to show.
use Rattle.std.proofs.Common.{◌≡◌, ◌∙◌, ap}
use Rattle.std.proofs.lemmas.Result.{IfOk-weaker}
use Rattle.oxii_defs.specs.Dependency.{graph_of}
use Rattle.board_core.specs.Steps.{first_view}
use Rattle.board_steps.specs.Abouts.{told}
use Rattle.board_work.specs.PassStates.{IsFirst}
use Rattle.board_work.specs.Plans.{plan_of}
use Rattle.board_work.specs.Scripts.{script_of}
use Rattle.board_frame.specs.Frames.{IsPassOf, frame_home}
use Rattle.board_frame.specs.Seen.{pass_state}
use Rattle.board_frame.proofs.Firsts.{both_ok, first_is}
use Rattle.board_frame.proofs.frame.Frame.open.Goals as goal

pub open_frame-requires : goal.open_frame-requires
open_frame-requires c =
    let h = c.requires.runnable in
    record { planned = record { lawful = record { lawful = h.plan; full = c.requires.kind }; graph = h.graph ∙ ap (λ k. graph_of k c.args.plan.now.block.now.txns) h.kind; values = h.values } }

pub returns-clause-first : goal.returns-clause-first
returns-clause-first c =
    let plan = plan_of c.args.plan.now in
    let layout = c.args.layout in
    IfOk-weaker c.open_frame.result (λ r. (IsPassOf r.0 r.1 × (told r.0.about ≡ plan)) × (r.1.view ≡ first_view (script_of layout plan))) (λ r. IsFirst (frame_home r.0) (pass_state r.1))
    (λ r p. first_is layout plan r.0 r.1 c.requires.runnable.plan p.0.0 p.0.1 p.1)
    (both_ok c.open_frame.result (λ r. IsPassOf r.0 r.1 × (told r.0.about ≡ plan)) (λ r. r.1.view ≡ first_view (script_of layout plan)) (both_ok c.open_frame.result (λ r. IsPassOf r.0 r.1) (λ r. told r.0.about ≡ plan) c.open_frame.ensures.of c.open_frame.ensures.plan) c.open_frame.ensures.first)
