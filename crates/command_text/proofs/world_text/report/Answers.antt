-- What the check of `report` leaves to show.
use Rattle.std.proofs.Common.{◌∙◌, ap, length}
use Rattle.command_text.specs.Marked.{shown_lines}
use Rattle.command_text.proofs.EvidenceLemmas.{shown_is}
use Rattle.command_text.proofs.WorldTextLemmas.{traced_text_is}
use Rattle.command_text.proofs.world_text.report.Goals as goal

pub returns : goal.returns
returns c = λ genesis s events counted stands. (
  stands.world,
  shown_lines c.args.evidence c.args.world.now.table c.args.world.now.peers,
  stands.is,
  shown_is c.args.world.now.table c.args.world.now.pool c.args.world.now.idle c.args.world.now.peers genesis s stands.world stands.shown c.args.evidence,
  traced_text_is s stands.world c.args.rejected.now c.args.blocks c.messages.result c.idle.result _ _ _ _ _ _ _ _ counted
      (c.messages.ensures.kept ∙ ap length stands.shown.pool_is) (c.idle.ensures.kept ∙ stands.shown.idle_is)
      c.new-text.ensures c.in_ok-head.ensures.ok (c.in_ok-push_parts.ensures genesis s stands.world stands.shown) c.in_ok-tail.ensures.ok c.in_ok-push_evidence.ensures c.in_ok-push_trace.ensures,
)
