-- What the check of `put_each` leaves to show.
use Rattle.std.proofs.Common.{◌∙◌, ap, map}
use Rattle.board_defs.specs.Rounds.{put_span}
use Rattle.board_work.specs.Spans.{span_of}
use Rattle.peer_parts.proofs.JoinLemmas.{put_more, short_part}
use Rattle.peer_parts.proofs.joining.put_each.Goals as goal

pub loop-span-preserved : goal.loop-span-preserved
loop-span-preserved c =
    let e = c.in-Some.ensures in
    record {
      short = (short_part c.loop-span.spans c.pop.new.self c.in-Some.span e c.loop-span.invariant.short).0;
      puts =
          put_more c.args.by c.loop-span.spans c.pop.new.self c.in-Some.span c.loop-span.all c.put.new.spans e (c.in_ok-put.ensures ∙ ap (λ s. put_span s (map span_of c.loop-span.all)) c.raise.ensures)
          ∙ c.loop-span.invariant.puts;
    }
