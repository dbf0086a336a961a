-- What the check of `put_writer` leaves to show.
use Rattle.xov_mode.proofs.FirstWriters.{put_at}
use Rattle.xov_mode.proofs.writers.put_writer.Goals as goal

pub returns : goal.returns
returns c = put_at c.args.writers.now c.push.new.self c.args.r c.args.place c.push.result c.push.ensures.ok
