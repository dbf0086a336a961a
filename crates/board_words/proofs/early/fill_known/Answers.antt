-- What the check of `fill_known` leaves to show.
use Rattle.board_work.specs.Plans.{plan_of}
use Rattle.board_words.proofs.EarlyVersions.{versions_filled}
use Rattle.board_words.proofs.early.fill_known.Goals as goal

pub returns-in-Versions : goal.returns-in-Versions
returns-in-Versions c =
    let fill = c.fill_versions.ensures in
    versions_filled c.args.layout (plan_of c.args.plan.now) c.args.words.now.items c.fill_versions.new.words.items c.as_slice-txns.result.now c.as_slice-known.result.now c.as_slice-txns.ensures c.as_slice-known.ensures c.requires.planned.lawful.lawful c.in-Versions.is fill.same fill.put fill.others
