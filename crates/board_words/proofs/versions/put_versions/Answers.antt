-- What the check of `put_versions` leaves to show.
use Rattle.std.proofs.Common.{◌∙◌, ◌+◌, ◌*◌, ap, length, arith, length-set, get_or-set_other, Some}
use Rattle.board_work.specs.Scripts.{word_of}
use Rattle.script_laws.proofs.Fitted.{fits_small}
use Rattle.board_words.proofs.EarlyVersions.{version_step}
use Rattle.board_words.proofs.versions.put_versions.Goals as goal

pub part_word-requires : goal.part_word-requires
part_word-requires c = λ cells is. fits_small c.args.txn.now c.args.outcome.now cells c.requires.fits is

pub loop-j-preserved : goal.loop-j-preserved
loop-j-preserved c =
    let i = c.loop-j.invariant in
    let ws = c.loop-j.words.items in
    let t = c.args.t in
    let j = c.loop-j.j in
    let n = c.part_word.result in
    let len = ap length c.as_slice-count.ensures.items in
    let room = c.requires.room in
    let room0 = room.0 in
    let room2 = room.2 in
    let same = i.0 in
    let test = c.loop-j-test.true in (
      length-set ws (38 * t + 7 + 2 * j) n ∙ i.0,
      version_step ws t j n (word_of (Some c.args.outcome.now)) (omega arith) c.part_word.ensures i.1,
      λ k other. get_or-set_other ws (38 * t + 7 + 2 * j) k n 0 (λ e. other j (omega arith) (omega arith)) ∙ i.2 k (λ x l. other x (omega arith)),
    )

pub returns-clause-others : goal.returns-clause-others
returns-clause-others c = λ i other. c.loop-j.invariant.2 i (λ k l. other k (let len = ap length c.as_slice-count.ensures.items in let end = c.loop-j.auto.j-end in omega arith))
