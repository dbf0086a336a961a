-- What the check of `read_one` leaves to show.
use Rattle.std.proofs.Common.{◌∙◌, ◌+◌, ◌*◌, ◌≤◌, ap, get_or, length, length-append, arith, List, ℕ, ◌∷◌, []}
use Rattle.std.specs.Mem.Slots.{slots_items}
use Rattle.board_steps.specs.Abouts.{told}
use Rattle.board_work.specs.Scripts.{outcome_at}
use Rattle.board_words.specs.Words.{cells_of}
use Rattle.board_words.proofs.Decode.{commits, read_more, read_whole}
use Rattle.board_words.proofs.reading.read_one.Goals as goal

pub loop-k-preserved : goal.loop-k-preserved
loop-k-preserved c =
    let o = outcome_at (told c.args.about.now) c.args.t in
    let ws : List ℕ = slots_items c.args.closed.now.words in
    let is = commits ws o c.args.t c.word_at-first.result (c.requires.words 0 (omega arith)) c.word_at-first.ensures c.if-first-ne1.false in
    let long = c.requires.long (cells_of o) is in
    let test = c.loop-k-test.true in
    let word = c.word_at.ensures ∙ (ap (λ i. get_or ws i 0) {y = 38 * c.args.t + 5 + 2 * (c.loop-k.k + 1)} (omega arith) ∙ c.requires.words (c.loop-k.k + 1) (omega arith)) in
    let more = ap length c.add.ensures ∙ length-append c.loop-k.cells (c.read_cell.result ∷ []) in
    let old = c.loop-k.invariant.1 in
    (read_more o c.loop-k.k c.word_at.result c.loop-k.cells c.add.new.self c.read_cell.result is (omega arith) word c.read_cell.ensures c.loop-k.invariant.0 c.add.ensures, omega arith)

pub returns : goal.returns
returns c =
    let o = outcome_at (told c.args.about.now) c.args.t in
    let ws : List ℕ = slots_items c.args.closed.now.words in
    let is = commits ws o c.args.t c.word_at-first.result (c.requires.words 0 (omega arith)) c.word_at-first.ensures c.if-first-ne1.false in
    let long = c.requires.long (cells_of o) is in
    let l : length (cells_of o) ≤ c.loop-k.k = omega (arith, c.loop-k-test.false, c.loop-k.auto) in
    read_whole o c.loop-k.k c.loop-k.cells is l c.loop-k.invariant.0
