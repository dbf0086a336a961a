-- What the check of `word_at` leaves to show.
use Rattle.std.proofs.Common.{sym}
use Rattle.std.specs.Mem.Slots.{slots_items}
use Rattle.board_words.proofs.Decode.{at_or}
use Rattle.board_words.proofs.reading.word_at.Goals as goal

pub returns : goal.returns
returns c = sym (at_or (slots_items c.args.closed.now.words) c.args.i c.word.result c.word.ensures)
