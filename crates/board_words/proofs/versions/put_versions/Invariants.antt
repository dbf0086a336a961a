-- What each turn of the loops of `put_versions` keeps.
use Rattle.std.proofs.Common.{◌≡◌, ◌≢◌, ◌<◌, ◌+◌, ℕ, Some, length, slice_index}
use Rattle.board_core.specs.Words.{part, part_at}
use Rattle.board_work.specs.Scripts.{word_of}
use Rattle.board_words.proofs.versions.put_versions.Given as goal

abbrev pub invariant-loop-j : goal.invariant-loop-j
invariant-loop-j l = (length l.words.items ≡ length l.fn.words.items) × ((k : ℕ) → k < l.j → part l.words.items l.t (k + 1) ≡ word_of (Some l.outcome) (k + 1))
    × ((i : ℕ) → ((k : ℕ) → k < l.j → i ≢ part_at l.t (k + 1)) → slice_index l.words.items i ≡ slice_index l.fn.words.items i)
