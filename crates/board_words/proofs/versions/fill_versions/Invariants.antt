-- What each turn of the loops of `fill_versions` keeps.
use Rattle.std.proofs.Common.{◌≡◌, ◌≢◌, ◌<◌, ◌+◌, ℕ, true, None, length, slice_index, slice_index_or}
use Rattle.std.specs.Prelude.{is_some}
use Rattle.known_defs.specs.Known.{txn_at}
use Rattle.board_core.specs.Words.{part, part_at}
use Rattle.board_work.specs.Scripts.{word_of}
use Rattle.board_words.proofs.versions.fill_versions.Given as goal

abbrev pub invariant-loop-t : goal.invariant-loop-t
invariant-loop-t l = (length l.words.items ≡ length l.fn.words.items)
    × ((x j : ℕ) → x < l.t → is_some (slice_index_or l.known x None) ≡ true → j < length (txn_at l.txns x).writes → part l.words.items x (j + 1) ≡ word_of (slice_index_or l.known x None) (j + 1))
    × ((i : ℕ) → ((x j : ℕ) → x < l.t → is_some (slice_index_or l.known x None) ≡ true → j < length (txn_at l.txns x).writes → i ≢ part_at x (j + 1)) → slice_index l.words.items i ≡ slice_index l.fn.words.items i)
