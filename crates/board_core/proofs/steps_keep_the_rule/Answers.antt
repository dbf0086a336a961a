-- What the check of `steps_keep_the_rule` leaves to show.
use Rattle.board_core.proofs.Bases.{merges, splits}
use Rattle.board_core.proofs.CellSteps.{loads_part, loads_value, publishes, writes}
use Rattle.board_core.proofs.Steps.{counts_down, loads, stamps_begin, stamps_finish, swaps}
use Rattle.board_core.proofs.steps_keep_the_rule.Goals as goal

pub returns : goal.returns
returns c = λ p. record {
  load_need = loads p;
  swap_turn = swaps p;
  begin_stamp = stamps_begin p;
  load_value = loads_value p;
  load_part = loads_part p;
  publish = publishes p;
  write_value = writes p;
  finish_stamp = stamps_finish p;
  count_down = counts_down p;
  split_seat = splits p;
  join_seat = merges p;
}
