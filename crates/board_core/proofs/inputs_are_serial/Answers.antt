-- What the check of `inputs_are_serial` leaves to show.
use Rattle.board_core.proofs.CellSteps.{finds_serial}
use Rattle.board_core.proofs.inputs_are_serial.Goals as goal

pub returns : goal.returns
returns c = λ p s id v t r h at held unwritten uses. finds_serial p s id v t r h at held.begun held.unfinished unwritten uses
