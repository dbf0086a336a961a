-- What the check of `read_input` leaves to show.
use Rattle.input_doc.proofs.Once.{exactly_one}
use Rattle.input_doc.proofs.Answered.{given_meaning, given_fault, given_lawful}
use Rattle.input_doc.proofs.reader.read_input.Goals as goal

pub returns-clause-meaning : goal.returns-clause-meaning
returns-clause-meaning c = given_meaning c.args.bytes.now c.read_exactly.result c.read_exactly.ensures

pub returns-clause-fault : goal.returns-clause-fault
returns-clause-fault c = given_fault c.args.bytes.now c.read_exactly.result c.read_exactly.ensures

pub returns-clause-exactly_one : goal.returns-clause-exactly_one
returns-clause-exactly_one c = exactly_one c.args.bytes.now

pub returns-clause-lawful : goal.returns-clause-lawful
returns-clause-lawful c = given_lawful c.args.bytes.now c.read_exactly.result c.read_exactly.ensures
