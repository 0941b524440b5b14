use Rattle.faults.specs.Faults.{telling}
use Rattle.reader.proofs.Joining.{joined}
use Rattle.reader.proofs.mixed.perform_and_hear.Goals as goal

pub returns : goal.returns
returns g c =
    let args = c.args in
    let read = c.perform-reading.new in
    let means = g.U.Source.meaning in
    joined g.T.Source.meaning args.sheet.now g.C.Scale.measure args.seat args.hall.now args.turns.now
    (record { list = args.list.now; prices = args.prices.now; numbers = args.numbers.now }) (means args.source.now)
    (telling c.perform-reading.result) (telling c.hear-answer.result) read.hall c.hear-answer.new.hall read.turns
    (record { list = read.list; prices = read.prices; numbers = read.numbers }) (means c.hear-answer.new.source)
    c.perform-reading.ensures c.hear-answer.ensures.made c.hear-answer.ensures.kept
