use Rattle.faults.specs.Faults.{telling}
use Rattle.sources.proofs.First.{handed_on}
use Rattle.seats.proofs.Records.{whole_at}
use Rattle.reader.specs.inner.Settled.{settled}
use Rattle.reader.proofs.Refusing.{read_barred, read_lent}
use Rattle.reader.proofs.read.read.Goals as goal

pub returns-in_err-own : goal.returns-in_err-own
returns-in_err-own g c =
    let f = c.in_err-own.field-0.0 in
    read_barred c.args.sheet.now g.C.Scale.measure c.args.seat c.args.hall.now
    (record { list = c.args.list.now; prices = c.args.prices.now; numbers = c.args.numbers.now }) f (telling c.from_residual.result) (handed_on c.from_residual.result f c.from_residual.ensures.1) c.in_err-own.ensures

pub read_seat-requires : goal.read_seat-requires
read_seat-requires g c =
    let free = c.in_ok-own.ensures in
    record { whole = whole_at c.args.sheet.now _ _ free.2 free.1; room = c.has_room.ensures.0 c.if-not-has_room.false }

pub returns : goal.returns
returns g c =
    let last = c.read_seat.new in
    read_lent c.args.sheet.now c.args.seat c.args.hall.now c.in_ok-own.own c.in_ok-own.ensures g.C.Scale.measure
    (record { list = c.args.list.now; prices = c.args.prices.now; numbers = c.args.numbers.now })
    (c.has_room.ensures.0 c.if-not-has_room.false) (telling c.answer.result) (settled c.read_seat.result)
    (record { list = last.list; prices = last.prices; numbers = last.numbers }) c.answer.ensures c.read_seat.ensures
