use Rattle.faults.specs.Faults.{telling}
use Rattle.sources.proofs.First.{handed_on}
use Rattle.seats.specs.Calls.{Offers}
use Rattle.seats.proofs.Records.{whole_at}
use Rattle.seats.proofs.SeatLent.{looked_barred, looked_lent}
use Rattle.seats.proofs.calls.offer.Goals as goal

pub offers-requires : goal.offers-requires
offers-requires c = whole_at c.args.sheet.now _ _ c.in_ok-record.ensures.2 c.in_ok-record.ensures.1

pub returns-in_err-record : goal.returns-in_err-record
returns-in_err-record c =
    let s = c.args.sheet.now in
    let f = c.in_err-record.field-0.0 in
    looked_barred s c.args.seat c.args.hall.now f c.in_err-record.ensures (Offers s) (telling c.from_residual.result) (handed_on c.from_residual.result f c.from_residual.ensures.1)

pub returns : goal.returns
returns c =
    let s = c.args.sheet.now in
    looked_lent s c.args.seat c.args.hall.now c.in_ok-record.field-0 c.in_ok-record.ensures (Offers s) c.offers.result c.offers.ensures
