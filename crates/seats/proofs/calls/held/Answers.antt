use Rattle.std.proofs.Common.{drop, ap, ◌∙◌}
use Rattle.faults.specs.Faults.{telling}
use Rattle.sources.proofs.First.{handed_on}
use Rattle.seats.specs.Calls.{Held, ones_of}
use Rattle.seats.proofs.SeatLent.{looked_barred, looked_lent}
use Rattle.seats.proofs.calls.held.Goals as goal

pub returns-in_err-record : goal.returns-in_err-record
returns-in_err-record c =
    let f = c.in_err-record.field-0.0 in
    looked_barred c.args.sheet.now c.args.seat c.args.hall.now f c.in_err-record.ensures (Held c.args.hall.now c.args.seat) (telling c.from_residual.result) (handed_on c.from_residual.result f c.from_residual.ensures.1)

pub returns : goal.returns
returns c =
    let free = c.in_ok-record.ensures in
    let same = ap (λ xs. ones_of (drop 21 xs)) free.2 in
    looked_lent c.args.sheet.now c.args.seat c.args.hall.now c.in_ok-record.field-0 free (Held c.args.hall.now c.args.seat) c.count_held.result (λ ws stand. c.count_held.ensures ∙ same)
