use Rattle.std.proofs.Common.{Ok, ◌∙◌, arith}
use Rattle.faults.specs.Faults.{telling}
use Rattle.sources.proofs.First.{handed_on}
use Rattle.seats.proofs.Parts.{given_is}
use Rattle.seats.proofs.Keeping.{opened_first, opened_keeps}
use Rattle.seats.proofs.SeatLent.{opened_refused, emptied_more, emptied_all}
use Rattle.seats.proofs.calls.open.Goals as goal

pub returns-in_err-find : goal.returns-in_err-find
returns-in_err-find c =
    let s = c.args.sheet.now in
    let hall = c.args.hall.now in
    let r = telling c.from_residual.result in
    let f = c.in_err-find.field-0.0 in
    let made = opened_refused s hall f r (handed_on c.from_residual.result f c.from_residual.ensures.1) c.in_err-find.ensures in
    record { opened = made; first = opened_first s hall r hall made; kept = opened_keeps s hall r hall made }

pub loop-k-init : goal.loop-k-init
loop-k-init c = λ k h. absurd (omega arith)

pub loop-k-preserved : goal.loop-k-preserved
loop-k-preserved c =
    let l = c.loop-k in
    let split = c.split_at_mut-rest in
    let long = c.vacate.ensures.size in
    let put = given_is l.hall split.result.0.now split.result.1.now c.vacate.new.seat l.k split.ensures.front split.ensures.back long in
    emptied_more c.args.sheet.now l.k l.hall c.vacate.new.seat _ (l.auto.hall ∙ c.in_ok-find.ensures.0, omega arith) l.invariant long put c.vacate.ensures

pub returns : goal.returns
returns c =
    let s = c.args.sheet.now in
    let hall = c.args.hall.now in
    let l = c.loop-k in
    let made = emptied_all s l.k hall l.hall (omega arith) c.in_ok-find.ensures.0 l.auto.hall l.invariant in
    record { opened = made; first = opened_first s hall (Ok 0) l.hall made; kept = opened_keeps s hall (Ok 0) l.hall made }
