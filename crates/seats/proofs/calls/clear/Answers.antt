use Rattle.std.proofs.Common.{[], Ok, refl}
use Rattle.faults.specs.Faults.{telling}
use Rattle.sources.proofs.First.{handed_on}
use Rattle.seats.specs.Standing.{clear_at}
use Rattle.seats.proofs.Parts.{given_is}
use Rattle.seats.proofs.Keeping.{anew_keeps, clear_local}
use Rattle.seats.proofs.SeatLent.{anew_refused, anew_lent}
use Rattle.seats.proofs.calls.clear.Goals as goal

pub returns-in_err-find : goal.returns-in_err-find
returns-in_err-find c =
    let s = c.args.sheet.now in
    let hall = c.args.hall.now in
    let k = c.args.seat in
    let r = telling c.from_residual.result in
    let f = c.in_err-find.field-0.0 in
    let made = anew_refused s k (clear_at k) hall f r (handed_on c.from_residual.result f c.from_residual.ensures.1) c.in_err-find.ensures in
    record { made = made; kept = anew_keeps s (clear_at k) (clear_local s k) hall r hall (clear_at k) (λ ws vs d. d) made }

pub returns : goal.returns
returns c =
    let s = c.args.sheet.now in
    let hall = c.args.hall.now in
    let k = c.args.seat in
    let ys = c.vacate.new.seat in
    let split = c.split_at_mut-cleared in
    let put = given_is hall split.result.0.now split.result.1.now ys k split.ensures.front split.ensures.back c.vacate.ensures.size in
    let made = anew_lent s k (clear_at k) hall (Ok 0) ys _ (clear_at k) c.in_ok-find.ensures c.vacate.ensures.size put ([], (refl, refl, refl), c.vacate.ensures) in
    record { made = made; kept = anew_keeps s (clear_at k) (clear_local s k) hall (Ok 0) _ (clear_at k) (λ ws vs d. d) made }
