use Rattle.std.proofs.Common.{refl}
use Rattle.faults.specs.Faults.{telling}
use Rattle.sources.proofs.First.{handed_on}
use Rattle.seats.specs.Standing.{hear_at}
use Rattle.seats.proofs.Parts.{given_is}
use Rattle.seats.proofs.Keeping.{anew_keeps, hear_local}
use Rattle.seats.proofs.SeatLent.{anew_refused, anew_lent}
use Rattle.seats.proofs.hearing.hear.Goals as goal

pub returns-in_err-find : goal.returns-in_err-find
returns-in_err-find g c =
    let s = c.args.sheet.now in
    let hall = c.args.hall.now in
    let k = c.args.seat in
    let m = g.S.Source.meaning c.args.source.now in
    let r = telling c.from_residual.result in
    let f = c.in_err-find.field-0.0 in
    let made = anew_refused s k (hear_at k m) hall f r (handed_on c.from_residual.result f c.from_residual.ensures.1) c.in_err-find.ensures in
    record { made = made; kept = anew_keeps s (hear_at k m) (hear_local s k m) hall r hall (hear_at k m) (λ ws vs d. d) made }

pub returns : goal.returns
returns g c =
    let s = c.args.sheet.now in
    let hall = c.args.hall.now in
    let k = c.args.seat in
    let m = g.S.Source.meaning c.args.source.now in
    let m' = g.S.Source.meaning c.listen.new.source in
    let r = telling c.listen.result in
    let ys = c.listen.new.seat in
    let split = c.split_at_mut-rest in
    let x = c.listen.ensures in
    let put = given_is hall split.result.0.now split.result.1.now ys k split.ensures.front split.ensures.back x.2.size in
    let made = anew_lent s k (hear_at k m) hall r ys _ (hear_at k m') c.in_ok-find.ensures x.2.size put (x.0, (m', x.1, refl), x.2) in
    record { made = made; kept = anew_keeps s (hear_at k m) (hear_local s k m) hall r _ (hear_at k m') (λ ws vs d. d) made }
