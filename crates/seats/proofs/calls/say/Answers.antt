use Rattle.std.proofs.Common.{◌≡◌, length, refl}
use Rattle.faults.specs.Faults.{telling}
use Rattle.sources.proofs.First.{handed_on}
use Rattle.seats.specs.Standing.{say_at}
use Rattle.seats.proofs.Parts.{given_is, own_is}
use Rattle.seats.proofs.Records.{whole_at}
use Rattle.seats.proofs.Keeping.{changed_keeps, say_local}
use Rattle.seats.proofs.SeatLent.{changed_barred, changed_lent}
use Rattle.seats.proofs.calls.say.Goals as goal

pub add-requires : goal.add-requires
add-requires c =
    let split = c.split_at_mut-rest in
    let is = own_is c.args.hall.now split.result.1.now c.args.seat c.first_chunk_mut.result c.unwrap.result split.ensures.back c.unwrap.ensures c.first_chunk_mut.ensures.cases in
    whole_at c.args.sheet.now _ _ is c.in_ok-record.ensures.1

pub returns-in_err-record : goal.returns-in_err-record
returns-in_err-record c =
    let s = c.args.sheet.now in
    let hall = c.args.hall.now in
    let k = c.args.seat in
    let call = say_at k c.args.word in
    let r = telling c.from_residual.result in
    let f = c.in_err-record.field-0.0 in
    let made = changed_barred s k hall f c.in_err-record.ensures call r (handed_on c.from_residual.result f c.from_residual.ensures.1) in
    record { made = made; kept = changed_keeps s call (say_local s k c.args.word) hall r hall made }

pub returns : goal.returns
returns c =
    let s = c.args.sheet.now in
    let hall = c.args.hall.now in
    let k = c.args.seat in
    let call = say_at k c.args.word in
    let r = telling c.add.result in
    let ys = c.add.new.seat in
    let split = c.split_at_mut-rest in
    let is = own_is hall split.result.1.now k c.first_chunk_mut.result c.unwrap.result split.ensures.back c.unwrap.ensures c.first_chunk_mut.ensures.cases in
    let long : length ys ≡ 945 = c.add.ensures.size in
    let put = given_is hall split.result.0.now split.result.1.now ys k split.ensures.front split.ensures.back long in
    let exact = c.add.ensures.said in
    let made =
    changed_lent s k hall c.in_ok-record.field-0 c.in_ok-record.ensures call r c.unwrap.result.now ys _ is long put
    (λ ws stand. let x = exact ws stand in (x.0, (x.1, refl), x.2)) c.add.ensures.untouched in
    record { made = made; kept = changed_keeps s call (say_local s k c.args.word) hall r _ made }
