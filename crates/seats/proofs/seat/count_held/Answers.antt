use Rattle.std.proofs.Common.{◌≡◌, ◌+◌, ◌^◌, ◌<◌, get_or, take, drop, ap, arith}
use lib.Count.{ones, ones-le}
use Rattle.std.proofs.lemmas.List.{at_drop_more, at_drop_all}
use Rattle.seats.specs.Calls.{ones_of}
use Rattle.seats.proofs.TableLent.{all_of}
use Rattle.seats.proofs.seat.count_held.Goals as goal

pub loop-number-init : goal.loop-number-init
loop-number-init c = let e = ap ones_of (all_of c.args.seat.now c.told-seat) in (omega arith, omega arith)

pub overflow_add-held : goal.overflow_add-held
overflow_add-held c =
    let x = get_or (take 924 (drop 21 c.args.seat.now)) c.loop-number.number-index 0 in
    let low : x < 2 ^ 64 = omega arith in
    omega (arith, ones-le 64 x low)

pub loop-number-preserved : goal.loop-number-preserved
loop-number-preserved c =
    let items = take 924 (drop 21 c.args.seat.now) in
    let i = c.loop-number.number-index in
    let x = get_or items i 0 in
    let low : x < 2 ^ 64 = omega arith in
    let more : ones_of (drop i items) ≡ ones x + ones_of (drop (i + 1) items) = at_drop_more ones_of items i 0 (omega arith) in
    (omega arith, omega (arith, ones-le 64 x low))

pub returns : goal.returns
returns c =
    let items = take 924 (drop 21 c.args.seat.now) in
    let i = c.loop-number.number-index in
    let none : ones_of (drop i items) ≡ 0 = at_drop_all ones_of items i (omega arith) in
    omega arith
