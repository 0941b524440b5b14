use Rattle.std.proofs.Common.{◌+◌, ◌-◌, ◌<◌, ◌≤◌, get_or, take, drop, rules, arith}
use borrow.Author.Tests.{tests}
use Rattle.std.proofs.lemmas.Iterator.{cases_from_all, YieldsList-from_slice}
use Rattle.seats.proofs.Records.{whole_from}
use Rattle.seats.proofs.seat.is_whole.Goals as goal

pub returns-then-seat-le20 : goal.returns-then-seat-le20
returns-then-seat-le20 c =
    let xs = c.args.seat.now in
    let n = get_or xs 0 0 in
    let m = 1 + n - 1 in
    let words = c.word_count.result in
    whole_from c.args.sheet.now xs m words c.all.result (omega arith) c.if-seat-le20.true c.word_count.ensures
    (cases_from_all _ _ _ (λ x. x < words) (λ x. words ≤ x) c.all.ensures.ran (YieldsList-from_slice (take m (drop 1 xs)) cc) (λ x q k. search (rules, tests)) (λ x q k. search (rules, tests))) c.told-seat
