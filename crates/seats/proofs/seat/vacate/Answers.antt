use Rattle.std.proofs.Common.{◌≡◌, ◌∙◌, length}
use Rattle.seats.proofs.TableLent.{lent_is}
use Rattle.seats.proofs.Records.{seat_empty}
use Rattle.seats.proofs.seat.vacate.Goals as goal

pub returns : goal.returns
returns c =
    let xs = c.fill.new.self in
    let size : length xs ≡ 945 = c.fill.ensures.len ∙ c.told-seat in
    seat_empty c.args.sheet.now xs c.fill_column.new.table (length c.args.seat.now) (c.fill.ensures.after (λ y h. h)) c.told-seat c.unwrap.result.now
    (lent_is xs size c.last_chunk_mut.result c.unwrap.result c.unwrap.ensures c.last_chunk_mut.ensures.cases) c.fill_column.ensures.exact c.fill_column.ensures.others
