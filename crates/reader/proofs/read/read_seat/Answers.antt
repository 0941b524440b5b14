use Rattle.std.proofs.Common.{get_or, take, arith}
use Rattle.seats.proofs.Records.{seat_count}
use Rattle.seats.proofs.TableLent.{shown_is}
use Rattle.seats.proofs.SeatLent.{not_passed}
use Rattle.reader.proofs.Copies.{last_column, copied, reads, reads_none}
use Rattle.reader.proofs.read.read_seat.Goals as goal

pub returns-then-not-is_command : goal.returns-then-not-is_command
returns-then-not-is_command g c = λ ws stand.
    let s = c.args.sheet.now in
    let xs = c.args.seat.now in
    let table = shown_is xs c.told-seat c.last_chunk.result c.unwrap.result c.unwrap.ensures c.last_chunk.ensures.cases in
    let command = c.is_command.ensures ws (seat_count s ws xs stand) (last_column s ws xs stand c.unwrap.result.now table) in
    reads_none s g.C.Scale.measure ws (record { list = c.args.list.now; prices = c.args.prices.now; numbers = c.args.numbers.now })
    (not_passed command.1 c.if-not-is_command.true)

pub returns : goal.returns
returns g c = λ ws stand.
    let s = c.args.sheet.now in
    let xs = c.args.seat.now in
    let words = c.copy_words-words.result in
    let last = c.write_reading.new in
    let table = shown_is xs c.told-seat c.last_chunk.result c.unwrap.result c.unwrap.ensures c.last_chunk.ensures.cases in
    let command = (c.is_command.ensures ws (seat_count s ws xs stand) (last_column s ws xs stand c.unwrap.result.now table)).0 c.if-not-is_command.false in
    reads s g.C.Scale.measure ws (take (get_or xs 0 0) words)
    (record { list = c.args.list.now; prices = c.args.prices.now; numbers = c.args.numbers.now })
    (record { list = last.list; prices = last.prices; numbers = last.numbers })
    c.write_reading.result c.write_reading.ensures command (copied s ws xs stand words (omega arith) c.copy_words-words.ensures)
