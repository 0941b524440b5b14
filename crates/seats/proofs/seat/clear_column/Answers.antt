use Rattle.std.proofs.Common.{◌+◌, ◌-◌, ◌*◌, ◌/◌, ◌≤◌, length, take, drop, arith, rules}
use Rattle.std.proofs.lemmas.Nat.{mul-le}
use Rattle.std.proofs.lemmas.List.Edits.{length-between}
use Rattle.seats.proofs.Clearing.{column_cleared}
use Rattle.seats.proofs.seat.clear_column.Goals as goal

pub slice_bounds-fill-end : goal.slice_bounds-fill-end
slice_bounds-fill-end c = let most = mul-le c.args.j (c.args.j + 1) 20 21 c.requires (omega arith) in search rules

pub returns : goal.returns
returns c =
    let j = c.args.j in
    let table = c.args.table.now in
    let from = 4 * (j * (j + 1) / 2) in
    let to = from + 4 * (j + 1) in
    let most = mul-le j (j + 1) 20 21 c.requires (omega arith) in
    let within : to ≤ length table = omega arith in
    column_cleared table c.fill.new.self from (to - from) (length (take (to - from) (drop from table))) (c.fill.ensures.after (λ y h. h)) (length-between table from to within) (omega arith) j (omega arith) (omega arith)
