use Rattle.std.proofs.Common.{sym, inr}
use Rattle.seats.proofs.Parts.{first_is}
use Rattle.seats.proofs.Records.{whole_at}
use Rattle.seats.proofs.SeatLent.{not_passed}
use Rattle.seats.proofs.calls.record.Goals as goal

pub returns-then-is_whole : goal.returns-then-is_whole
returns-then-is_whole c =
    let is = first_is c.args.hall.now c.args.seat c.first_chunk.result c.unwrap-own.result c.unwrap-own.ensures c.first_chunk.ensures.cases in
    (c.in_ok-find.ensures, whole_at c.args.sheet.now _ _ (sym is) (c.is_whole.ensures.0 c.if-is_whole.true), is)

pub returns-else-is_whole : goal.returns-else-is_whole
returns-else-is_whole c =
    let is = first_is c.args.hall.now c.args.seat c.first_chunk.result c.unwrap-own.result c.unwrap-own.ensures c.first_chunk.ensures.cases in
    inr (c.in_ok-find.ensures, not_passed (λ x. c.is_whole.ensures.1 (whole_at c.args.sheet.now _ _ is x)) c.if-is_whole.false, c.refused.ensures)
