use Rattle.std.proofs.Common.{ℕ, List, get_or, sym, subst}
use Rattle.grammar.specs.View.{grammar_of}
use Rattle.tables.specs.Columns.{Column}
use Rattle.seats.proofs.TableLent.{shown_is}
use Rattle.seats.proofs.Records.{seat_count}
use Rattle.seats.proofs.seat.offers.Goals as goal

pub returns : goal.returns
returns c = λ ws h w.
    let s = c.args.sheet.now in
    let xs = c.args.seat.now in
    let n = seat_count s ws xs h in
    let table = shown_is xs c.told-seat c.last_chunk.result c.unwrap.result c.unwrap.ensures c.last_chunk.ensures.cases in
    c.offer.ensures.exact ws w n (subst (λ (t : List ℕ). Column (grammar_of s) ws t (get_or xs 0 0)) (sym table) (h.table (get_or xs 0 0) c.requires.few))
