use Rattle.std.proofs.Common.{ℕ, ◌/◌, ◌<◌, List, [], length, get_or, ap, ◌∙◌, arith}
use Rattle.tables.proofs.Storing.{chunk_is}
use Rattle.tables.proofs.cells.load.Goals as goal

pub returns : goal.returns
returns c =
    let table = c.args.table.now in
    let p = c.position.result in
    let low : p < length table / 4 = omega arith in
    ap {B = List ℕ} (λ (cells : List (List ℕ)). get_or cells p []) c.as_chunks.ensures.front
    ∙ chunk_is table c.args.i c.args.j p (length table / 4) c.position.ensures.is low (omega arith)
