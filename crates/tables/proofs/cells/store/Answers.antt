use Rattle.std.proofs.Common.{◌≡◌, ℕ, ◌+◌, ◌-◌, ◌*◌, List, sym, subst, arith, rules}
use borrow.Rule.Slice.PartMut.{put_mid}
use Rattle.tables.specs.inner.Cells.{Stored}
use Rattle.tables.proofs.Storing.{store_is}
use Rattle.tables.proofs.cells.store.Goals as goal

pub returns : goal.returns
returns c =
    let table = c.args.table.now in
    let p = 4 * c.position-p.result in
    let four : p + 4 - p ≡ 4 = omega arith in
    subst (λ (k : ℕ). Stored table (put_mid p k table c.copy_from_slice.new.self) c.args.i c.args.j c.args.items.words) (sym four)
    (subst (λ (ys : List ℕ). Stored table (put_mid p 4 table ys) c.args.i c.args.j c.args.items.words) (sym c.copy_from_slice.ensures.after)
    (store_is table c.args.i c.args.j p c.args.items.words (omega arith) (omega arith) (search rules)))
