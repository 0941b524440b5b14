use Rattle.std.proofs.Common.{◌≡◌, ◌∷◌, get_or, sym, subst, arith}
use Rattle.grammar.specs.declared.Symbol.TheVariants.{Name}
use Rattle.readings.specs.inner.Columns.{marked}
use Rattle.readings.specs.inner.Cells.{ColumnIn}
use Rattle.readings.proofs.cut.+cut_all.Goals as goal
use Rattle.std.proofs.lemmas.Grind.{common_steps}

pub returns-in-len1-up : goal.returns-in-len1-up
returns-in-len1-up g t c =
    let e : c.args.symbols.now ≡ get_or c.args.symbols.now 0 (Name 0) ∷ _ = grind (arith, common_steps) in
    subst (λ s. ColumnIn g.S.Scale.measure c.args.cell.now s c.args.cell.now.over.i (marked g.S.Scale.measure c.prepend.new.column.prices.now c.prepend.new.column.marks)) (sym e) (c.prepend.ensures _ c.cut_all.ensures)
