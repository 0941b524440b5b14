use Rattle.std.proofs.Common.{List}
use Rattle.grammar.specs.declared.Symbol.{Symbol}
use Rattle.readings.specs.inner.Cuts.{Choosing}
use Rattle.readings.specs.inner.Columns.{marked}
use Rattle.readings.specs.inner.Cells.{child_in, ColumnIn}
use Rattle.readings.proofs.ends.choose.Given as goal

abbrev pub invariant-loop-n : goal.invariant-loop-n
invariant-loop-n g l =
    (s : List Symbol) → ColumnIn g.S.Scale.measure l.cell s l.m (marked g.S.Scale.measure l.column.prices.now l.column.marks)
    → Choosing g.S.Scale.measure (child_in g.S.Scale.measure l.cell) l.x.symbol s l.m l.cell.over.j l.n l.to l.best
