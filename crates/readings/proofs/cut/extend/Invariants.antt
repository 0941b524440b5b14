use Rattle.std.proofs.Common.{List}
use Rattle.grammar.specs.declared.Symbol.{Symbol}
use Rattle.readings.specs.inner.Least.{Least}
use Rattle.readings.specs.inner.Cuts.{CutsBelow}
use Rattle.readings.specs.inner.Columns.{marked}
use Rattle.readings.specs.inner.Cells.{child_in, ColumnIn}
use Rattle.readings.proofs.cut.extend.Given as goal

-- the cheapest of the cuts whose first stretch ends before n
abbrev pub invariant-loop-n : goal.invariant-loop-n
invariant-loop-n g l =
    (s : List Symbol) → ColumnIn g.S.Scale.measure l.cell s l.m (marked g.S.Scale.measure l.column.prices.now l.column.marks)
    → Least g.S.Scale.measure (CutsBelow g.S.Scale.measure (child_in g.S.Scale.measure l.cell) l.x.symbol s l.m l.cell.over.j l.n) l.best
