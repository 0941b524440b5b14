use Rattle.std.proofs.Common.{ℕ, ◌<◌, ◌≤◌, ◌∷◌, List}
use Rattle.grammar.specs.declared.Symbol.{Symbol}
use Rattle.readings.specs.inner.Columns.{marked}
use Rattle.readings.specs.inner.Cells.{CutIn, ColumnIn}
use Rattle.readings.proofs.cut.prepend.Given as goal

-- from m on the column is as it was, and before m it has one symbol more
abbrev pub invariant-loop-m : goal.invariant-loop-m
invariant-loop-m g l =
    (s : List Symbol) → ColumnIn g.S.Scale.measure l.cell s l.cell.over.i (marked g.S.Scale.measure l.initial.column.prices.now l.initial.column.marks)
    → ColumnIn g.S.Scale.measure l.cell s l.m (marked g.S.Scale.measure l.column.prices.now l.column.marks)
    × ((n : ℕ) → l.cell.over.i ≤ n → n < l.m → CutIn g.S.Scale.measure l.cell (l.x.symbol ∷ s) n (marked g.S.Scale.measure l.column.prices.now l.column.marks n))
