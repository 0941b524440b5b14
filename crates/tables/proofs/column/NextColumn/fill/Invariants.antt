use Rattle.std.proofs.Common.{◌≡◌, ℕ, List, length}
use Rattle.grammar.specs.View.{grammar_of}
use Rattle.tables.specs.Columns.{Next, Beside}
use Rattle.tables.specs.inner.Cells.{Filling, Wanting}
use Rattle.tables.proofs.column.NextColumn.fill.Given as goal

-- the cells from i to j - 1 are done
abbrev pub invariant-loop-i : goal.invariant-loop-i
invariant-loop-i l =
    let g = grammar_of l.self.sheet.now in
    (length l.overs ≡ 21)
    × Beside l.initial.table l.table l.self.j
    × ((ws : List ℕ) → Next g ws l.initial.table l.self.j l.self.w
    → Filling g ws l.table l.overs l.self.j l.i × Wanting g ws l.table l.self.j l.i l.wants.words)
