use Rattle.std.proofs.Common.{ℕ, List}
use Rattle.grammar.specs.View.{grammar_of}
use Rattle.tables.specs.inner.Cells.{Ready, Gathered}
use Rattle.tables.proofs.column.NextColumn.gather.Given as goal

abbrev pub invariant-loop-m : goal.invariant-loop-m
invariant-loop-m l =
    let g = grammar_of l.self.sheet.now in
    (ws : List ℕ) → Ready g ws l.table l.overs l.i l.self.j l.self.w → Gathered g ws l.table l.i l.self.j l.m l.set.words
