use Rattle.std.proofs.Common.{sym, rules}
use Rattle.grammar.specs.View.{grammar_of}
use Rattle.tables.proofs.Sheets.{sheet_marked}
use Rattle.tables.proofs.Filled.{wanting_start}
use Rattle.tables.proofs.column.NextColumn.starting.Goals as goal

pub returns-then-self-eq0 : goal.returns-then-self-eq0
returns-then-self-eq0 c ws table =
    let s = c.args.self.now in
    wanting_start (grammar_of s.sheet.now) ws _ (sheet_marked s.sheet.now _ c.masks.ensures) table c.start.result s.j (sym c.start.ensures.is) (search rules)
