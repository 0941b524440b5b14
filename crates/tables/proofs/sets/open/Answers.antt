use Rattle.std.proofs.Common.{rules}
use Rattle.grammar.specs.View.{grammar_of}
use Rattle.tables.proofs.Sheets.{sheet_fitting}
use Rattle.tables.proofs.Closures.{open_all}
use Rattle.tables.proofs.sets.open.Goals as goal

pub returns : goal.returns
returns c =
    let s = c.args.sheet.now in
    open_all (grammar_of s) (sheet_fitting s) c.args.items.words c.skip.ensures (λ ys made p. search rules) c.saturate.ensures
