use Rattle.std.proofs.Common.{rules}
use Rattle.grammar.specs.View.{grammar_of}
use Rattle.tables.proofs.Sheets.{sheet_marked}
use Rattle.tables.proofs.Closures.{skip_all}
use Rattle.tables.proofs.sets.skip.Goals as goal

pub returns : goal.returns
returns c =
    let s = c.args.sheet.now in
    skip_all (grammar_of s) _ (sheet_marked s _ c.masks.ensures) (λ ys made p. search rules) c.saturate.ensures
