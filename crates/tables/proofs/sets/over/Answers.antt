use Rattle.grammar.specs.View.{grammar_of}
use Rattle.tables.proofs.Sheets.{sheet_marked, sheet_names}
use Rattle.tables.proofs.Closures.{related_over}
use Rattle.tables.proofs.sets.over.Goals as goal

pub returns : goal.returns
returns c =
    let s = c.args.sheet.now in
    related_over (grammar_of s) _ (sheet_marked s _ c.masks-masks.ensures) c.args.items.words c.relate.result.words _ (sheet_names s _ c.name_count-names.ensures.is) c.relate.ensures
