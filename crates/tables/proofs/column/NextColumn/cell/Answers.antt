use Rattle.grammar.specs.View.{grammar_of}
use Rattle.tables.proofs.Sheets.{sheet_fitting}
use Rattle.tables.proofs.Gathering.{made}
use Rattle.tables.proofs.column.NextColumn.cell.Goals as goal

pub returns : goal.returns
returns c ws h =
    let s = c.args.self.now in
    made (grammar_of s.sheet.now) (sheet_fitting s.sheet.now) ws c.args.table.now c.args.overs.now c.args.i s.j s.w h c.requires c.load.result.words c.gather-gathered.result.words c.chain.result.words c.load.ensures (c.gather-gathered.ensures ws h) c.chain.ensures
