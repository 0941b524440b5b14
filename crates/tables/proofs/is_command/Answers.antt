use Rattle.grammar.specs.View.{grammar_of}
use Rattle.tables.proofs.Sheets.{sheet_marked}
use Rattle.tables.proofs.Shows.{command_found, command_passed}
use Rattle.tables.proofs.is_command.Goals as goal

pub returns : goal.returns
returns c ws size column =
    let g = grammar_of c.args.sheet.now in
    let t = sheet_marked c.args.sheet.now _ c.masks.ensures in
    let table = c.args.table.now in
    let n = c.args.n in
    let xs = c.load.result.words in (
      λ e. command_found g ws _ t table n size column c.start-start.result xs c.start-start.ensures.is c.load.ensures (c.meets.ensures.found e),
      command_passed g ws _ t table n size column c.start-start.result xs c.meets.result c.start-start.ensures.is c.load.ensures c.meets.ensures.passed,
    )
