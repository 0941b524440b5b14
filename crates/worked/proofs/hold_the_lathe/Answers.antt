use Rattle.worked.specs.Findings.{lathe_sheet}
use Rattle.worked.proofs.Loads.{load_leaves}
use Rattle.worked.proofs.hold_the_lathe.Goals as goal

pub returns : goal.returns
returns c = load_leaves lathe_sheet _ c.lathe_text.ensures c.blank-sheet.result c.load.new.sheet c.load.result c.load.ensures
