use Rattle.tables.proofs.Stated.{commands_are_complete}
use Rattle.tables.proofs.theorems.commands_are_complete.Goals as goal

pub returns : goal.returns
returns c = commands_are_complete
