use Rattle.tables.proofs.Stated.{columns_are_exact}
use Rattle.tables.proofs.theorems.columns_are_exact.Goals as goal

pub returns : goal.returns
returns c = columns_are_exact
