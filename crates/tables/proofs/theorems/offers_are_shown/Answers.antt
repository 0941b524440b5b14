use Rattle.tables.proofs.Stated.{offers_are_shown}
use Rattle.tables.proofs.theorems.offers_are_shown.Goals as goal

pub returns : goal.returns
returns c = offers_are_shown
