use Rattle.beachwhisk.proofs.SameHalls.{one_hearing}
use Rattle.beachwhisk.proofs.theorems.the_sheets_of_a_text_hear_the_same.Goals as goal

pub returns : goal.returns
returns c = one_hearing
