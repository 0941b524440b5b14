use Rattle.beachwhisk.proofs.SameHalls.{one_hall}
use Rattle.beachwhisk.proofs.theorems.the_sheets_of_a_text_keep_the_same_halls.Goals as goal

pub returns : goal.returns
returns c = one_hall
