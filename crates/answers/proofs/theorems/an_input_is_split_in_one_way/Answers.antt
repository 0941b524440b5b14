use Rattle.answers.proofs.Splits.{one_split}
use Rattle.answers.proofs.theorems.an_input_is_split_in_one_way.Goals as goal

pub returns : goal.returns
returns c = one_split
