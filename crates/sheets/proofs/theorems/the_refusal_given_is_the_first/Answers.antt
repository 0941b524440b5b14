use Rattle.sheets.proofs.OneAnswer.{one_answer}
use Rattle.sheets.proofs.theorems.the_refusal_given_is_the_first.Goals as goal

pub returns : goal.returns
returns c = one_answer
