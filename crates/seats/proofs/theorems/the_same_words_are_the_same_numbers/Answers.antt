use Rattle.seats.proofs.Sameness.{one_record}
use Rattle.seats.proofs.theorems.the_same_words_are_the_same_numbers.Goals as goal

pub returns : goal.returns
returns c = one_record
