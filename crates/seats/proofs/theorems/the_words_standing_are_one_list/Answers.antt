use Rattle.seats.proofs.Single.{one_list}
use Rattle.seats.proofs.theorems.the_words_standing_are_one_list.Goals as goal

pub returns : goal.returns
returns c = one_list
