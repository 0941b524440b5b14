use Rattle.seats.proofs.Single.{offer_agrees}
use Rattle.seats.proofs.theorems.a_word_is_refused_exactly_where_it_is_not_offered.Goals as goal

pub returns : goal.returns
returns c = offer_agrees
