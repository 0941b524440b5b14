use Rattle.answers.proofs.Messaging.{one_list}
use Rattle.answers.proofs.theorems.a_rest_has_one_list_of_messages.Goals as goal

pub returns : goal.returns
returns c = one_list
