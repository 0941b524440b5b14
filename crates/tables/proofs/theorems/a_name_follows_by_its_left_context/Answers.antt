use Rattle.tables.proofs.Stated.{names_follow_by_context}
use Rattle.tables.proofs.theorems.a_name_follows_by_its_left_context.Goals as goal

pub returns : goal.returns
returns c = names_follow_by_context
