use Rattle.grammar.proofs.Masking.{held_none}
use Rattle.grammar.proofs.masks.Masks.none.Goals as goal

pub returns : goal.returns
returns c = held_none c.none-none.result c.none-none.ensures
