use Rattle.tables.proofs.Stated.{columns_keep}
use Rattle.tables.proofs.theorems.columns_keep_under_other_words.Goals as goal

pub returns : goal.returns
returns c = columns_keep
