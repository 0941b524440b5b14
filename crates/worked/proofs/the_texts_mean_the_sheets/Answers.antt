use Rattle.worked.proofs.Loads.{texts_mean}
use Rattle.worked.proofs.the_texts_mean_the_sheets.Goals as goal

pub returns : goal.returns
returns c = texts_mean
