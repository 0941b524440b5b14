use Rattle.sources.proofs.Begun.{runs_by_begins}
use Rattle.sources.proofs.text.runs_begin_after_spaces.Goals as goal

pub returns : goal.returns
returns c = runs_by_begins
