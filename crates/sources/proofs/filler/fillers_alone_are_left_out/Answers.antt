use Rattle.sources.proofs.Alike.{fillers_only}
use Rattle.sources.proofs.filler.fillers_alone_are_left_out.Goals as goal

pub returns : goal.returns
returns c = fillers_only
