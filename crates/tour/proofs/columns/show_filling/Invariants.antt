use Rattle.std.proofs.Common.{length}
use Rattle.tour.proofs.columns.show_filling.Given as goal

abbrev pub decreases-loop-heard : goal.decreases-loop-heard
decreases-loop-heard g l = length (g.S.Source.meaning l.source).words
