use Rattle.std.proofs.Common.{length}
use Rattle.readings.proofs.cut.+cut_all.Given as goal

abbrev pub decreases-cut_all : goal.decreases-cut_all
decreases-cut_all g l = length l.symbols.now
